pub mod MountLocks
pub mod Locks
