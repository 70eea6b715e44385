pub mod Lines
pub mod Sent
pub mod Queue
pub mod Room
pub mod Misplaced
pub mod Told
