pub mod LockedLaws
