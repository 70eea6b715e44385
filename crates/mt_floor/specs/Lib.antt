pub mod Watcher
pub mod Schedule
pub mod Headline
pub mod WellFormed
pub mod Rows
pub mod Finding
pub mod Laws
