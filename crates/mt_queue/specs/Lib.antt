pub mod Openings
pub mod PassViews
pub mod Rule
pub mod Steps
pub mod Halves
pub mod Kept
