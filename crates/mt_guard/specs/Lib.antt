pub mod Refusals
pub mod Coming
pub mod Changing
pub mod Judging
