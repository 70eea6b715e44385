pub mod Screens
pub mod Played
