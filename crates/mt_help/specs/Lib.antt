pub mod Pages
pub mod Lines
pub mod Laws
pub mod Reasons
