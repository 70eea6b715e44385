pub mod Rows
pub mod Verbs
pub mod Errnos
pub mod Linux
pub mod Refusals
pub mod Laws
