pub mod Options
pub mod Printed
pub mod Requests
