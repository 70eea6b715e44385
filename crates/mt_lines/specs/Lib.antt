pub mod Lines
pub mod Reading
pub mod Stream
pub mod Words
