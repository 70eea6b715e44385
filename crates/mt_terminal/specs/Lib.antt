pub mod Terminal
