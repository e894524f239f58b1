pub mod Causes
pub mod Clocks
pub mod Scripts
pub mod Sources
pub mod Streams
