pub mod Checks
pub mod Errors
pub mod Gets
