pub mod Batches
pub mod Lists
pub mod Pages
pub mod Tables
