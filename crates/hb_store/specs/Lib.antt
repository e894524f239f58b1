pub mod Bytes
pub mod Calls
pub mod Causes
pub mod Contents
pub mod Counts
pub mod MemReaders
pub mod MemStores
