pub mod Digests
pub mod Grammar
pub mod Names
pub mod NameScan
pub mod Numbers
pub mod Orders
pub mod Tags
