pub mod Checking
pub mod Leads
