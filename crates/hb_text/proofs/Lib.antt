pub mod DigestTexts
pub mod Digits
pub mod KeyOrders
pub mod NameScan
