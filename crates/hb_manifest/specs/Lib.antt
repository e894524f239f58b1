pub mod Descriptors
pub mod Forms
pub mod Json
pub mod Laws
pub mod Lists
pub mod MediaTypes
pub mod Parts
