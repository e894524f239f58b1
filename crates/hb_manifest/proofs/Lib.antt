pub mod Contained
pub mod DigestTexts
pub mod JsonLists
pub mod Listing
pub mod Once
pub mod Sound
pub mod Told
