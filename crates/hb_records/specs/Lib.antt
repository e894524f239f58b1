pub mod Entries
pub mod Examples
pub mod Keys
pub mod Orders
pub mod PatternTexts
pub mod Patterns
pub mod Retention
pub mod Selectors
