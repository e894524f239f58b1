pub mod BuiltAudits
pub mod BuiltEntries
mod Puts
mod Findings
pub mod ProjectVersions
pub mod RowAnswers
pub mod SeenRows
