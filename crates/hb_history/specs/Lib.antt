pub mod Artifacts
pub mod Naming
pub mod PresentRows
pub mod Versions
