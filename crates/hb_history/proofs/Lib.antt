pub mod Additions
mod AllRows
pub mod ArtifactSizes
mod FoundRows
pub mod IdleRows
pub mod KeptWhole
pub mod NamedArtifacts
pub mod NamedGrace
mod PairSteps
mod PairTables
pub mod PresentRows
pub mod Settled
pub mod Sizes
pub mod UsedRows
mod VersionMoves
pub mod VersionSteps
pub mod WholeSound
