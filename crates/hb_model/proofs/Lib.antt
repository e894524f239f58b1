mod ArtifactBatches
pub mod Batches
pub mod BlobRows
mod CollectBatches
pub mod ContentBatches
pub mod EntrySteps
mod ExampleTurns
mod ExampleVerdicts
pub mod FitLaws
pub mod ProjectNames
mod Remaking
mod RetainBatches
pub mod SeenRows
mod Tables
pub mod UsedBound
pub mod WholeSteps
