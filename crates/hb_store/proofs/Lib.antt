pub mod HeldBytes
pub mod Moments
pub mod Restaged
