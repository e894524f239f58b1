pub mod Places
pub mod Deciding
pub mod Phases
pub mod Pushes
