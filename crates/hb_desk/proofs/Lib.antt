pub mod AskedWhole
pub mod Chains
pub mod Driving
pub mod Histories
pub mod Interleave
pub mod LegalReplies
pub mod Stepping
