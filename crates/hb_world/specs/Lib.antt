pub mod Asking
pub mod Pullable
pub mod Reading
pub mod Remembering
pub mod Starting
pub mod StoreStands
pub mod Storing
pub mod Worlds
