mod ChangeOrder
pub mod KeysRise
mod PageRows
mod Room
