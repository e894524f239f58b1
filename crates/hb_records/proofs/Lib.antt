pub mod KeyOrders
mod PatternCuts
