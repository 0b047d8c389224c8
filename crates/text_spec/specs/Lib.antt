pub mod Json
pub mod JsonCode
pub mod Compact
pub mod Number
pub mod JsonText
pub mod Order
pub mod Stamp
pub mod StampReader
