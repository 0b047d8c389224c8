pub mod Buffers
pub mod FieldValues
pub mod Links
pub mod Requests
pub mod Scans
pub mod SpanHeads
