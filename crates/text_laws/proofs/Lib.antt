pub mod NumberLaws
pub mod OrderLaws
pub mod MemberLaws
pub mod CanonicalLaws
pub mod SameLaws
pub mod ReorderedLaws
pub mod ValueLaws
pub mod LengthLaws
mod NumberExamples
mod ValueExamples
pub mod StampDigits
mod StampReads
mod StampStands
mod StampClocks
mod StampPrinted
pub mod StampLaws
mod StampExamples
