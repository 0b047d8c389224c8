pub mod NumberLaws
pub mod OrderLaws
pub mod DistinctKeys
pub mod CanonicalLaws
pub mod SameLaws
pub mod ValueLaws
pub mod LengthLaws
pub mod StampLaws
