pub mod Dates
pub mod ClockLemmas
pub mod DayLemmas
pub mod DigitLemmas
pub mod RangeLaws
pub mod LimitValues
