pub mod ReadLaws
pub mod OptionLaws
pub mod ReasonLaws
