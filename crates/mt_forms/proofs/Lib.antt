pub mod SplitLaws
pub mod TableLaws
