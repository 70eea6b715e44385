pub mod ViewLaws
pub mod ValueLaws
pub mod RunLaws
pub mod StepLaws
pub mod SplitLaws
pub mod JoinLaws
pub mod KeptLaws
