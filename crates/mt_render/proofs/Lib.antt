pub mod AppendLaws
pub mod ForestLaws
pub mod OnceLaws
pub mod BelowLaws
pub mod FloatLaws
pub mod NodeLaws
pub mod EventLaws
mod CellLaws
mod ChildrenLaws
mod EnteredLaws
mod StepLaws
mod LeadLaws
mod GroupLaws
mod LineLaws
mod PaletteLaws
mod PartLaws
pub mod InertLaws
