pub mod AcceptedLaws
pub mod StandingLaws
pub mod SlideLaws
pub mod LeftTreeLaws
pub mod LeftLaws
mod FoundLaws
mod TakenLaws
pub mod RemovedLaws
pub mod UnmountLaws
pub mod SizeLaws
mod MayGoLaws
pub mod InsideLaws
mod HoldingLaws
pub mod CandidateLaws
pub mod GoingLaws
pub mod DetachedLaws
