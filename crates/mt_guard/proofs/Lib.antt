pub mod FreeLaws
pub mod ComingLaws
pub mod JudgedLaws
pub mod FitLaws
pub mod FollowLaws
