pub mod AcceptedLaws
pub mod ChangeLaws
pub mod SettingLaws
pub mod ChosenLaws
pub mod WalkedLaws
pub mod SizeLaws
pub mod InsideLaws
