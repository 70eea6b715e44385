pub mod UnreadLaws
pub mod WayLaws
pub mod TwiceLaws
