mod ScreenLaws
mod PlayLaws
