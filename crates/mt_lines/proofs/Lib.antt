pub mod LineLaws
pub mod PassLaws
pub mod StreamLaws
pub mod WordLaws
pub mod NumberLaws
pub mod PieceLaws
