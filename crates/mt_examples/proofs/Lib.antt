pub mod SendLaws
pub mod AnswerLaws
