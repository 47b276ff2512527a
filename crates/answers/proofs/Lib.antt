pub mod AnswersRead
