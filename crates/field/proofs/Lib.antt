-- The laws of the field edition.
pub mod PackLaws
pub mod FieldLaws
pub mod ReturnLaws
pub mod AnswerLaws
