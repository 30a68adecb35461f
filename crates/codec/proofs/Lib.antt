-- The laws of the card's bytes.
pub mod CodecLaws
pub mod AnswerLaws
pub mod OpenedLaws
pub mod PartLaws
