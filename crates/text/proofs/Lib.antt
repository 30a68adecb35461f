-- The laws of texts.
pub mod TextLaws
