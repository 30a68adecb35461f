-- The laws of a call on bytes.
pub mod BytesLaws
