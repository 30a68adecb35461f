-- The laws of three numbers in a row and of the mark.
pub mod LengthLaws
pub mod SizeLaws
pub mod MarkLaws
