-- The laws of numbers in bytes: what callers use, and never a definition's text. They cite `OctetLaws` alone.
pub mod ReadLaws
pub mod DigitLaws
pub mod SpliceLaws
pub mod OctetLaws
