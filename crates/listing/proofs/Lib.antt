-- The laws of the listing line.
pub mod LineLaws
pub mod LinesLaws
