-- The laws of the tide series.
pub mod SeriesLaws
