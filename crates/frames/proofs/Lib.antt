-- The laws of the frames.
pub mod LineLaws
pub mod RowSizes
pub mod RowLaws
pub mod FrameLaws
pub mod KnownLaws
