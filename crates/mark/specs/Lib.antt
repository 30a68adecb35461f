-- Three numbers in a row, and the mark.
pub mod Mark
pub mod Ranges
