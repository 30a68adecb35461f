-- The numbers of the paper: nearest whole number, root, a double as a whole number.
pub mod Near
pub mod Root
pub mod Whole
