-- What later statements are written in.
pub mod Fraction
pub mod Rounding
