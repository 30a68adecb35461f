-- What those who read a stream in parts use.
pub mod LeftLaws
