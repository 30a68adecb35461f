-- What those who take a part of a payload use.
pub mod PartLaws
