-- The C face: what each exported function answers, and what the lent storage holds afterwards.
pub mod Face
pub mod Steps
