-- The laws of refusals: exactly when, one table after another, and what an output holds.
pub mod AnsweredLaws
pub mod RefusalLaws
pub mod FirstLaws
pub mod OutputLaws
pub mod FirstBadLaws
