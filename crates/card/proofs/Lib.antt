-- The laws of the card: its checks and its calls.
pub mod CheckLaws
pub mod ValidLaws
pub mod VectorLaws
pub mod StepLaws
pub mod CallLaws
