-- The laws of the tides.
pub mod StepLaws
pub mod DirectionLaws
pub mod PermanentLaws
pub mod BodyLaws
pub mod ShareLaws
pub mod DegreeTwoLaws
pub mod DegreeThreeLaws
pub mod TideLaws
pub mod AimLaws
pub mod Constants
