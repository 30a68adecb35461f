-- The laws of the three functions: what callers use, and never a definition's text.
pub mod NearRule
pub mod NearLaws
pub mod NearSteps
pub mod RootLaws
pub mod RootPairs
pub mod WholeLaws
