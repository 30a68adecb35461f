-- What the theorems speak of: the conventional formulas, lists of calls on cards and on bytes, the first frames, and two cards and two records side by side.
pub mod Formulas
pub mod RealDistances
pub mod Lists
pub mod ByteLists
pub mod Core
pub mod FirstFrames
pub mod TwoCards
pub mod TwoRecords
pub mod Starred
pub mod OneOutcome
