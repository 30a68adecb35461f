-- The paper's section on the tide series.
pub mod Series
pub mod Steps
