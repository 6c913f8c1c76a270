pub mod Finds
pub mod Makes
pub mod Recording
pub mod Runs
pub mod Wordings
pub mod Plans
pub mod Instances
pub mod Outcomes
