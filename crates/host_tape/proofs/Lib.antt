pub mod PlayedLemmas
pub mod Steps
pub mod Taken
pub mod Grammar
pub mod Kept
