pub mod Machine
pub mod ItemRow
pub mod MessageRow
pub mod RecordRow
pub mod Step
pub mod Run
pub mod Faithful
pub mod Written
