pub mod Uuids
pub mod Lacking
pub mod Words
pub mod Whole
pub mod Written
pub mod Stored
