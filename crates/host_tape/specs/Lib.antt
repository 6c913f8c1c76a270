pub mod Tape
pub mod Reading
pub mod Played
pub mod Next
