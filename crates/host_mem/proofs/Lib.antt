pub mod Composites
pub mod Changes
pub mod Serving
