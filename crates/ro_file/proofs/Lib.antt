pub mod Rules
pub mod Standing
pub mod Opens
pub mod Serving
