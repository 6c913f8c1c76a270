mod Loading
pub mod Cuts
mod Refusals
mod Stocks
mod Stores
