pub mod Items
pub mod Plans
pub mod Spelling
pub mod Apks
pub mod StoreItems
pub mod Stores
pub mod Measures
