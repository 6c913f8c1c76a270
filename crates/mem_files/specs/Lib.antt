pub mod Files
pub mod FsVerity
