pub mod Seen
pub mod Equal
