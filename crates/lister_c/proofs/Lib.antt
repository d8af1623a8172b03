pub mod Stores
pub mod Answers
