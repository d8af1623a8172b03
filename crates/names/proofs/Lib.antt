pub mod Rows
pub mod Texts
