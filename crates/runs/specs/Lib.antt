-- what a reader must believe: what the functions ensure
pub mod Calls
