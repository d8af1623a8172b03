pub mod Emitting
