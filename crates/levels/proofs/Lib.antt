pub mod Universes
