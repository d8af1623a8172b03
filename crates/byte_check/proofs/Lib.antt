pub mod Scan
pub mod RunLaws
pub mod NaturalLaws
