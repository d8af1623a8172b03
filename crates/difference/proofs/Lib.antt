pub mod ClassLaws
pub mod OrderLaws
pub mod WalkLaws
pub mod CompareLaws
pub mod Specimen
