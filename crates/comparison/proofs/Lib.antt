pub mod CallLaws
pub mod NumberLaws
pub mod Meaning
