pub mod Documents
pub mod StackLaws
pub mod Remaining
pub mod Taking
pub mod Turning
pub mod Answers
pub mod NumberLaws
mod Specimen
