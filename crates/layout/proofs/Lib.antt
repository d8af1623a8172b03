pub mod Painting
pub mod Pieces
pub mod GroupLaws
pub mod Cases
pub mod Going
pub mod Answers
pub mod NumberLaws
mod Specimen
