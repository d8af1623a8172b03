-- what a reader must believe, in 01's order
pub mod Utf8
pub mod Letterlike
pub mod Quoted
-- what the contracts and the proofs speak of
pub mod Steps
pub mod Ranges
