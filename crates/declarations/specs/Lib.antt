-- what a reader must believe, in 01's order
pub mod Declars
pub mod Roots
-- what the contracts and the proofs speak of
pub mod Heads
