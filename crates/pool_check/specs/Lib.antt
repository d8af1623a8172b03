-- what a reader must believe, in 01's order
pub mod Check
-- what the contracts and the proofs speak of
pub mod Depths
pub mod Stages
