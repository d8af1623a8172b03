-- what a reader must believe, in 01's order
pub mod Exprs
-- what the contracts and the proofs speak of
pub mod Parts
