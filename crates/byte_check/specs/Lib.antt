-- what a reader must believe, in 01's order
pub mod Scan
-- what the contracts and the proofs speak of
pub mod Runs
