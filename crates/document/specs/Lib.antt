-- what a reader must believe, in 01's order
pub mod Doc
pub mod Rows
pub mod Stored
pub mod Walk
-- what the contracts and the proofs speak of
pub mod Codes
pub mod Stops
pub mod Sink
pub mod Leaves
