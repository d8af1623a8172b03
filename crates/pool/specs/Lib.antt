-- what a reader must believe, in 01's order
pub mod Tables
pub mod Kinds
pub mod Tree
pub mod Unfold
pub mod Rules
pub mod Notation
-- what the contracts and the proofs speak of
pub mod Codes
pub mod Areas
pub mod Depths
pub mod Sound
pub mod Views
