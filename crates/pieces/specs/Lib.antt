-- what a reader must believe, in 01's order
pub mod Docs
-- what the contracts and the proofs speak of
pub mod Parens
pub mod Tiles
pub mod Puts
