-- what a reader must believe, in 01's order
pub mod Options
pub mod Shown
pub mod Variables
pub mod Runs
pub mod Binders
pub mod Operators
-- what the contracts and the proofs speak of
pub mod Leaves
pub mod Rename
pub mod Scopes
pub mod Steps
pub mod Spines
pub mod Acting
pub mod Asked
