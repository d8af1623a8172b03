pub mod Clips
pub mod Unfolds
pub mod TreeLaws
pub mod ExprUnfolds
pub mod RowUnfolds
pub mod Standing
