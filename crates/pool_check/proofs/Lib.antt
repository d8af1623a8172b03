pub mod Scan
pub mod Decide
pub mod Acceptance
pub mod Verdicts
pub mod GreatestIndex
pub mod NumberLaws
