pub mod MoveLaws
pub mod SweepLaws
