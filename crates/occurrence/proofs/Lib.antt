pub mod PartLaws
pub mod SearchLaws
pub mod BitLaws
pub mod StepLaws
pub mod SweepLaws
