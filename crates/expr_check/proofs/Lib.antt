pub mod Decide
pub mod ScanLaws
