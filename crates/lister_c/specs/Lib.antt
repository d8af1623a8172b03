-- ---- what a reader must believe, all of it: what the C functions report, and how their contracts read their references
pub mod Reports
pub mod Frames
