-- ---- what a reader must believe, all of it: the clauses of a layout, and the property of runs
pub mod Claims
pub mod Places
pub mod ThirdProperty
pub mod Success
