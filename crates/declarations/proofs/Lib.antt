pub mod TakenLaws
pub mod DeclarLaws
pub mod FineLaws
