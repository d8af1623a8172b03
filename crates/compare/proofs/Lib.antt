pub mod EqualLaws
pub mod LevelLaws
pub mod ListLaws
pub mod NameLaws
pub mod SeenLaws
