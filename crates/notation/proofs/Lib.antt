pub mod Classing
pub mod HashLaws
pub mod RepeatLaws
pub mod StringClasses
pub mod NameClasses
pub mod Owning
pub mod Entries
