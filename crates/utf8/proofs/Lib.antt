pub mod Laws
pub mod Classes
pub mod Standard
