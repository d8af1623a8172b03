pub mod Computing
pub mod Specimens
pub mod Operators
pub mod Refusals
pub mod LastProjection
pub mod Handing
