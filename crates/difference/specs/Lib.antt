-- what a reader must believe
pub mod Order
-- what contracts and proofs speak of
pub mod Walks
