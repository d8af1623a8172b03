-- what the contracts and the proofs speak of; what a reader must believe is in pool/Rules
pub mod Fields
pub mod Marks
