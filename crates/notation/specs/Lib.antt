-- what the contracts and the proofs speak of; what a reader must believe is in pool/Notation
pub mod Hashes
pub mod Repeats
pub mod Classes
pub mod Tables
