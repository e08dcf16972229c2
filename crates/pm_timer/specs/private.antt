-- What only proofs and bodies need.
pub mod Stretch
