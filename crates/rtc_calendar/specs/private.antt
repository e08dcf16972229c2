-- What only proofs and bodies need.
pub mod Days
pub mod Wanted
