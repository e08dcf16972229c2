-- What private contracts and the proofs of closed forms need: no contract of a public call cites it.
pub mod Plan
pub mod Stretch
pub mod Taken
