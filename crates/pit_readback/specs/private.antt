-- What only the type's invariant needs: no promise of a call cites it.
pub mod Wiring
