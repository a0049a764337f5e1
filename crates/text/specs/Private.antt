-- What only the contracts of private functions cite: a line put piece by piece. Nothing public rests on it. Assumes nothing.
pub mod Pieces
