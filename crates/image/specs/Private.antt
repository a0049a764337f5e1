-- What only the contracts of private functions cite: what the walk over a file keeps, and the rest of the tests. Nothing public rests on it. Assumes nothing.
pub mod Walk
pub mod Rest
