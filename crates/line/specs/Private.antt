-- What only the contracts of private functions cite: a write line by the places of its digits. Nothing public rests on it. Assumes nothing.
pub mod Quick
