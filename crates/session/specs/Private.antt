-- What only the contracts of private functions cite. Nothing public rests on it. Assumes nothing.
pub mod Ready
