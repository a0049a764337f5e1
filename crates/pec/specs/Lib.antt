pub mod Pec
pub mod Lent
