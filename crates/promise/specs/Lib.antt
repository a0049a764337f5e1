pub mod One
pub mod Lists
pub mod First
