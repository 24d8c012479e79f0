pub mod Numbers
pub mod Doubles
