pub mod Orders
mod Listed
mod Found
pub mod Turning
pub mod Fairness
pub mod Repeated
