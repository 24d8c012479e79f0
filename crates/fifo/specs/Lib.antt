pub mod Lists
pub mod Bounded
pub mod Changes
