pub mod Exact
pub mod Changes
mod Passing
