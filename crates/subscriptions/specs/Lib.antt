pub mod Facts
pub mod Revision
pub mod Changes
pub mod Cycle
pub mod Keys
pub mod Edges
