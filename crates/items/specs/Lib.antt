pub mod Queue
pub mod Item
pub mod Faults
pub mod Edges
pub mod Keys
