pub mod Texts
pub mod Errors
pub mod Arguments
pub mod Commands
