pub mod Faults
pub mod Standings
pub mod Table
pub mod Rows
pub mod Image
pub mod Certificates
pub mod Plant
pub mod Puts
