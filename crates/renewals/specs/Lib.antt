pub mod Line
pub mod Form
pub mod Entries
pub mod Report
pub mod Texts
