pub mod Padded
pub mod Notices
pub mod Messages
pub mod Responses
