pub mod Lists
pub mod Replay
