mod Sending
mod Passing
