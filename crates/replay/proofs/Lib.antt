mod Quiet
mod Scenes
mod Replaying
