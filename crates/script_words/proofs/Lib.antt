mod Rests
mod Splits
mod Returns
mod Places
