mod Plain
mod Slices
