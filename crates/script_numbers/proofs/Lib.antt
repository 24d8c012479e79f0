mod Written
mod Quotients
mod Folds
mod Constants
