mod Verbs
mod Lists
mod Lines
