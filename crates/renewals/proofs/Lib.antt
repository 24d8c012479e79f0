mod Steps
mod Forms
mod Says
mod Shown
mod Order
