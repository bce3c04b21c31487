pub mod Continuing
mod Numbers
