mod Starts
mod Simple
mod Places
mod Turns
mod Firings
