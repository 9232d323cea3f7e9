mod Counts
mod Counting
mod Places
mod Spans
mod Lined
mod Once
mod Unbroken
mod Typables
