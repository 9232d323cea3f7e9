mod Kept
mod Programs
mod Tables
