pub mod Listable
