pub mod Benched
