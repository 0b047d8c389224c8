pub mod Regexes
