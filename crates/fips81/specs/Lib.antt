pub mod Fips81
pub mod Keyed
