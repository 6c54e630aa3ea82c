pub mod Bits
pub mod Tables
pub mod Fips46
