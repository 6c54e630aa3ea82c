pub mod Bits
pub mod Cipher
