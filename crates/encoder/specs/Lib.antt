pub mod Encoded
pub mod Written
pub mod RoundTrip
