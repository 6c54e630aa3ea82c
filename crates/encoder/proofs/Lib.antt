pub mod ByForm
pub mod Before
pub mod Kept
pub mod RoundTrip
