pub mod Numbers
pub mod Sources
pub mod Values
pub mod Fields
pub mod Results
