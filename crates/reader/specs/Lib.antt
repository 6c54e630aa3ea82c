pub mod Line
pub mod Command
pub mod Raw
pub mod Reader
pub mod Results
