pub mod Numbers
pub mod FieldLaws
pub mod GrammarLaws
pub mod ReadLaws
pub mod RequestLaws
pub mod Exact
pub mod Kept
