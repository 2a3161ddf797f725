pub mod Keys
pub mod OldRowLemmas
pub mod RowLemmas
