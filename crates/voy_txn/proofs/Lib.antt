pub mod FieldLemmas
pub mod RowLemmas
pub mod ItemLemmas
pub mod PayloadLemmas
pub mod LoopLemmas
