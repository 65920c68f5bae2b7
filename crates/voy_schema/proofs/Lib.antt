pub mod BigintLemmas
pub mod AbbreviationLemmas
pub mod RowLemmas
pub mod ReadingLemmas
pub mod LawfulReading
