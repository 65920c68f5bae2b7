pub mod JournalLogLemmas
pub mod OpeningLemmas
pub mod TakenLemmas
