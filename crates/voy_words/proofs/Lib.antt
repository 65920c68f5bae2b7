pub mod CommandLemmas
pub mod GrammarLemmas
pub mod NumberLemmas
pub mod WordLemmas
