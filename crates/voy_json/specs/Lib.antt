pub mod Document
pub mod Refusal
pub mod NameLaws
pub mod Canonical
pub mod CanonicalLaws
pub mod LineLaws
