pub mod EndLemmas
pub mod GatherLemmas
pub mod ShelfLemmas
pub mod CommitLemmas
pub mod PlaceLemmas
pub mod StateLemmas
pub mod SoundLemmas
pub mod PutLemmas
pub mod LawfulLemmas
pub mod NextLemmas
pub mod TurnLemmas
mod NameLemmas
mod TableLemmas
mod SnapshotImages
mod SnapshotTexts
mod SnapshotWrites
mod SnapshotTurns
mod SnapshotLoop
pub mod ChangeLemmas
mod SnapshotAdds
