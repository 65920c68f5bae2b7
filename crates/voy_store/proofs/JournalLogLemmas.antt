-- One payload more in a journal is one transaction more in its history, also in each image.
use Rattle.std.proofs.Common.{◌≡◌, ℕ, zero, suc, List, [], ◌∷◌, ◌++◌, Option, Some, None, take, refl, sym, ap, ◌∙◌}
use Rattle.std.specs.Option.{option_and_then, option_map}
use Rattle.voy_disk.specs.Images.{Image}
use Rattle.voy_disk.specs.Steps.{Follows, LeavesPrefix, StaysTold}
use Rattle.voy_journal.specs.Journal.{AddsPayloads, payloads_in}
use Rattle.voy_schema.specs.declared.table.Table.{Table}
use Rattle.voy_store.specs.JournalLogs.{HasHistory, history_told}
use Rattle.voy_store.specs.Stored.{history_in, store_name}
use Rattle.voy_txn.specs.Commits.{AddsTxns, with_txn}
use Rattle.voy_txn.specs.History.{History}
use Rattle.voy_txn.specs.Reading.{txn_reading}
use Rattle.voy_txn.specs.declared.txn.Txn.{Txn}

-- a told history with these transactions more
abbrev pub more : List Txn → Option History → Option History
more txns told = option_map (λ (h : History). h ++ txns) told

-- the transactions of payloads with more behind them
pub history_more : (schema : List Table) (payloads added : List (List ℕ)) (txns : List Txn) → history_in schema added ≡ Some txns
    → history_in schema (payloads ++ added) ≡ more txns (history_in schema payloads)
history_more schema [] added txns are = are
history_more schema (payload ∷ payloads) added txns are = by (history_more schema payloads added txns are) (txn_reading schema payload) where
  onto : (txn : Txn) (told : Option History) → option_map (λ (h : History). txn ∷ h) (more txns told) ≡ more txns (option_map (λ (h : History). txn ∷ h) told)
  onto txn None = refl
  onto txn (Some h) = refl

  by : history_in schema (payloads ++ added) ≡ more txns (history_in schema payloads) → (read : Option Txn)
      → option_and_then (λ txn. option_map (λ (h : History). txn ∷ h) (history_in schema (payloads ++ added))) read
      ≡ more txns (option_and_then (λ txn. option_map (λ (h : History). txn ∷ h) (history_in schema payloads)) read)
  by behind None = refl
  by behind (Some txn) = ap (option_map (λ (h : History). txn ∷ h)) behind ∙ onto txn (history_in schema payloads)

told_more : (schema : List Table) (payloads : Option (List (List ℕ))) (added : List (List ℕ)) (txns : List Txn) → history_in schema added ≡ Some txns
    → history_told schema (option_map (λ (payloads : List (List ℕ)). payloads ++ added) payloads) ≡ more txns (history_told schema payloads)
told_more schema None added txns are = refl
told_more schema (Some payloads) added txns are = history_more schema payloads added txns are

-- the history of a payload, and of it or nothing
pub history_of_one : (schema : List Table) (payload : List ℕ) (txn : Txn) → txn_reading schema payload ≡ Some txn → history_in schema (payload ∷ []) ≡ Some (txn ∷ [])
history_of_one schema payload txn reads = rw reads refl

history_of_some : (schema : List Table) (payload : List ℕ) (txn : Txn) (n : ℕ) → txn_reading schema payload ≡ Some txn
    → history_in schema (take n (payload ∷ [])) ≡ Some (take n (txn ∷ []))
history_of_some schema payload txn zero reads = refl
history_of_some schema payload txn (suc zero) reads = history_of_one schema payload txn reads
history_of_some schema payload txn (suc (suc n)) reads = history_of_one schema payload txn reads

-- one payload more is one transaction more
pub history_grows : (schema : List Table) (payload : List ℕ) (txn : Txn) (old new : Option (List (List ℕ))) → txn_reading schema payload ≡ Some txn
    → new ≡ option_map (λ (payloads : List (List ℕ)). payloads ++ payload ∷ []) old → history_told schema new ≡ with_txn (history_told schema old) txn
history_grows schema payload txn old new reads adds =
    ap (history_told schema) adds ∙ told_more schema old (payload ∷ []) (txn ∷ []) (history_of_one schema payload txn reads) ∙ by (history_told schema old)
  where
    by : (told : Option History) → more (txn ∷ []) told ≡ with_txn told txn
    by None = refl
    by (Some history) = refl

-- an image with these payloads more has these transactions more
image_more : (schema : List Table) (added : List (List ℕ)) (txns : List Txn) (i j : Image) → history_in schema added ≡ Some txns → AddsPayloads store_name added i j
    → history_told schema (payloads_in store_name j) ≡ more txns (history_told schema (payloads_in store_name i))
image_more schema added txns i j are step = ap (history_told schema) step.payloads ∙ told_more schema (payloads_in store_name i) added txns are

-- after Ok each image has the transaction more
pub images_add : (schema : List Table) (payload : List ℕ) (txn : Txn) (old new : Image → Type 0) → txn_reading schema payload ≡ Some txn
    → Follows (AddsPayloads store_name (payload ∷ [])) old new → Follows (AddsTxns (txn ∷ [])) (HasHistory schema old) (HasHistory schema new)
images_add schema payload txn old new reads follows = record {
  from = λ read has.
      let image = follows.from has.image has.is in
      record {
        before = history_told schema (payloads_in store_name image.before);
        was = record { image = image.before; is = image.was; reads = refl };
        by = sym has.reads ∙ image_more schema (payload ∷ []) (txn ∷ []) image.before has.image (history_of_one schema payload txn reads) image.by;
      };
}

-- whatever the answer, each image has it more, or nothing
pub images_add_some : (schema : List Table) (payload : List ℕ) (txn : Txn) (old new : Image → Type 0) → txn_reading schema payload ≡ Some txn
    → LeavesPrefix (AddsPayloads store_name) (payload ∷ []) old new → LeavesPrefix AddsTxns (txn ∷ []) (HasHistory schema old) (HasHistory schema new)
images_add_some schema payload txn old new reads follows = record {
  from = λ read has.
      let image = follows.from has.image has.is in
      let n = image.by.0 in
      record {
        before = history_told schema (payloads_in store_name image.before);
        was = record { image = image.before; is = image.was; reads = refl };
        by = (n, sym has.reads ∙ image_more schema (take n (payload ∷ [])) (take n (txn ∷ [])) image.before has.image (history_of_some schema payload txn n reads) image.by.1);
      };
}

-- where an image read, or read as none, one does afterwards
pub images_stay_told : (schema : List Table) (old new : Image → Type 0) → StaysTold old new → StaysTold (HasHistory schema old) (HasHistory schema new)
images_stay_told schema old new stays = record {
  has = λ read has.
      let there = stays.has has.image has.is in
      (history_told schema (payloads_in store_name there.0), record { image = there.0; is = there.1; reads = refl });
}
