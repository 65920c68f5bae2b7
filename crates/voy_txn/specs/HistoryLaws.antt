-- Laws of histories and of commits, for crates above.
use Rattle.std.specs.Prelude.{◌≡◌, ℕ, zero, suc, ◌++◌, ◌||◌, Bool, true, false, List, [], ◌∷◌, Option, Some, None, option_map, refl, take}
use Rattle.std.specs.List.{filter_map, fold, list_any}
use Rattle.std.proofs.Common.{append-nil, ap, subst, ◌∙◌}
use Rattle.std.proofs.lemmas.List.Elements.{filter_map-append}
use Rattle.std.proofs.lemmas.List.Folds.{list_any-append}
use Rattle.std.proofs.lemmas.List.Sums.{fold-append}
use Rattle.voy_disk.specs.StepLaws.{follows_weaker}
use Rattle.voy_disk.specs.Steps.{Follows, LeavesPrefix, Same, SomeFirst}
use Rattle.voy_schema.specs.declared.table.Table.{Table}
use Rattle.voy_tables.specs.declared.change.Misfit.{Misfit}
use Rattle.voy_txn.specs.Commits.{AddsTxns, if_it_fits, if_none}
use Rattle.voy_txn.specs.Contents.{Contents, contents_after, contents_of, is_batch}
use Rattle.voy_txn.specs.History.{History, batch_of, batch_rows_after, batches_of, changes_after, channels_after, channels_of, is_load, is_loaded, tables_after, tables_of, vsns_after, vsns_of}
use Rattle.voy_txn.specs.Items.{violation_of}
use Rattle.voy_txn.specs.declared.txn.Txn.{Txn}

-- a fold over one more is a step more
fold_more : {A B : Type 0} (step : B → A → B) (start : B) (xs : List A) (x : A) → fold step start (xs ++ x ∷ []) ≡ step (fold step start xs) x
fold_more step start xs x = fold-append step start xs (x ∷ [])

pub tables_grow : (schema : List Table) (history : History) (txn : Txn)
    → tables_of schema (history ++ txn ∷ []) ≡ tables_after schema (tables_of schema history) txn
tables_grow schema history txn = fold_more (tables_after schema) _ history txn

pub vsns_grow : (history : History) (txn : Txn) → vsns_of (history ++ txn ∷ []) ≡ vsns_after (vsns_of history) txn
vsns_grow history txn = fold_more vsns_after _ history txn

pub channels_grow : (history : History) (txn : Txn) → channels_of (history ++ txn ∷ []) ≡ channels_after (channels_of history) txn
channels_grow history txn = fold_more channels_after _ history txn

or_nothing : (b : Bool) → (b || false) ≡ b
or_nothing true = refl
or_nothing false = refl

pub loaded_grow : (history : History) (txn : Txn) → is_loaded (history ++ txn ∷ []) ≡ (is_loaded history || is_load txn)
loaded_grow history txn = list_any-append is_load history (txn ∷ []) ∙ ap (λ b. is_loaded history || b) (or_nothing (is_load txn))

-- a batch is among those of a longer history where it was, or is the new one
pub batches_grow : (history : History) (txn : Txn) (table batch : ℕ)
    → list_any (λ b. is_batch (Some b) table batch) (batches_of (history ++ txn ∷ []))
    ≡ (list_any (λ b. is_batch (Some b) table batch) (batches_of history) || is_batch (batch_of txn) table batch)
batches_grow history txn table batch =
    ap (list_any is_it) (filter_map-append batch_of history (txn ∷ []))
    ∙ list_any-append is_it (batches_of history) (filter_map batch_of (txn ∷ []))
    ∙ ap (λ b. list_any is_it (batches_of history) || b) (one (batch_of txn) txn refl)
  where
    is_it : ℕ × ℕ → Bool
    is_it = λ b. is_batch (Some b) table batch

    one : (found : Option (ℕ × ℕ)) (txn : Txn) → batch_of txn ≡ found → list_any is_it (filter_map batch_of (txn ∷ [])) ≡ is_batch (batch_of txn) table batch
    one None txn is = rw is refl
    one (Some b) txn is = rw is (or_nothing (is_batch (Some b) table batch))

-- what a store with one more transaction knows
pub contents_grow : (schema : List Table) (history : History) (txn : Txn)
    → contents_of schema (history ++ txn ∷ []) ≡ contents_after schema (contents_of schema history) txn
contents_grow schema history txn = λ i. record {
  tables = tables_grow schema history txn i;
  vsns = vsns_grow history txn i;
  channels = channels_grow history txn i;
  has_batch = λ table batch. batches_grow history txn table batch i;
  loaded = loaded_grow history txn i;
  batch_rows = fold_more batch_rows_after (λ _. 0) history txn i;
  changes = fold_more changes_after (λ _. 0) history txn i;
}

nothing_added : (n : ℕ) (before after : Option History) → AddsTxns (take n []) before after → AddsTxns [] before after
nothing_added zero before after is = is
nothing_added (suc n) before after is = is

-- a commit leaves at most its transaction
pub adds_at_most : (schema : List Table) (contents : Contents) (txn : Txn) (old new : Option History → Type 0)
    → LeavesPrefix AddsTxns (if_it_fits schema contents txn) old new → LeavesPrefix AddsTxns (txn ∷ []) old new
adds_at_most schema contents txn old new leaves = follows_weaker leaves (by (violation_of schema contents.tables txn)) where
  by : (found : Option (ℕ × Misfit)) (before after : Option History) → SomeFirst AddsTxns (if_none found txn) before after → SomeFirst AddsTxns (txn ∷ []) before after
  by None before after some = some
  by (Some violation) before after some = (0, nothing_added some.0 before after some.1)

-- a commit whose items do not fit leaves nothing
pub adds_nothing : (schema : List Table) (contents : Contents) (txn : Txn) (violation : ℕ × Misfit) (old new : Option History → Type 0)
    → violation_of schema contents.tables txn ≡ Some violation
    → LeavesPrefix AddsTxns (if_it_fits schema contents txn) old new → Follows Same old new
adds_nothing schema contents txn violation old new found leaves = follows_weaker leaves (λ before after some. by before after (subst (λ v. SomeFirst AddsTxns (if_none v txn) before after) found some)) where
  none_more : (read : Option History) → option_map (λ (history : History). history ++ []) read ≡ read
  none_more None = refl
  none_more (Some history) = ap Some (append-nil history)

  by : (before after : Option History) → SomeFirst AddsTxns [] before after → after ≡ before
  by before after some = nothing_added some.0 before after some.1 ∙ none_more before
