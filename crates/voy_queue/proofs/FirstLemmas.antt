-- The first segments of what was put are what some first puts made.
use Rattle.std.proofs.Common.{◌≡◌, ◌<◌, ◌⊎◌, inl, inr, ℕ, zero, suc, Bool, true, false, List, [], ◌∷◌, Option, length, take, refl, ap, ◌∙◌, arith}
use Rattle.std.proofs.lemmas.Bool.{leb-true, leb-false}
use Rattle.std.proofs.lemmas.List.{take_all}
use Rattle.std.specs.Prelude.{nat_le, if◌then◌else◌}
use Rattle.voy_event.specs.declared.event.Event.{Event}
use Rattle.voy_queue.specs.Laws.{FirstPartIsPut}
use Rattle.voy_queue.specs.Putting.{Put, added_to, begun, pending_after, pending_with}
use Rattle.voy_queue.specs.declared.end.Added.{Added}
use Rattle.voy_queue.specs.declared.end.End.{End}
use Rattle.voy_schema.specs.declared.table.Table.{Table}
use Rattle.voy_tables.specs.declared.change.Spot.{Spot}

-- an event changes the last segment only, or comes behind it
put_behind : (schema : List Table) (max_bytes : ℕ) (end : End) (pending : List Added) (event : Event) (spot : Option Spot) (n : ℕ)
    → n < length (pending_after schema max_bytes end pending event spot) → take n (pending_after schema max_bytes end pending event spot) ≡ take n pending
put_behind schema max_bytes end pending event spot zero low = refl
put_behind schema max_bytes end [] event spot (suc n) low = absurd (omega arith)
put_behind schema max_bytes end (one ∷ next ∷ more) event spot (suc n) low = ap (λ rest. one ∷ rest) (put_behind schema max_bytes one.end (next ∷ more) event spot n (omega arith))
put_behind schema max_bytes end (one ∷ []) event spot (suc n) low = by one.end.closed n low where
  by : (closed : Bool) (n : ℕ) → suc n < length (if closed then one ∷ begun schema max_bytes one.end event spot ∷ [] else added_to schema max_bytes one event spot ∷ [])
      → take (suc n) (if closed then one ∷ begun schema max_bytes one.end event spot ∷ [] else added_to schema max_bytes one event spot ∷ []) ≡ take (suc n) (one ∷ [])
  by true zero low = refl
  by true (suc n) low = absurd (omega arith)
  by false n low = absurd (omega arith)

-- so many first segments are what some puts made of what was there, or still those that were there
abbrev Either : List Table → ℕ → End → List Added → List Put → ℕ → Type 0
Either schema max_bytes end pending puts n =
    ((m : ℕ) × (take n (pending_with schema max_bytes end pending puts) ≡ pending_with schema max_bytes end pending (take m puts)))
    ⊎ (take n (pending_with schema max_bytes end pending puts) ≡ take n pending)

either : (schema : List Table) (max_bytes : ℕ) (end : End) (pending : List Added) (puts : List Put) (n : ℕ) → Either schema max_bytes end pending puts n
either schema max_bytes end pending [] n = inr refl
either schema max_bytes end pending (put ∷ puts) n = by (either schema max_bytes end (pending_after schema max_bytes end pending put.event put.spot) puts n) where
  now : List Added
  now = pending_after schema max_bytes end pending put.event put.spot

  whole : (b : Bool) → nat_le (length now) n ≡ b → take n (pending_with schema max_bytes end now puts) ≡ take n now → Either schema max_bytes end pending (put ∷ puts) n
  whole true long is = inl (1, is ∙ take_all n now (leb-true _ _ long))
  whole false short is = inr (is ∙ put_behind schema max_bytes end pending put.event put.spot n (leb-false _ _ short))

  by : Either schema max_bytes end now puts n → Either schema max_bytes end pending (put ∷ puts) n
  by (inl (m, is)) = inl (suc m, is)
  by (inr is) = whole (nat_le (length now) n) refl is

nothing : (n : ℕ) → take n (let none : List Added = [] in none) ≡ []
nothing zero = refl
nothing (suc n) = refl

pub first_part_is_put : FirstPartIsPut
first_part_is_put schema max_bytes end puts count = elim (either schema max_bytes end [] puts count) [
  | inl (m, is) ↦ record { some = m; same = is }
  | inr is ↦ record { some = 0; same = is ∙ nothing count }
]
