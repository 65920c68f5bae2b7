-- A journal opens just where its history was taken.
use Rattle.std.proofs.Common.{◌≡◌, ◌&&◌, ℕ, zero, suc, Bool, true, false, List, [], ◌∷◌, ◌++◌, Option, Some, None, refl, sym, ap, subst, ◌∙◌}
use Rattle.std.proofs.lemmas.List.{append-nil, append_assoc}
use Rattle.std.proofs.lemmas.Option.{none-some}
use Rattle.std.specs.Option.{option_and_then, option_map}
use Rattle.voy_journal.specs.Grammar.{gate_of}
use Rattle.voy_journal.specs.RefusalLaws.{none_refused, taken_whole}
use Rattle.voy_journal.specs.Refusals.{first_refused, knows_after}
use Rattle.voy_schema.specs.declared.table.Table.{Table}
use Rattle.voy_store.specs.Stored.{bad_gate, contents_with, history_in}
use Rattle.voy_store.specs.Taken.{TakenHistoriesOpen, is_taken, taken_after, takes}
use Rattle.voy_txn.specs.Contents.{Contents, contents_after, contents_of}
use Rattle.voy_txn.specs.History.{History}
use Rattle.voy_txn.specs.HistoryLaws.{contents_grow}
use Rattle.voy_txn.specs.Reading.{txn_reading}
use Rattle.voy_txn.specs.declared.txn.Txn.{Txn}

-- the first transaction of payloads that have a history, and those behind it
record Splits (schema : List Table) (payload : List ℕ) (payloads : List (List ℕ)) (history : History) : Type 0 where
  txn : Txn
  rest : History
  reads : txn_reading schema payload ≡ Some txn
  behind : history_in schema payloads ≡ Some rest
  is : history ≡ txn ∷ rest

both_hold : (a b : Bool) → (a && b) ≡ true → (a ≡ true) × (b ≡ true)
both_hold true true is = (refl, refl)
both_hold true false is = cc
both_hold false b is = cc

some_history : {x y : History} → Some x ≡ Some y → x ≡ y
some_history {x} {y} same = cc

split : (schema : List Table) (payload : List ℕ) (payloads : List (List ℕ)) (history : History)
    → history_in schema (payload ∷ payloads) ≡ Some history → Splits schema payload payloads history
split schema payload payloads history is = by (txn_reading schema payload) refl (history_in schema payloads) refl where
  by : (found : Option Txn) → txn_reading schema payload ≡ found → (behind : Option History) → history_in schema payloads ≡ behind
      → Splits schema payload payloads history
  by None none behind more = absurd (none-some history (sym (given None none behind more) ∙ is)) where
    given : (found : Option Txn) → txn_reading schema payload ≡ found → (behind : Option History) → history_in schema payloads ≡ behind
        → history_in schema (payload ∷ payloads) ≡ option_and_then (λ txn. option_map (λ h. txn ∷ h) behind) found
    given found reads behind more = rw (reads, more) refl
  by (Some txn) some None none = absurd (none-some history (sym (rw (some, none) refl) ∙ is))
  by (Some txn) some (Some rest) more = record { txn = txn; rest = rest; reads = some; behind = more; is = some_history (sym is ∙ rw (some, more) refl) }

step_taken : (schema : List Table) (contents : Contents) (payload : List ℕ) (txn : Txn) → txn_reading schema payload ≡ Some txn
    → takes schema contents txn ≡ true → contents_with schema contents payload ≡ Some (contents_after schema contents txn)
step_taken schema contents payload txn reads taken = rw (reads, taken) refl

step_refused : (schema : List Table) (contents : Contents) (payload : List ℕ) (txn : Txn) → txn_reading schema payload ≡ Some txn
    → takes schema contents txn ≡ false → contents_with schema contents payload ≡ None
step_refused schema contents payload txn reads refused = rw (reads, refused) refl

opens_from : (schema : List Table) (payloads : List (List ℕ)) (contents : Contents) (history : History) → history_in schema payloads ≡ Some history
    → taken_after schema contents history ≡ true → (known : Contents) × (knows_after (contents_with schema) contents payloads ≡ Some known)
opens_from schema [] contents history is taken = (contents, refl)
opens_from schema (payload ∷ payloads) contents history is taken =
    let first = split schema payload payloads history is in
    let both = both_hold (takes schema contents first.txn) (taken_after schema (contents_after schema contents first.txn) first.rest)
    (subst (λ h. taken_after schema contents h ≡ true) first.is taken) in
    let rest = opens_from schema payloads (contents_after schema contents first.txn) first.rest first.behind both.1 in
    (rest.0, ap (option_and_then (λ next. knows_after (contents_with schema) next payloads)) (step_taken schema contents payload first.txn first.reads both.0) ∙ rest.1)

taken_from : (schema : List Table) (payloads : List (List ℕ)) (contents known : Contents) (history : History) → history_in schema payloads ≡ Some history
    → knows_after (contents_with schema) contents payloads ≡ Some known → taken_after schema contents history ≡ true
taken_from schema [] contents known history is knows = subst (λ h. taken_after schema contents h ≡ true) (some_history is) refl
taken_from schema (payload ∷ payloads) contents known history is knows = by (taken_from schema payloads) (takes schema contents first.txn) refl where
  first : Splits schema payload payloads history
  first = split schema payload payloads history is

  next : {x y : Option Contents} → x ≡ y → option_and_then (λ c. knows_after (contents_with schema) c payloads) x ≡ option_and_then (λ c. knows_after (contents_with schema) c payloads) y
  next same = ap (option_and_then (λ c. knows_after (contents_with schema) c payloads)) same

  by : ((c k : Contents) (h : History) → history_in schema payloads ≡ Some h → knows_after (contents_with schema) c payloads ≡ Some k → taken_after schema c h ≡ true)
      → (taken : Bool) → takes schema contents first.txn ≡ taken → taken_after schema contents history ≡ true
  by behind false refused = absurd (none-some known (sym (next (step_refused schema contents payload first.txn first.reads refused)) ∙ knows))
  by behind true taken =
      subst (λ h. taken_after schema contents h ≡ true) (sym first.is)
      (rw taken (behind (contents_after schema contents first.txn) known first.rest first.behind
      (sym (next (step_taken schema contents payload first.txn first.reads taken)) ∙ knows)))

and_true : (a : Bool) → (a && true) ≡ a
and_true true = refl
and_true false = refl

and_again : (a b c : Bool) → (a && (b && c)) ≡ ((a && b) && c)
and_again true b c = refl
and_again false b c = refl

-- `whole` is what was taken before
more_from : (schema : List Table) (history : History) (contents : Contents) (txn : Txn) (whole : List Txn) → contents ≡ contents_of schema whole
    → taken_after schema contents (history ++ txn ∷ []) ≡ (taken_after schema contents history && takes schema (contents_of schema (whole ++ history)) txn)
more_from schema [] contents txn whole is =
    and_true (takes schema contents txn) ∙ ap (λ c. takes schema c txn) is ∙ ap (λ h. takes schema (contents_of schema h) txn) (sym (append-nil whole))
more_from schema (first ∷ rest) contents txn whole is =
    ap (λ b. takes schema contents first && b)
    (more_from schema rest (contents_after schema contents first) txn (whole ++ first ∷ []) (ap (λ c. contents_after schema c first) is ∙ sym (contents_grow schema whole first))
    ∙ ap (λ h. taken_after schema (contents_after schema contents first) rest && takes schema (contents_of schema h) txn) (append_assoc whole (first ∷ []) rest))
    ∙ and_again (takes schema contents first) (taken_after schema (contents_after schema contents first) rest) (takes schema (contents_of schema (whole ++ first ∷ rest)) txn)

none_of_gate : (payloads : List (List ℕ)) (found : Option ℕ) → option_map (gate_of payloads) found ≡ None → found ≡ None
none_of_gate payloads None is = refl
none_of_gate payloads (Some n) is = absurd (none-some (gate_of payloads n) (sym is))

pub taken_histories_open : TakenHistoriesOpen
taken_histories_open = record {
  opens = λ schema payloads history is taken.
      let known = opens_from schema payloads (contents_of schema []) history is taken in
      ap (option_map (gate_of payloads)) (taken_whole (contents_with schema) payloads (contents_of schema []) known.0 known.1);
  taken = λ schema payloads history is good.
      let known = none_refused (contents_with schema) payloads (contents_of schema [])
      (none_of_gate payloads (first_refused (contents_with schema) (contents_of schema []) payloads) good) in
      taken_from schema payloads (contents_of schema []) known.0 history is known.1;
  none = λ schema. refl;
  more = λ schema history txn. more_from schema history (contents_of schema []) txn [] refl;
}
