-- Histories that are good step by step: what holds along one, how it goes on by one more, and how its basis is changed.
use Rattle.std.specs.Prelude.{[], ◌∷◌, ◌++◌}
use Rattle.std.proofs.Common.{append-nil, subst, sym}
use Rattle.std.proofs.lemmas.List.{append_assoc}
use Rattle.voy_txn.specs.History.{History}
use Rattle.voy_txn.specs.declared.txn.Txn.{Txn}
use Rattle.voy_order.specs.Histories.{Basis, ComeInTurn, ComesNext, IsGood, beginning}
use Rattle.voy_order.specs.HistoryLaws.{whole}

-- what each transaction that comes next keeps holds behind all of them
pub along : (basis : Basis) (Holds : History → Type 0)
    → ((before : History) (txn : Txn) → ComesNext basis before txn → Holds before → Holds (before ++ txn ∷ []))
    → (before history : History) → ComeInTurn basis before history → Holds before → Holds (before ++ history)
along basis Holds step before [] turns holds = subst Holds (sym (append-nil before)) holds
along basis Holds step before (txn ∷ history) turns holds =
    subst Holds (append_assoc before (txn ∷ []) history)
    (along basis Holds step (before ++ txn ∷ []) history turns.1 (step before txn turns.0 holds))

turns_more : (basis : Basis) (before history : History) (txn : Txn)
    → ComeInTurn basis before history → ComesNext basis (before ++ history) txn → ComeInTurn basis before (history ++ txn ∷ [])
turns_more basis before [] txn turns next = (subst (λ b. ComesNext basis b txn) (append-nil before) next, tt)
turns_more basis before (first ∷ history) txn turns next = (
  turns.0,
  turns_more basis (before ++ first ∷ []) history txn turns.1
      (subst (λ b. ComesNext basis b txn) (sym (append_assoc before (first ∷ []) history)) next),
)

-- a good history with a transaction that comes next is good
pub good_more : (basis : Basis) (history : History) (txn : Txn)
    → IsGood basis history → ComesNext basis (whole basis history) txn → IsGood basis (history ++ txn ∷ [])
good_more basis history txn good next = record {
  begun = good.begun;
  in_turn = turns_more basis (beginning basis.origin) history txn good.in_turn next;
}

-- the first transactions of those that come in turn do so too
pub turns_front : (basis : Basis) (before history more : History) → ComeInTurn basis before (history ++ more) → ComeInTurn basis before history
turns_front basis before [] more turns = tt
turns_front basis before (txn ∷ history) more turns = (turns.0, turns_front basis (before ++ txn ∷ []) history more turns.1)

-- transactions that come in turn for one basis do so for another, where each step gives that and what it asks for the next one
pub turns_for : (basis other : Basis) (Holds : History → Type 0)
    → ((before : History) (txn : Txn) → ComesNext basis before txn → Holds before → ComesNext other before txn × Holds (before ++ txn ∷ []))
    → (before history : History) → Holds before → ComeInTurn basis before history → ComeInTurn other before history
turns_for basis other Holds step before [] holds turns = tt
turns_for basis other Holds step before (txn ∷ history) holds turns =
    let one : ComesNext other before txn × Holds (before ++ txn ∷ []) = step before txn turns.0 holds in
    (one.0, turns_for basis other Holds step (before ++ txn ∷ []) history one.1 turns.1)
