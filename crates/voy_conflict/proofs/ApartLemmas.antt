-- Nodes whose ids are apart.
use Rattle.std.specs.Prelude.{◌≡◌, ◌==◌, ℕ, Bool, true, false, List, [], ◌∷◌, ◌++◌, Option, Some, None, is_some, not, refl, if◌then◌else◌}
use Rattle.std.proofs.Common.{ap, sym, ◌∙◌}
use Rattle.std.proofs.lemmas.Bool.{and_from, and_parts, eq-eqb, eqb-true}
use Rattle.std.proofs.lemmas.Option.{none-some}
use Rattle.voy_link.specs.Arena.{Node, node_of, nodes_before, without}
use Rattle.voy_conflict.specs.Filing.{are_apart}
use Rattle.voy_conflict.specs.declared.entry.Entry.{Entry}

pub false_true : (b : Bool) → b ≡ false → b ≡ true → ⊥
false_true b no_more is = cc (no_more, is)

none_from : (o : Option (Node Entry)) → not (is_some o) ≡ true → o ≡ None
none_from None h = refl
none_from (Some n) h = cc

from_none : (o : Option (Node Entry)) → o ≡ None → not (is_some o) ≡ true
from_none None h = refl
from_none (Some n) h = absurd (none-some n (sym h))

-- the first of nodes that are apart has an id of its own
pub first_apart : (n : Node Entry) (ns : List (Node Entry)) → are_apart (n ∷ ns) ≡ true → node_of ns n.id ≡ None
first_apart n ns apart = none_from (node_of ns n.id) (and_parts (not (is_some (node_of ns n.id))) (are_apart ns) apart).0

pub rest_apart : (n : Node Entry) (ns : List (Node Entry)) → are_apart (n ∷ ns) ≡ true → are_apart ns ≡ true
rest_apart n ns apart = (and_parts (not (is_some (node_of ns n.id))) (are_apart ns) apart).1

pub are_apart-cons : (n : Node Entry) (ns : List (Node Entry)) → node_of ns n.id ≡ None → are_apart ns ≡ true → are_apart (n ∷ ns) ≡ true
are_apart-cons n ns none rest = and_from (not (is_some (node_of ns n.id))) (are_apart ns) (from_none (node_of ns n.id) none) rest

-- behind it no node has its id
pub other_id : (n m : Node Entry) (ns : List (Node Entry)) (id : ℕ) → are_apart (n ∷ ns) ≡ true → node_of ns id ≡ Some m → (n.id == id) ≡ false
other_id n m ns id apart there = by (n.id == id) refl
  where
    by : (b : Bool) → (n.id == id) ≡ b → (n.id == id) ≡ false
    by false e = e
    by true e = absurd (none-some m (sym (first_apart n ns apart) ∙ ap (node_of ns) (eqb-true n.id id e) ∙ there))

missing : (n : Node Entry) (ns : List (Node Entry)) (x : ℕ) → node_of (n ∷ ns) x ≡ None → ((n.id == x) ≡ false) × (node_of ns x ≡ None)
missing n ns x none = by (n.id == x) none
  where
    by : (c : Bool) → (if c then Some n else node_of ns x) ≡ None → (c ≡ false) × (node_of ns x ≡ None)
    by true h = absurd (none-some n (sym h))
    by false h = (refl, h)

none_before : (ns : List (Node Entry)) (id x : ℕ) → node_of ns x ≡ None → node_of (nodes_before ns id) x ≡ None
none_before [] id x none = refl
none_before (n ∷ ns) id x none = by (n.id == id) (none_before ns id x (missing n ns x none).1)
  where
    by : (b : Bool) → node_of (nodes_before ns id) x ≡ None → node_of (if b then [] else n ∷ nodes_before ns id) x ≡ None
    by true rest = refl
    by false rest = ap (λ c. if c then Some n else node_of (nodes_before ns id) x) (missing n ns x none).0 ∙ rest

-- nodes in front of others are apart where all are
pub apart_before : (ns : List (Node Entry)) (id : ℕ) → are_apart ns ≡ true → are_apart (nodes_before ns id) ≡ true
apart_before [] id apart = refl
apart_before (n ∷ ns) id apart = by (n.id == id) (apart_before ns id (rest_apart n ns apart))
  where
    by : (b : Bool) → are_apart (nodes_before ns id) ≡ true → are_apart (if b then [] else n ∷ nodes_before ns id) ≡ true
    by true rest = refl
    by false rest = are_apart-cons n (nodes_before ns id) (none_before ns id n.id (first_apart n ns apart)) rest

none_without : (ns : List (Node Entry)) (id x : ℕ) → node_of ns x ≡ None → node_of (without ns id) x ≡ None
none_without [] id x none = refl
none_without (n ∷ ns) id x none = by (n.id == id) (none_without ns id x (missing n ns x none).1)
  where
    by : (b : Bool) → node_of (without ns id) x ≡ None → node_of (if not b then n ∷ without ns id else without ns id) x ≡ None
    by true rest = rest
    by false rest = ap (λ c. if c then Some n else node_of (without ns id) x) (missing n ns x none).0 ∙ rest

-- nodes stay apart without one of them
pub apart_without : (ns : List (Node Entry)) (id : ℕ) → are_apart ns ≡ true → are_apart (without ns id) ≡ true
apart_without [] id apart = refl
apart_without (n ∷ ns) id apart = by (n.id == id) (apart_without ns id (rest_apart n ns apart))
  where
    by : (b : Bool) → are_apart (without ns id) ≡ true → are_apart (if not b then n ∷ without ns id else without ns id) ≡ true
    by true rest = rest
    by false rest = are_apart-cons n (without ns id) (none_without ns id n.id (first_apart n ns apart)) rest

-- no node is left out that is not there
pub without_none : (ns : List (Node Entry)) (id : ℕ) → node_of ns id ≡ None → without ns id ≡ ns
without_none [] id none = refl
without_none (n ∷ ns) id none =
    ap (λ b. if not b then n ∷ without ns id else without ns id) (missing n ns id none).0 ∙ ap (λ ms. n ∷ ms) (without_none ns id (missing n ns id none).1)

one_more : (ns : List (Node Entry)) (m : Node Entry) (x : ℕ) → (m.id == x) ≡ false → node_of ns x ≡ None → node_of (ns ++ m ∷ []) x ≡ None
one_more [] m x other none = ap (λ b. if b then Some m else None) other
one_more (n ∷ ns) m x other none =
    ap (λ b. if b then Some n else node_of (ns ++ m ∷ []) x) (missing n ns x none).0 ∙ one_more ns m x other (missing n ns x none).1

-- nodes stay apart with one behind them that has an id of its own
pub apart_with : (ns : List (Node Entry)) (m : Node Entry) → node_of ns m.id ≡ None → are_apart ns ≡ true → are_apart (ns ++ m ∷ []) ≡ true
apart_with [] m none apart = refl
apart_with (n ∷ ns) m none apart =
    are_apart-cons n (ns ++ m ∷ []) (one_more ns m n.id other (first_apart n ns apart)) (apart_with ns m (missing n ns m.id none).1 (rest_apart n ns apart))
  where
    other : (m.id == n.id) ≡ false
    other = by (m.id == n.id) refl
      where
        by : (b : Bool) → (m.id == n.id) ≡ b → (m.id == n.id) ≡ false
        by false e = e
        by true e = absurd (false_true (n.id == m.id) (missing n ns m.id none).0 (eq-eqb n.id m.id (sym (eqb-true m.id n.id e))))
