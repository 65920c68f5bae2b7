-- A walk over the nodes of a bucket, from the last one backwards.
use Rattle.std.specs.Prelude.{◌≡◌, ◌==◌, ◌-◌, ◌<◌, ◌+◌, ℕ, suc, Bool, true, false, List, [], ◌∷◌, ◌++◌, Option, Some, None, IsSome, length, refl, slice_get, if◌then◌else◌}
use Rattle.std.specs.Option.{option_and_then, option_map}
use Rattle.std.proofs.Common.{ap, arith, subst, sym, ◌∙◌}
use Rattle.std.proofs.lemmas.Bool.{eq-eqb, eqb-true}
use Rattle.std.proofs.lemmas.List.{length-append}
use Rattle.std.proofs.lemmas.List.Elements.{filter-append}
use Rattle.std.proofs.lemmas.Option.{none-some, same_Some}
use Rattle.voy_link.specs.Arena.{Node, in_bucket, item_of, last_id, node_of, nodes_before, prev_id}
use Rattle.voy_conflict.specs.Filing.{are_apart, last_passing}
use Rattle.voy_conflict.specs.declared.entry.Entry.{Entry}
use Rattle.voy_conflict.proofs.ApartLemmas.{apart_before, other_id, rest_apart}

-- the nodes up to the one with this id
abbrev pub up_to : List (Node Entry) → ℕ → List (Node Entry)
up_to [] id = []
up_to (n ∷ ns) id = if n.id == id then n ∷ [] else n ∷ up_to ns id

-- the nodes of a bucket that are still to be seen, from the one that was found
abbrev pub left_to : List (Node Entry) → ℕ → Option ℕ → List (Node Entry)
left_to ns bucket None = []
left_to ns bucket (Some id) = in_bucket (up_to ns id) bucket

-- a node of the bucket has this id
pub record Stands (ns : List (Node Entry)) (bucket id : ℕ) : Type 0 where
  pub node : Node Entry
  pub there : node_of ns id ≡ Some node
  pub inside : node.bucket ≡ bucket

abbrev pub StandsIf : List (Node Entry) → ℕ → Option ℕ → Type 0
StandsIf ns bucket None = Unit {0}
StandsIf ns bucket (Some id) = Stands ns bucket id

-- all nodes of the bucket are up to this one
pub record IsLast (ns : List (Node Entry)) (bucket : ℕ) (found : Option ℕ) : Type 0 where
  pub whole : left_to ns bucket found ≡ in_bucket ns bucket
  pub stands : StandsIf ns bucket found

step_over : (n : Node Entry) (ns : List (Node Entry)) (bucket id : ℕ) → are_apart (n ∷ ns) ≡ true → IsLast ns bucket (Some id)
    → IsLast (n ∷ ns) bucket (Some id)
step_over n ns bucket id apart last = record {
  whole = ap (λ b. in_bucket (if b then n ∷ [] else n ∷ up_to ns id) bucket) other ∙ ap (λ xs. if n.bucket == bucket then n ∷ xs else xs) last.whole;
  stands = record {
    node = last.stands.node;
    there = ap (λ b. if b then Some n else node_of ns id) other ∙ last.stands.there;
    inside = last.stands.inside;
  };
}
  where
    other : (n.id == id) ≡ false
    other = other_id n last.stands.node ns id apart last.stands.there

no_cons : (n : Node Entry) (ns : List (Node Entry)) → [] ≡ n ∷ ns → ⊥
no_cons n ns same = cc

itself : (id : ℕ) → (id == id) ≡ true
itself id = eq-eqb id id refl

last_of : (n m : Node Entry) (ms : List (Node Entry)) → last_id (n ∷ m ∷ ms) ≡ last_id (m ∷ ms)
last_of n m ms =
    let longer : length (n ∷ m ∷ ms) - 1 ≡ suc (length ms) = omega arith in
    let back : length ms ≡ length (m ∷ ms) - 1 = omega arith in
    ap (λ k. option_map (λ (x : Node Entry). x.id) (slice_get (n ∷ m ∷ ms) k)) longer
    ∙ ap (λ k. option_map (λ (x : Node Entry). x.id) (slice_get (m ∷ ms) k)) back

-- the last node of a bucket
pub last_found : (ns : List (Node Entry)) (bucket : ℕ) → are_apart ns ≡ true → IsLast ns bucket (last_id (in_bucket ns bucket))
last_found [] bucket apart = record { whole = refl; stands = tt }
last_found (n ∷ ns) bucket apart = by (n.bucket == bucket) refl (last_found ns bucket (rest_apart n ns apart))
  where
    passed : (n.bucket == bucket) ≡ false → (f : Option ℕ) → IsLast ns bucket f → IsLast (n ∷ ns) bucket f
    passed outside None last = record { whole = last.whole ∙ sym (ap (λ b. if b then n ∷ in_bucket ns bucket else in_bucket ns bucket) outside); stands = tt }
    passed outside (Some id) last = step_over n ns bucket id apart last

    behind : (m : Node Entry) (ms : List (Node Entry)) → in_bucket ns bucket ≡ m ∷ ms → (f : Option ℕ) → IsLast ns bucket f → IsLast (n ∷ ns) bucket f
    behind m ms is None last = absurd (no_cons m ms (last.whole ∙ is))
    behind m ms is (Some id) last = step_over n ns bucket id apart last

    there : (n.bucket == bucket) ≡ true → (rest : List (Node Entry)) → in_bucket ns bucket ≡ rest → IsLast ns bucket (last_id rest)
        → IsLast (n ∷ ns) bucket (last_id (n ∷ rest))
    there inside [] is last = record {
      whole = ap (λ b. in_bucket (if b then n ∷ [] else n ∷ up_to ns n.id) bucket) (itself n.id)
          ∙ ap (λ b. if b then n ∷ [] else []) inside
          ∙ ap (λ rest. n ∷ rest) (sym is)
          ∙ sym (ap (λ b. if b then n ∷ in_bucket ns bucket else in_bucket ns bucket) inside);
      stands = record { node = n; there = ap (λ b. if b then Some n else node_of ns n.id) (itself n.id); inside = eqb-true n.bucket bucket inside };
    }
    there inside (m ∷ ms) is last = subst (IsLast (n ∷ ns) bucket) (sym (last_of n m ms)) (behind m ms is (last_id (m ∷ ms)) last)

    by : (b : Bool) → (n.bucket == bucket) ≡ b → IsLast ns bucket (last_id (in_bucket ns bucket))
        → IsLast (n ∷ ns) bucket (last_id (if b then n ∷ in_bucket ns bucket else in_bucket ns bucket))
    by false e last = passed e (last_id (in_bucket ns bucket)) last
    by true e last = there e (in_bucket ns bucket) refl last

before_same : (ns : List (Node Entry)) (id other : ℕ) (m : Node Entry) → node_of (nodes_before ns id) other ≡ Some m
    → (up_to ns other ≡ up_to (nodes_before ns id) other) × (node_of ns other ≡ Some m)
before_same [] id other m there = absurd (none-some m there)
before_same (n ∷ ns) id other m there = by (n.id == id) (n.id == other) there (before_same ns id other m)
  where
    by : (b c : Bool) → node_of (if b then [] else n ∷ nodes_before ns id) other ≡ Some m
        → (node_of (nodes_before ns id) other ≡ Some m → (up_to ns other ≡ up_to (nodes_before ns id) other) × (node_of ns other ≡ Some m))
        → (up_to (n ∷ ns) other ≡ up_to (if b then [] else n ∷ nodes_before ns id) other) × (node_of (n ∷ ns) other ≡ Some m)
    by true c there rest = absurd (none-some m there)
    by false c there rest = at (n.id == other) there
      where
        at : (d : Bool) → (if d then Some n else node_of (nodes_before ns id) other) ≡ Some m
            → ((if d then n ∷ [] else n ∷ up_to ns other)
            ≡ (if d then n ∷ [] else n ∷ up_to (nodes_before ns id) other)) × ((if d then Some n else node_of ns other) ≡ Some m)
        at true h = (refl, h)
        at false h = (ap (λ xs. n ∷ xs) (rest h).0, (rest h).1)

up_to_is : (ns : List (Node Entry)) (id : ℕ) (m : Node Entry) → node_of ns id ≡ Some m → up_to ns id ≡ nodes_before ns id ++ m ∷ []
up_to_is [] id m there = absurd (none-some m there)
up_to_is (n ∷ ns) id m there = by (n.id == id) there (up_to_is ns id m)
  where
    by : (b : Bool) → (if b then Some n else node_of ns id) ≡ Some m → (node_of ns id ≡ Some m → up_to ns id ≡ nodes_before ns id ++ m ∷ [])
        → (if b then n ∷ [] else n ∷ up_to ns id) ≡ (if b then [] else n ∷ nodes_before ns id) ++ m ∷ []
    by true h rest = ap (λ k. k ∷ []) (same_Some n m h)
    by false h rest = ap (λ xs. n ∷ xs) (rest h)

-- the nodes up to one of the bucket are those in front of it, and itself
left_is : (ns : List (Node Entry)) (bucket id : ℕ) → (s : Stands ns bucket id)
    → left_to ns bucket (Some id) ≡ in_bucket (nodes_before ns id) bucket ++ s.node ∷ []
left_is ns bucket id s =
    ap (λ xs. in_bucket xs bucket) (up_to_is ns id s.node s.there)
    ∙ filter-append (λ (n : Node Entry). n.bucket == bucket) (nodes_before ns id) (s.node ∷ [])
    ∙ ap (λ b. in_bucket (nodes_before ns id) bucket ++ (if b then s.node ∷ [] else [])) (eq-eqb s.node.bucket bucket s.inside)

last_passing-append : (test : Node Entry → Bool) (last : Option (Node Entry)) (xs : List (Node Entry)) (n : Node Entry)
    → last_passing test last (xs ++ n ∷ []) ≡ (if test n then Some n else last_passing test last xs)
last_passing-append test last [] n = refl
last_passing-append test last (x ∷ xs) n = last_passing-append test (if test x then Some x else last) xs n

-- what is left of the walk has the last node that passes
pub record Walks (ns : List (Node Entry)) (bucket : ℕ) (test : Entry → Bool) (found : Option ℕ) : Type 0 where
  pub stands : StandsIf ns bucket found
  pub left : last_passing (λ (n : Node Entry). test n.item) None (in_bucket ns bucket)
      ≡ last_passing (λ (n : Node Entry). test n.item) None (left_to ns bucket found)

pub walk_begins : (ns : List (Node Entry)) (bucket : ℕ) (test : Entry → Bool) (found : Option ℕ) → are_apart ns ≡ true → found ≡ last_id (in_bucket ns bucket)
    → Walks ns bucket test found
walk_begins ns bucket test found apart is = subst (Walks ns bucket test) (sym is) (record {
  stands = last.stands;
  left = ap (last_passing (λ (n : Node Entry). test n.item) None) (sym last.whole);
})
  where
    last : IsLast ns bucket (last_id (in_bucket ns bucket))
    last = last_found ns bucket apart

-- a node of the walk is there
pub walk_stands : (ns : List (Node Entry)) (bucket : ℕ) (test : Entry → Bool) (found : Option ℕ) (id : ℕ) → Walks ns bucket test found → found ≡ Some id
    → Stands ns bucket id
walk_stands ns bucket test found id walks is = subst (StandsIf ns bucket) is walks.stands

is_there : (o : Option (Node Entry)) (n : Node Entry) → o ≡ Some n → IsSome o
is_there None n is = absurd (none-some n is)
is_there (Some m) n is = refl

pub walk_node : (ns : List (Node Entry)) (bucket : ℕ) (test : Entry → Bool) (found : Option ℕ) (id : ℕ) → Walks ns bucket test found → found ≡ Some id
    → IsSome (node_of ns id)
walk_node ns bucket test found id walks is = let s = walk_stands ns bucket test found id walks is in is_there (node_of ns id) s.node s.there

module _ (ns : List (Node Entry)) (bucket : ℕ) (test : Entry
    → Bool) (found : Option ℕ) (id : ℕ) (entry : Entry) (walks : Walks ns bucket test found) (is : found ≡ Some id)
    (item : item_of ns id ≡ Some entry)
  where
    s : Stands ns bucket id
    s = walk_stands ns bucket test found id walks is

    its_item : s.node.item ≡ entry
    its_item = same_Some s.node.item entry (sym (ap (option_map (λ (n : Node Entry). n.item)) s.there) ∙ item)

    left_now : last_passing (λ (n : Node Entry). test n.item) None (in_bucket ns bucket)
        ≡ (if test entry then Some s.node else last_passing (λ (n : Node Entry). test n.item) None (in_bucket (nodes_before ns id) bucket))
    left_now =
        walks.left
        ∙ ap (λ f. last_passing (λ (n : Node Entry). test n.item) None (left_to ns bucket f)) is
        ∙ ap (last_passing (λ (n : Node Entry). test n.item) None) (left_is ns bucket id s)
        ∙ last_passing-append (λ (n : Node Entry). test n.item) None (in_bucket (nodes_before ns id) bucket) s.node
        ∙ ap (λ e. if test e then Some s.node else last_passing (λ (n : Node Entry). test n.item) None (in_bucket (nodes_before ns id) bucket)) its_item

    -- the walk ends at a node that passes
    pub walk_found : test entry ≡ true → Some entry.at ≡ option_map (λ (n : Node Entry). n.item.at)
        (last_passing (λ (n : Node Entry). test n.item) None (in_bucket ns bucket))
    walk_found passes =
        ap (λ (e : Entry). Some e.at) (sym its_item)
        ∙ ap (option_map (λ (n : Node Entry). n.item.at))
        (sym (left_now ∙ ap (λ b. if b then Some s.node else last_passing (λ (n : Node Entry). test n.item) None (in_bucket (nodes_before ns id) bucket)) passes))

    module _ (apart : are_apart ns ≡ true) (next : Option ℕ) (prev : next ≡ prev_id ns id) where
      next_is : next ≡ last_id (in_bucket (nodes_before ns id) bucket)
      next_is =
          prev
          ∙ ap (option_and_then (λ (n : Node Entry). last_id (in_bucket (nodes_before ns id) n.bucket))) s.there
          ∙ ap (λ b. last_id (in_bucket (nodes_before ns id) b)) s.inside

      in_front : IsLast (nodes_before ns id) bucket (last_id (in_bucket (nodes_before ns id) bucket))
      in_front = last_found (nodes_before ns id) bucket (apart_before ns id apart)

      all_of : (f : Option ℕ) → IsLast (nodes_before ns id) bucket f → IsLast (nodes_before ns id) bucket f × StandsIf ns bucket f × (left_to ns bucket f
          ≡ in_bucket (nodes_before ns id) bucket)
      all_of None last = (last, tt, last.whole)
      all_of (Some other) last =
          let same = before_same ns id other last.stands.node last.stands.there in
          (last, record { node = last.stands.node; there = same.1; inside = last.stands.inside }, ap (λ xs. in_bucket xs bucket) same.0 ∙ last.whole)

      ahead : IsLast (nodes_before ns id) bucket next × StandsIf ns bucket next × (left_to ns bucket next ≡ in_bucket (nodes_before ns id) bucket)
      ahead = all_of next (subst (IsLast (nodes_before ns id) bucket) (sym next_is) in_front)

      -- or goes on to the node in front
      pub walk_on : test entry ≡ false → Walks ns bucket test next
      walk_on fails = record {
        stands = ahead.1;
        left = left_now
            ∙ ap (λ b. if b then Some s.node else last_passing (λ (n : Node Entry). test n.item) None (in_bucket (nodes_before ns id) bucket)) fails
            ∙ ap (last_passing (λ (n : Node Entry). test n.item) None) (sym ahead.2);
      }

      -- and less is left
      pub walk_less : length (left_to ns bucket next) < length (left_to ns bucket found)
      walk_less =
          let before : length (left_to ns bucket found) ≡ length (in_bucket (nodes_before ns id) bucket) + length (s.node ∷ [])
          = ap (λ f. length (left_to ns bucket f)) is ∙ ap length (left_is ns bucket id s)
          ∙ length-append (in_bucket (nodes_before ns id) bucket) (s.node ∷ []) in
          let now : length (left_to ns bucket next) ≡ length (in_bucket (nodes_before ns id) bucket) = ap length ahead.2 in
          omega arith
