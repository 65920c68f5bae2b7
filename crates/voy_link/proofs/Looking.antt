-- What the lists by key say of the nodes.
use Rattle.std.proofs.Common.{◌≡◌, ℕ, ◌-◌, ◌<◌, ◌≤◌, true, false, eqb, List, [], ◌∷◌, ◌++◌, length, Option, Some, None, refl, sym, ap, ◌∙◌, subst, ⊎_elim, arith}
use Rattle.std.specs.Prelude.{slice_get, filter, IsSome}
use Rattle.std.specs.Option.{option_map, option_and_then}
use Rattle.std.proofs.lemmas.Bool.{cases_Bool, ne_eqb, cond-true, cond-false}
use Rattle.voy_link.specs.Indices.{nowhere, option_of_place}
use Rattle.voy_link.specs.Links.{first_or, last_or, AreWithin}
use Rattle.voy_link.specs.Chains.{HasMembers}
use Rattle.voy_link.specs.Arena.{Node, node_of, item_of, nodes_before, first_id, last_id, prev_id, in_bucket}
use Rattle.voy_link.specs.Nodes.{node_in, by_key, AreLaid, HasNodes}
use Rattle.voy_link.specs.declared.slots.Slot.{Slot}
use Rattle.voy_link.specs.declared.nodes.Nodes.{Nodes}
use Rattle.voy_link.proofs.Threads.{AreWithin-front}
use Rattle.voy_link.proofs.Holding.{by_key-append, Cut, cut, slot_of, value_of}

-- a place below the one for none is one
place_there : (places place : ℕ) → place < places → places ≤ nowhere → option_of_place place ≡ Some place
place_there places place below most =
    let other : place ≡ nowhere → ⊥ = λ same. omega (arith, same, below, most) in cond-false (eqb place nowhere) None (Some place) (ne_eqb place nowhere other)

-- the id of the last node, or this
abbrev last_from : {T : Type 0} → Option ℕ → List (Node T) → Option ℕ
last_from d [] = d
last_from d (n ∷ ns) = last_from (Some n.id) ns

last_from-is : {T : Type 0} (n : Node T) (ns : List (Node T)) → last_from (Some n.id) ns ≡ option_map (λ m. m.id) (slice_get (n ∷ ns) (length ns))
last_from-is n [] = refl
last_from-is n (m ∷ ns) = last_from-is m ns

last_id-is : {T : Type 0} (ns : List (Node T)) → last_from None ns ≡ last_id ns
last_id-is [] = refl
last_id-is (n ∷ ns) =
    let back : length ns ≡ length (n ∷ ns) - 1 = omega arith in
    last_from-is n ns ∙ ap (λ k. option_map (λ m. m.id) (slice_get (n ∷ ns) k)) back

last_along : {T : Type 0} (z places keys key : ℕ) (by : Node T → ℕ) (ns : List (Node T)) → AreWithin places keys (by_key by ns) → places ≤ nowhere
    → option_of_place (last_or z key (by_key by ns)) ≡ last_from (option_of_place z) (filter (λ n. eqb (by n) key) ns)
last_along z places keys key by [] within most = refl
last_along z places keys key by (n ∷ ns) within most =
    ⊎_elim
    (λ (is : eqb (by n) key ≡ true).
    ap (λ y. option_of_place (last_or y key (by_key by ns))) (cond-true (eqb (by n) key) n.id z is) ∙ last_along n.id places keys key by ns within.2 most ∙
    ap (λ d. last_from d (filter (λ m. eqb (by m) key) ns)) (place_there places n.id within.0 most) ∙
    ap (last_from (option_of_place z)) (sym (cond-true (eqb (by n) key) (n ∷ filter (λ m. eqb (by m) key) ns) (filter (λ m. eqb (by m) key) ns) is)))
    (λ (is : eqb (by n) key ≡ false).
    ap (λ y. option_of_place (last_or y key (by_key by ns))) (cond-false (eqb (by n) key) n.id z is) ∙ last_along z places keys key by ns within.2 most ∙
    ap (last_from (option_of_place z)) (sym (cond-false (eqb (by n) key) (n ∷ filter (λ m. eqb (by m) key) ns) (filter (λ m. eqb (by m) key) ns) is)))
    (cases_Bool (eqb (by n) key))

-- the last node with a key
pub last_is : {T : Type 0} (places keys key : ℕ) (by : Node T → ℕ) (ns : List (Node T)) → AreWithin places keys (by_key by ns) → places ≤ nowhere
    → option_of_place (last_or nowhere key (by_key by ns)) ≡ last_id (filter (λ n. eqb (by n) key) ns)
last_is places keys key by ns within most = last_along nowhere places keys key by ns within most ∙ last_id-is (filter (λ n. eqb (by n) key) ns)

-- the first node with a key
pub first_is : {T : Type 0} (places keys key : ℕ) (by : Node T → ℕ) (ns : List (Node T)) → AreWithin places keys (by_key by ns) → places ≤ nowhere
    → option_of_place (first_or nowhere key (by_key by ns)) ≡ first_id (filter (λ n. eqb (by n) key) ns)
first_is places keys key by [] within most = refl
first_is places keys key by (n ∷ ns) within most =
    ⊎_elim
    (λ (is : eqb (by n) key ≡ true).
    ap option_of_place (cond-true (eqb (by n) key) n.id (first_or nowhere key (by_key by ns)) is) ∙ place_there places n.id within.0 most ∙
    ap first_id (sym (cond-true (eqb (by n) key) (n ∷ filter (λ m. eqb (by m) key) ns) (filter (λ m. eqb (by m) key) ns) is)))
    (λ (is : eqb (by n) key ≡ false).
    ap option_of_place (cond-false (eqb (by n) key) n.id (first_or nowhere key (by_key by ns)) is) ∙ first_is places keys key by ns within.2 most ∙
    ap first_id (sym (cond-false (eqb (by n) key) (n ∷ filter (λ m. eqb (by m) key) ns) (filter (λ m. eqb (by m) key) ns) is)))
    (cases_Bool (eqb (by n) key))

-- the node that a slot holds
pub node_there : {T : Type 0} (slots : List (Option (Slot T))) (ns : List (Node T)) (id : ℕ) (slot : Slot T) → AreLaid slots ns → IsSome (node_of ns id)
    → slice_get slots id ≡ Some (Some slot) → node_of ns id ≡ Some (record { id = id; bucket = slot.bucket; lane = slot.lane; item = slot.item })
node_there slots ns id slot laid some read =
    let found : (n : Node _) × (node_of ns id ≡ Some n) = value_of (node_of ns id) some in
    found.1 ∙ sym (slot_of slots ns id found.0 laid found.1) ∙ ap (node_in id) read

pub item_there : {T : Type 0} (slots : List (Option (Slot T))) (ns : List (Node T)) (id : ℕ) (slot : Slot T) → AreLaid slots ns → IsSome (node_of ns id)
    → slice_get slots id ≡ Some (Some slot) → item_of ns id ≡ Some slot.item
item_there slots ns id slot laid some read = ap (option_map (λ n. n.item)) (node_there slots ns id slot laid some read)

-- the members around a node, in the list of its bucket
pub around : {T : Type 0} (b l : ℕ) (a : Nodes T) (ns : List (Node T)) (id : ℕ) (n : Node T) (place : Cut ns id n) → HasNodes b l a ns
    → HasMembers a.total b a.buckets (by_key (λ m. m.bucket) (nodes_before ns id) ++ (id, n.bucket) ∷ by_key (λ m. m.bucket) place.behind)
around {T} b l a ns id n place held =
    let M : List (ℕ × ℕ) → Type 0 = λ ms. HasMembers a.total b a.buckets ms in
    let I : ℕ → Type 0 = λ i. HasMembers a.total b a.buckets (by_key (λ m. m.bucket) (nodes_before ns id) ++ (i, n.bucket) ∷ by_key (λ m. m.bucket) place.behind) in
    subst I place.own
    (subst M (ap (by_key (λ m. m.bucket)) place.whole ∙ by_key-append (λ m. m.bucket) (nodes_before ns id) (n ∷ place.behind)) held.in_buckets)

-- the node before one in its bucket
pub prev_there : {T : Type 0} (b l : ℕ) (a : Nodes T) (ns : List (Node T)) (id prev : ℕ) → HasNodes b l a ns → a.total ≤ nowhere → IsSome (node_of ns id)
    → ((n k key : ℕ) (before behind : List (ℕ × ℕ)) → HasMembers n k a.buckets (before ++ (id, key) ∷ behind) → prev ≡ last_or nowhere key before)
    → option_of_place prev ≡ prev_id ns id
prev_there b l a ns id prev held most some reads =
    let found : (n : Node _) × (node_of ns id ≡ Some n) = value_of (node_of ns id) some in
    let n : Node _ = found.0 in
    let place : Cut ns id found.0 = cut ns id found.0 found.1 in
    let has : HasMembers a.total b a.buckets (by_key (λ m. m.bucket) (nodes_before ns id) ++ (id, found.0.bucket) ∷ by_key (λ m. m.bucket) place.behind) =
    around b l a ns id found.0 place held in
    ap option_of_place (reads a.total b found.0.bucket (by_key (λ m. m.bucket) (nodes_before ns id)) (by_key (λ m. m.bucket) place.behind) has) ∙
    last_is a.total b found.0.bucket (λ m. m.bucket) (nodes_before ns id)
    (AreWithin-front a.total b (by_key (λ m. m.bucket) (nodes_before ns id)) ((id, found.0.bucket) ∷ by_key (λ m. m.bucket) place.behind) has.within) most ∙
    ap (option_and_then (λ m. last_id (in_bucket (nodes_before ns id) m.bucket))) (sym found.1)
