-- What the calls of `Nodes` do to the nodes that the vectors hold.
use Rattle.std.proofs.Common.{◌≡◌, ◌≢◌, ℕ, zero, suc, ◌+◌, ◌-◌, ◌<◌, ◌≤◌, true, false, cond, eqb, not, List, [], ◌∷◌, ◌++◌, length, set, take, Option, Some, None, refl, sym, ap, ◌∙◌, subst, ⊎_elim, arith}
use Rattle.std.specs.Prelude.{slice_get, IsSome}
use Rattle.std.proofs.lemmas.List.{length-set, length-append, take_more, take_more_set}
use Rattle.std.proofs.lemmas.Option.{slice_get_past, same_Some}
use Rattle.std.proofs.lemmas.List.Elements.{filter-append}
use Rattle.std.proofs.lemmas.Bool.{false≢true, cases_eq, eq-eqb, ne_eqb, cond-true, cond-false}
use Rattle.voy_link.specs.Indices.{nowhere, place_at}
use Rattle.voy_link.specs.Links.{first_or, times, AreWithin, HaveNexts}
use Rattle.voy_link.specs.Chains.{HasMembers}
use Rattle.voy_link.specs.Arena.{Node, node_of, without, nodes_before}
use Rattle.voy_link.specs.Nodes.{node_in, node_at, onto, nodes_from, nodes_of, by_key, no_key, free_members, AreLaid, HasNodes, contents_of, AreSound}
use Rattle.voy_link.specs.declared.slots.Slot.{Slot}
use Rattle.voy_link.specs.declared.chains.Chains.{Chains}
use Rattle.voy_link.specs.declared.nodes.Nodes.{Nodes}
use Rattle.voy_link.proofs.Threads.{IsAbsent, IsAbsent-from_times, AreWithin-front}
use Rattle.voy_link.proofs.Members.{times-append, member_within, AreWithin-append}

slice_get-set_same : {X : Type 0} (xs : List X) (i : ℕ) (x : X) → i < length xs → slice_get (set xs i x) i ≡ Some x
slice_get-set_same [] i x within = absurd (omega (arith, within))
slice_get-set_same (y ∷ ys) zero x within = refl
slice_get-set_same (y ∷ ys) (suc i) x within = slice_get-set_same ys i x (omega (arith, within))

slice_get-set_other : {X : Type 0} (xs : List X) (i j : ℕ) (x : X) → j ≢ i → slice_get (set xs i x) j ≡ slice_get xs j
slice_get-set_other [] i j x other = refl
slice_get-set_other (y ∷ ys) zero zero x other = absurd (other refl)
slice_get-set_other (y ∷ ys) zero (suc j) x other = refl
slice_get-set_other (y ∷ ys) (suc i) zero x other = refl
slice_get-set_other (y ∷ ys) (suc i) (suc j) x other = slice_get-set_other ys i j x (λ same. other (ap suc same))

pub by_key-append : {T : Type 0} (key : Node T → ℕ) (xs ys : List (Node T)) → by_key key (xs ++ ys) ≡ by_key key xs ++ by_key key ys
by_key-append key [] ys = refl
by_key-append key (x ∷ xs) ys = ap (λ ms. (x.id, key x) ∷ ms) (by_key-append key xs ys)

pub times-by_key : {T : Type 0} (place : ℕ) (key other : Node T → ℕ) (ns : List (Node T)) → times place (by_key key ns) ≡ times place (by_key other ns)
times-by_key place key other [] = refl
times-by_key place key other (n ∷ ns) = ap (λ t. cond (eqb n.id place) 1 0 + t) (times-by_key place key other ns)

pub free_members-append : (xs ys : List ℕ) → free_members (xs ++ ys) ≡ free_members xs ++ free_members ys
free_members-append [] ys = refl
free_members-append (x ∷ xs) ys = ap (λ ms. (x, 0) ∷ ms) (free_members-append xs ys)

AreLaid-set : {T : Type 0} (slots : List (Option (Slot T))) (at : ℕ) (slot : Option (Slot T)) (ns : List (Node T)) → IsAbsent at (by_key no_key ns) → AreLaid slots ns
    → AreLaid (set slots at slot) ns
AreLaid-set slots at slot [] absent laid = tt
AreLaid-set slots at slot (n ∷ ns) absent laid =
    (ap (node_in n.id) (slice_get-set_other slots at n.id slot absent.0) ∙ laid.0, AreLaid-set slots at slot ns absent.1 laid.1)

AreLaid-append : {T : Type 0} (slots : List (Option (Slot T))) (xs ys : List (Node T)) → AreLaid slots xs → AreLaid slots ys → AreLaid slots (xs ++ ys)
AreLaid-append slots [] ys some more = more
AreLaid-append slots (x ∷ xs) ys some more = (some.0, AreLaid-append slots xs ys some.1 more)

AreLaid-without : {T : Type 0} (slots : List (Option (Slot T))) (before behind : List (Node T)) (n : Node T) → AreLaid slots (before ++ n ∷ behind) → AreLaid slots (before ++ behind)
AreLaid-without slots [] behind n laid = laid.1
AreLaid-without slots (x ∷ before) behind n laid = (laid.0, AreLaid-without slots before behind n laid.1)

pub AreLaid-same : {T : Type 0} (old new : List (Option (Slot T))) (ns : List (Node T)) → ((id : ℕ) → node_at new id ≡ node_at old id) → AreLaid old ns → AreLaid new ns
AreLaid-same old new [] same laid = tt
AreLaid-same old new (n ∷ ns) same laid = (same n.id ∙ laid.0, AreLaid-same old new ns same laid.1)

-- the nodes that are read from the first place on
nodes_from-is : {T : Type 0} (most : ℕ) (slots : List (Option (Slot T))) (nexts : List ℕ) (ns : List (Node T)) → length slots ≤ nowhere → length ns ≤ most → AreLaid slots ns
    → HaveNexts nowhere nexts (by_key no_key ns) → nodes_from most slots nexts (first_or nowhere 0 (by_key no_key ns)) ≡ ns
nodes_from-is zero slots nexts [] ends fits laid have = refl
nodes_from-is zero slots nexts (n ∷ ns) ends fits laid have = absurd (omega (arith, fits))
nodes_from-is (suc most) slots nexts [] ends fits laid have =
    ap (λ o. onto (node_in nowhere o) (nodes_from most slots nexts (place_at nexts nowhere))) (slice_get_past slots nowhere ends)
nodes_from-is (suc most) slots nexts (n ∷ ns) ends fits laid have =
    let rest : nodes_from most slots nexts (place_at nexts n.id) ≡ ns =
    ap (nodes_from most slots nexts) have.0 ∙ nodes_from-is most slots nexts ns ends (omega (arith, fits)) laid.1 have.1 in
    ap (λ o. onto o (nodes_from most slots nexts (place_at nexts n.id))) laid.0 ∙ ap (λ ms. n ∷ ms) rest

-- the vectors show the nodes that they hold
pub shown : {T : Type 0} (b l : ℕ) (a : Nodes T) (ns : List (Node T)) → HasNodes b l a ns → nodes_of a ≡ ns
shown b l a ns held =
    ap (nodes_from a.total a.slots.items a.order.nexts.items) (held.in_order.ahead.begin 0) ∙
    nodes_from-is a.total a.slots.items a.order.nexts.items ns held.slots_end (omega (arith, held.total)) held.laid held.in_order.ahead.go_on

pub contents_shown : {T : Type 0} (b l : ℕ) (a : Nodes T) (ns : List (Node T)) → HasNodes b l a ns
    → contents_of a ≡ record { nodes = ns; spare = a.spare; buckets = b; lanes = l }
contents_shown b l a ns held =
    ap (λ ms. record { nodes = ms; spare = a.spare; buckets = length a.buckets.firsts.items; lanes = length a.lanes.firsts.items }) (shown b l a ns held) ∙
    ap (λ k. record { nodes = ns; spare = a.spare; buckets = k; lanes = length a.lanes.firsts.items }) held.in_buckets.first_keys ∙
    ap (λ k. record { nodes = ns; spare = a.spare; buckets = b; lanes = k }) held.in_lanes.first_keys

pub sound : {T : Type 0} (b l : ℕ) (a : Nodes T) (ns : List (Node T)) → HasNodes b l a ns → AreSound a
sound {T} b l a ns held =
    let P : List (Node T) → Type 0 = λ ms. HasNodes b l a ms in
    let Q : ℕ → Type 0 = λ k. HasNodes k l a (nodes_of a) in
    let R : ℕ → Type 0 = λ k. HasNodes (length a.buckets.firsts.items) k a (nodes_of a) in
    subst R (sym held.in_lanes.first_keys) (subst Q (sym held.in_buckets.first_keys) (subst P (sym (shown b l a ns held)) held))

one_of : (place : ℕ) → times place ((place, 0) ∷ []) ≡ 1
one_of place =
    let one : ◌≡◌ {A = ℕ} (cond (eqb place place) 1 0) 1 = cond-true (eqb place place) 1 0 (eq-eqb place place refl) in omega (arith, one)

-- the last free place
pub record LastFree {T : Type 0} (a : Nodes T) (ns : List (Node T)) (place : ℕ) : Type 0 where
  pub within : place < a.total
  pub absent : times place (by_key no_key ns) ≡ 0
  pub parted : free_members (take a.spare a.free.items) ≡ free_members (take (a.spare - 1) a.free.items) ++ (place, 0) ∷ []

pub last_free : {T : Type 0} (b l : ℕ) (a : Nodes T) (ns : List (Node T)) (place : ℕ) → HasNodes b l a ns → 0 < a.spare → place ≡ place_at a.free.items (a.spare - 1)
    → LastFree a ns place
last_free b l a ns place held some is =
    let there : a.spare - 1 < length a.free.items = omega (arith, held.total, held.free_room, some) in
    let suc_is : a.spare - 1 + 1 ≡ a.spare = omega (arith, some) in
    let front : List ℕ = take (a.spare - 1) a.free.items in
    let taken : take a.spare a.free.items ≡ take (a.spare - 1) a.free.items ++ place ∷ [] =
    ap (λ n. take n a.free.items) (sym suc_is) ∙ take_more a.free.items (a.spare - 1) nowhere there ∙ ap (λ p. take (a.spare - 1) a.free.items ++ p ∷ []) (sym is) in
    let parted : free_members (take a.spare a.free.items) ≡ free_members (take (a.spare - 1) a.free.items) ++ (place, 0) ∷ [] =
    ap free_members taken ∙ free_members-append (take (a.spare - 1) a.free.items) (place ∷ []) in
    let P : List (ℕ × ℕ) → Type 0 = AreWithin a.total 1 in
    let counted : times place (free_members (take a.spare a.free.items)) ≡ times place (free_members (take (a.spare - 1) a.free.items)) + times place ((place, 0) ∷ []) =
    ap (times place) parted ∙ times-append place (free_members (take (a.spare - 1) a.free.items)) ((place, 0) ∷ []) in
    record {
      within = (member_within a.total 1 (free_members (take (a.spare - 1) a.free.items)) [] (place, 0) (subst P parted held.free_within)).0;
      absent = omega (arith, held.once place, counted, one_of place);
      parted = parted;
    }

-- a call that puts a member behind all others
abbrev pub Appends : Chains → Chains → ℕ → ℕ → Type 0
Appends old new place key =
    (n k : ℕ) (ms : List (ℕ × ℕ)) → HasMembers n k old ms → place < n → key < k → times place ms ≡ 0 → HasMembers n k new (ms ++ (place, key) ∷ [])

-- a node put behind all others
pub held_more : {T : Type 0} (b l : ℕ) (old new : Nodes T) (ns : List (Node T)) (n : Node T) → HasNodes b l old ns → 0 < old.spare → n.bucket < b → n.lane < l
    → n.id ≡ place_at old.free.items (old.spare - 1) → new.spare ≡ old.spare - 1 → new.total ≡ old.total → new.free.items ≡ old.free.items
    → new.slots.items ≡ set old.slots.items n.id (Some (record { bucket = n.bucket; lane = n.lane; item = n.item }))
    → Appends old.order new.order n.id 0 → Appends old.buckets new.buckets n.id n.bucket → Appends old.lanes new.lanes n.id n.lane → HasNodes b l new (ns ++ n ∷ [])
held_more {T} b l old new ns n held some in_bucket in_lane id spare total free slots order buckets lanes =
    let last : LastFree old ns n.id = last_free b l old ns n.id held some id in
    let long : length (ns ++ n ∷ []) ≡ length ns + 1 = length-append ns (n ∷ []) in
    let size : length new.slots.items ≡ length old.slots.items = ap length slots ∙ length-set old.slots.items n.id _ in
    let there : n.id < length old.slots.items = omega (arith, last.within, held.slots) in
    let front : free_members (take new.spare new.free.items) ≡ free_members (take (old.spare - 1) old.free.items) =
    ap (λ k. free_members (take k new.free.items)) spare ∙ ap (λ fs. free_members (take (old.spare - 1) fs)) free in
    let F : List (ℕ × ℕ) → Type 0 = AreWithin old.total 1 in
    let front_within : AreWithin old.total 1 (free_members (take (old.spare - 1) old.free.items)) =
    AreWithin-front old.total 1 (free_members (take (old.spare - 1) old.free.items)) ((n.id, 0) ∷ []) (subst F last.parted held.free_within) in
    let W : ℕ → Type 0 = λ t. AreWithin t 1 (free_members (take new.spare new.free.items)) in
    let absent : (key : Node T → ℕ) → times n.id (by_key key ns) ≡ 0 = λ key. times-by_key n.id key no_key ns ∙ last.absent in
    let L : List (Option (Slot T)) → Type 0 = λ s. AreLaid s (ns ++ n ∷ []) in
    let laid : AreLaid new.slots.items (ns ++ n ∷ []) =
    subst L (sym slots) (AreLaid-append _ ns (n ∷ []) (AreLaid-set old.slots.items n.id _ ns (IsAbsent-from_times n.id (by_key no_key ns) last.absent) held.laid)
    (ap (node_in n.id) (slice_get-set_same old.slots.items n.id _ there), tt)) in
    let kept : (k : ℕ) (c : Chains) (key : Node T → ℕ) → HasMembers old.total k c (by_key key ns ++ (n.id, key n) ∷ []) → HasMembers new.total k c (by_key key (ns ++ n ∷ [])) =
    λ k c key has.
    let M : List (ℕ × ℕ) → Type 0 = λ ms. HasMembers old.total k c ms in
    let N : ℕ → Type 0 = λ t. HasMembers t k c (by_key key (ns ++ n ∷ [])) in
    subst N (sym total) (subst M (sym (by_key-append key ns (n ∷ []))) has) in
    record {
      total = omega (arith, long, held.total, spare, total, some);
      slots = omega (arith, size, total, held.slots);
      slots_end = omega (arith, size, held.slots_end);
      free_room = omega (arith, total, ap length free, held.free_room);
      laid = laid;
      once = λ place.
          let old_once : times place (by_key no_key ns) + times place (free_members (take old.spare old.free.items)) ≤ 1 = held.once place in
          let old_free : times place (free_members (take old.spare old.free.items)) ≡ times place (free_members (take (old.spare - 1) old.free.items)) + times place ((n.id, 0) ∷ []) =
          ap (times place) last.parted ∙ times-append place (free_members (take (old.spare - 1) old.free.items)) ((n.id, 0) ∷ []) in
          let new_nodes : times place (by_key no_key (ns ++ n ∷ [])) ≡ times place (by_key no_key ns) + times place ((n.id, 0) ∷ []) =
          ap (times place) (by_key-append no_key ns (n ∷ [])) ∙ times-append place (by_key no_key ns) ((n.id, 0) ∷ []) in
          omega (arith, old_once, old_free, new_nodes, ap (times place) front);
      free_within = subst W (sym total) (subst F (sym front) front_within);
      in_order = kept 1 new.order no_key (order old.total 1 (by_key no_key ns) held.in_order last.within (omega arith) last.absent);
      in_buckets = kept b new.buckets (λ m. m.bucket) (buckets old.total b (by_key (λ m. m.bucket) ns) held.in_buckets last.within in_bucket (absent (λ m. m.bucket)));
      in_lanes = kept l new.lanes (λ m. m.lane) (lanes old.total l (by_key (λ m. m.lane) ns) held.in_lanes last.within in_lane (absent (λ m. m.lane)));
    }

-- where no node stands at a place, none has it for its id
pub node_of-absent : {T : Type 0} (id : ℕ) (ns : List (Node T)) → times id (by_key no_key ns) ≡ 0 → node_of ns id ≡ None
node_of-absent id [] none = refl
node_of-absent id (n ∷ ns) none =
    ⊎_elim
    (λ (here : n.id ≡ id).
    let one : ◌≡◌ {A = ℕ} (cond (eqb n.id id) 1 0) 1 = cond-true (eqb n.id id) 1 0 (eq-eqb n.id id here) in
    absurd (omega (arith, none, one)))
    (λ (other : n.id ≡ id → ⊥). cond-false (eqb n.id id) (Some n) (node_of ns id) (ne_eqb n.id id other) ∙ node_of-absent id ns (omega (arith, none)))
    (cases_eq n.id id)

-- a list that is cut at the node with this id
pub record Cut {T : Type 0} (ns : List (Node T)) (id : ℕ) (n : Node T) : Type 0 where
  pub behind : List (Node T)
  pub whole : ns ≡ nodes_before ns id ++ n ∷ behind
  pub own : n.id ≡ id

pub cut : {T : Type 0} (ns : List (Node T)) (id : ℕ) (n : Node T) → node_of ns id ≡ Some n → Cut ns id n
cut [] id n there = absurd cc
cut (m ∷ ns) id n there =
    ⊎_elim
    (λ (here : m.id ≡ id).
    let is : eqb m.id id ≡ true = eq-eqb m.id id here in
    let same : m ≡ n = same_Some m n (sym (cond-true (eqb m.id id) (Some m) (node_of ns id) is) ∙ there) in
    let none : nodes_before (m ∷ ns) id ≡ [] = cond-true (eqb m.id id) [] (m ∷ nodes_before ns id) is in
    record {
      behind = ns;
      whole = ap (λ k. k ∷ ns) same ∙ ap (λ front. front ++ n ∷ ns) (sym none);
      own = ap (λ k. k.id) (sym same) ∙ here;
    })
    (λ (other : m.id ≡ id → ⊥).
    let is : eqb m.id id ≡ false = ne_eqb m.id id other in
    let rest : Cut ns id n = cut ns id n (sym (cond-false (eqb m.id id) (Some m) (node_of ns id) is) ∙ there) in
    let front : nodes_before (m ∷ ns) id ≡ m ∷ nodes_before ns id = cond-false (eqb m.id id) [] (m ∷ nodes_before ns id) is in
    record {
      behind = rest.behind;
      whole = ap (λ k. m ∷ k) rest.whole ∙ ap (λ f. f ++ n ∷ rest.behind) (sym front);
      own = rest.own;
    })
    (cases_eq m.id id)

-- a node that is there has its slot
pub slot_of : {T : Type 0} (slots : List (Option (Slot T))) (ns : List (Node T)) (id : ℕ) (n : Node T) → AreLaid slots ns → node_of ns id ≡ Some n → node_at slots id ≡ Some n
slot_of slots [] id n laid there = absurd cc
slot_of slots (m ∷ ns) id n laid there =
    ⊎_elim
    (λ (here : m.id ≡ id).
    let same : m ≡ n = same_Some m n (sym (cond-true (eqb m.id id) (Some m) (node_of ns id) (eq-eqb m.id id here)) ∙ there) in
    let P : ℕ → Type 0 = λ at. node_at slots at ≡ Some m in
    subst P here laid.0 ∙ ap (λ k. Some k) same)
    (λ (other : m.id ≡ id → ⊥). slot_of slots ns id n laid.1 (sym (cond-false (eqb m.id id) (Some m) (node_of ns id) (ne_eqb m.id id other)) ∙ there))
    (cases_eq m.id id)

without_absent : {T : Type 0} (ns : List (Node T)) (id : ℕ) → IsAbsent id (by_key no_key ns) → without ns id ≡ ns
without_absent [] id absent = refl
without_absent (n ∷ ns) id absent =
    ap (λ b. cond (not b) (n ∷ without ns id) (without ns id)) (ne_eqb n.id id absent.0) ∙ ap (λ ms. n ∷ ms) (without_absent ns id absent.1)

-- the only node with an id is taken out
pub without_cut : {T : Type 0} (before behind : List (Node T)) (n : Node T) → times n.id (by_key no_key (before ++ behind)) ≡ 0
    → without (before ++ n ∷ behind) n.id ≡ before ++ behind
without_cut before behind n absent =
    let parts : times n.id (by_key no_key (before ++ behind)) ≡ times n.id (by_key no_key before) + times n.id (by_key no_key behind) =
    ap (times n.id) (by_key-append no_key before behind) ∙ times-append n.id (by_key no_key before) (by_key no_key behind) in
    let front : without before n.id ≡ before = without_absent before n.id (IsAbsent-from_times n.id (by_key no_key before) (omega (arith, absent, parts))) in
    let back : without behind n.id ≡ behind = without_absent behind n.id (IsAbsent-from_times n.id (by_key no_key behind) (omega (arith, absent, parts))) in
    let dropped : without (n ∷ behind) n.id ≡ without behind n.id =
    ap (λ b. cond (not b) (n ∷ without behind n.id) (without behind n.id)) (eq-eqb n.id n.id refl) in
    filter-append (λ m. not (eqb m.id n.id)) before (n ∷ behind) ∙ ap (λ f. f ++ without (n ∷ behind) n.id) front ∙ ap (λ f. before ++ f) (dropped ∙ back)

-- a call that takes a member out
abbrev pub TakesOut : Chains → Chains → ℕ → ℕ → Type 0
TakesOut old new place key =
    (n k : ℕ) (before behind : List (ℕ × ℕ)) → HasMembers n k old (before ++ (place, key) ∷ behind) → HasMembers n k new (before ++ behind)

-- a node's place is its own
pub absent_beside : {T : Type 0} (b l : ℕ) (a : Nodes T) (before behind : List (Node T)) (n : Node T) → HasNodes b l a (before ++ n ∷ behind)
    → times n.id (by_key no_key (before ++ behind)) ≡ 0
absent_beside b l a before behind n held =
    let all : times n.id (by_key no_key (before ++ n ∷ behind)) ≡ times n.id (by_key no_key before) + times n.id (by_key no_key (n ∷ behind)) =
    ap (times n.id) (by_key-append no_key before (n ∷ behind)) ∙ times-append n.id (by_key no_key before) (by_key no_key (n ∷ behind)) in
    let rest : times n.id (by_key no_key (before ++ behind)) ≡ times n.id (by_key no_key before) + times n.id (by_key no_key behind) =
    ap (times n.id) (by_key-append no_key before behind) ∙ times-append n.id (by_key no_key before) (by_key no_key behind) in
    let one : ◌≡◌ {A = ℕ} (cond (eqb n.id n.id) 1 0) 1 = cond-true (eqb n.id n.id) 1 0 (eq-eqb n.id n.id refl) in
    omega (arith, all, rest, one, held.once n.id)

-- a node taken out from between others
pub held_between : {T : Type 0} (b l : ℕ) (old new : Nodes T) (before behind : List (Node T)) (n : Node T) → HasNodes b l old (before ++ n ∷ behind)
    → new.spare ≡ old.spare + 1 → new.total ≡ old.total → new.free.items ≡ set old.free.items old.spare n.id → new.slots.items ≡ set old.slots.items n.id None
    → TakesOut old.order new.order n.id 0 → TakesOut old.buckets new.buckets n.id n.bucket → TakesOut old.lanes new.lanes n.id n.lane → HasNodes b l new (before ++ behind)
held_between {T} b l old new before behind n held spare total free slots order buckets lanes =
    let absent : times n.id (by_key no_key (before ++ behind)) ≡ 0 = absent_beside b l old before behind n held in
    let long : length (before ++ n ∷ behind) ≡ length before + length (n ∷ behind) = length-append before (n ∷ behind) in
    let short : length (before ++ behind) ≡ length before + length behind = length-append before behind in
    let size : length new.slots.items ≡ length old.slots.items = ap length slots ∙ length-set old.slots.items n.id None in
    let free_size : length new.free.items ≡ length old.free.items = ap length free ∙ length-set old.free.items old.spare n.id in
    let there : old.spare < length old.free.items = omega (arith, held.total, long, held.free_room) in
    let old_free : List (ℕ × ℕ) = free_members (take old.spare old.free.items) in
    let parted : free_members (take new.spare new.free.items) ≡ free_members (take old.spare old.free.items) ++ (n.id, 0) ∷ [] =
    ap (λ k. free_members (take k new.free.items)) spare ∙ ap (λ fs. free_members (take (old.spare + 1) fs)) free ∙
    ap free_members (take_more_set old.free.items old.spare n.id there) ∙ free_members-append (take old.spare old.free.items) (n.id ∷ []) in
    let cut_at : (key : Node T → ℕ) → by_key key (before ++ n ∷ behind) ≡ by_key key before ++ (n.id, key n) ∷ by_key key behind = λ key. by_key-append key before (n ∷ behind) in
    let kept : (k : ℕ) (c d : Chains) (key : Node T → ℕ) → TakesOut c d n.id (key n) → HasMembers old.total k c (by_key key (before ++ n ∷ behind)) → HasMembers new.total k d (by_key key (before ++ behind)) =
    λ k c d key takes has.
    let M : List (ℕ × ℕ) → Type 0 = λ ms. HasMembers old.total k c ms in
    let O : List (ℕ × ℕ) → Type 0 = λ ms. HasMembers old.total k d ms in
    let N : ℕ → Type 0 = λ t. HasMembers t k d (by_key key (before ++ behind)) in
    subst N (sym total) (subst O (sym (by_key-append key before behind)) (takes old.total k (by_key key before) (by_key key behind) (subst M (cut_at key) has))) in
    let M : List (ℕ × ℕ) → Type 0 = AreWithin old.total 1 in
    let in_range : n.id < old.total = (member_within old.total 1 (by_key no_key before) (by_key no_key behind) (n.id, 0) (subst M (cut_at no_key) held.in_order.within)).0 in
    let W : ℕ → Type 0 = λ t. AreWithin t 1 (free_members (take new.spare new.free.items)) in
    let L : List (Option (Slot T)) → Type 0 = λ s. AreLaid s (before ++ behind) in
    record {
      total = omega (arith, long, short, held.total, spare, total);
      slots = omega (arith, size, total, held.slots);
      slots_end = omega (arith, size, held.slots_end);
      free_room = omega (arith, total, free_size, held.free_room);
      laid =
          subst L (sym slots) (AreLaid-set old.slots.items n.id None (before ++ behind) (IsAbsent-from_times n.id (by_key no_key (before ++ behind)) absent)
          (AreLaid-without old.slots.items before behind n held.laid));
      once = λ place.
          let all : times place (by_key no_key (before ++ n ∷ behind)) ≡ times place (by_key no_key before) + times place ((n.id, 0) ∷ by_key no_key behind) =
          ap (times place) (cut_at no_key) ∙ times-append place (by_key no_key before) ((n.id, 0) ∷ by_key no_key behind) in
          let rest : times place (by_key no_key (before ++ behind)) ≡ times place (by_key no_key before) + times place (by_key no_key behind) =
          ap (times place) (by_key-append no_key before behind) ∙ times-append place (by_key no_key before) (by_key no_key behind) in
          let frees : times place (free_members (take new.spare new.free.items)) ≡ times place (free_members (take old.spare old.free.items)) + times place ((n.id, 0) ∷ []) =
          ap (times place) parted ∙ times-append place (free_members (take old.spare old.free.items)) ((n.id, 0) ∷ []) in
          omega (arith, all, rest, frees, held.once place);
      free_within =
          subst W (sym total) (subst M (sym parted) (AreWithin-append old.total 1 (free_members (take old.spare old.free.items)) ((n.id, 0) ∷ []) held.free_within (in_range, omega arith, tt)));
      in_order = kept 1 old.order new.order no_key order held.in_order;
      in_buckets = kept b old.buckets new.buckets (λ m. m.bucket) buckets held.in_buckets;
      in_lanes = kept l old.lanes new.lanes (λ m. m.lane) lanes held.in_lanes;
    }

-- what an option has
pub value_of : {X : Type 0} (o : Option X) → IsSome o → (x : X) × (o ≡ Some x)
value_of None some = absurd (false≢true some)
value_of (Some x) some = (x, refl)
