-- A node that leaves, and room that grows.
use Rattle.std.proofs.Common.{◌≡◌, ℕ, zero, suc, ◌+◌, ◌<◌, ◌≤◌, Bool, true, false, cond, eqb, List, [], ◌∷◌, ◌++◌, length, get_or, set, take, Option, Some, None, refl, sym, ap, ◌∙◌, subst, ⊎_elim, arith}
use Rattle.std.specs.Prelude.{slice_get, IsSome}
use Rattle.std.proofs.lemmas.List.{length-set, take_more_set}
use Rattle.std.proofs.lemmas.Bool.{cases_eq, ne_eqb, cond-false}
use Rattle.voy_link.specs.Indices.{nowhere, IsWidened}
use Rattle.voy_link.specs.Links.{times, AreWithin}
use Rattle.voy_link.specs.Chains.{HasMembers, HasPlaces}
use Rattle.voy_link.specs.Arena.{Node, node_of, without, nodes_before}
use Rattle.voy_link.specs.Nodes.{node_at, by_key, no_key, free_members, AreLaid, HasNodes, HasRoom}
use Rattle.voy_link.specs.declared.slots.Slot.{Slot}
use Rattle.voy_link.specs.declared.chains.Chains.{Chains}
use Rattle.voy_link.specs.declared.nodes.Nodes.{Nodes}
use Rattle.voy_link.proofs.Members.{times-append, AreWithin-append}
use Rattle.voy_link.proofs.Holding.{AreLaid-same, Cut, cut, without_cut, absent_beside, held_between, TakesOut, free_members-append}
use Rattle.voy_link.proofs.Looking.{node_there}

-- a node taken out
pub held_less : {T : Type 0} (b l : ℕ) (old new : Nodes T) (ns : List (Node T)) (id : ℕ) (slot : Slot T) → HasNodes b l old ns → IsSome (node_of ns id)
    → slice_get old.slots.items id ≡ Some (Some slot) → new.spare ≡ old.spare + 1 → new.total ≡ old.total → new.free.items ≡ set old.free.items old.spare id
    → new.slots.items ≡ set old.slots.items id None → TakesOut old.order new.order id 0 → TakesOut old.buckets new.buckets id slot.bucket → TakesOut old.lanes new.lanes id slot.lane
    → HasNodes b l new (without ns id)
held_less {T} b l old new ns id slot held some read spare total free slots order buckets lanes =
    let node : Node T = record { id = id; bucket = slot.bucket; lane = slot.lane; item = slot.item } in
    let place : Cut ns id (record { id = id; bucket = slot.bucket; lane = slot.lane; item = slot.item }) =
    cut ns id (record { id = id; bucket = slot.bucket; lane = slot.lane; item = slot.item }) (node_there old.slots.items ns id slot held.laid some read) in
    let H : List (Node T) → Type 0 = λ ms. HasNodes b l old ms in
    let N : List (Node T) → Type 0 = λ ms. HasNodes b l new ms in
    let whole : HasNodes b l old (nodes_before ns id ++ record { id = id; bucket = slot.bucket; lane = slot.lane; item = slot.item } ∷ place.behind) = subst H place.whole held in
    let left : without ns id ≡ nodes_before ns id ++ place.behind =
    ap (λ ms. without ms id) place.whole ∙
    without_cut (nodes_before ns id) place.behind (record { id = id; bucket = slot.bucket; lane = slot.lane; item = slot.item })
    (absent_beside b l old (nodes_before ns id) place.behind (record { id = id; bucket = slot.bucket; lane = slot.lane; item = slot.item }) whole) in
    subst N (sym left)
    (held_between b l old new (nodes_before ns id) place.behind (record { id = id; bucket = slot.bucket; lane = slot.lane; item = slot.item }) whole spare total free slots order buckets lanes)

take_same : (z n : ℕ) (xs ys : List ℕ) → ((i : ℕ) → get_or ys i z ≡ get_or xs i z) → n ≤ length xs → length xs ≤ length ys → take n ys ≡ take n xs
take_same z zero xs ys same fits longer = refl
take_same z (suc n) [] ys same fits longer = absurd (omega (arith, fits))
take_same z (suc n) (x ∷ xs) [] same fits longer = absurd (omega (arith, longer))
take_same z (suc n) (x ∷ xs) (y ∷ ys) same fits longer =
    ap (λ v. v ∷ take n ys) (same 0) ∙ ap (λ vs. x ∷ vs) (take_same z n xs ys (λ i. same (suc i)) (omega (arith, fits)) (omega (arith, longer)))

-- a call that keeps all members
abbrev pub Keeps : Chains → Chains → Type 0
Keeps old new = (n k : ℕ) (ms : List (ℕ × ℕ)) → HasMembers n k old ms → HasMembers n k new ms

-- vectors that grew
pub held_wider : {T : Type 0} (b l : ℕ) (old new : Nodes T) (ns : List (Node T)) → new.spare ≡ old.spare → new.total ≡ old.total → IsWidened old.free.items new.free.items
    → ((id : ℕ) → node_at new.slots.items id ≡ node_at old.slots.items id) → length old.slots.items ≤ length new.slots.items
    → (length old.slots.items ≤ nowhere → length new.slots.items ≤ nowhere) → Keeps old.order new.order → Keeps old.buckets new.buckets → Keeps old.lanes new.lanes
    → HasNodes b l old ns → HasNodes b l new ns
held_wider {T} b l old new ns spare total free slots longer ends order buckets lanes held =
    let fits : old.spare ≤ length old.free.items = omega (arith, held.total, held.free_room) in
    let frees : free_members (take new.spare new.free.items) ≡ free_members (take old.spare old.free.items) =
    ap (λ k. free_members (take k new.free.items)) spare ∙ ap free_members (take_same nowhere old.spare old.free.items new.free.items free.kept fits free.longer) in
    let F : List (ℕ × ℕ) → Type 0 = AreWithin old.total 1 in
    let W : ℕ → Type 0 = λ t. AreWithin t 1 (free_members (take new.spare new.free.items)) in
    let kept : (k : ℕ) (c : Chains) (ms : List (ℕ × ℕ)) → HasMembers old.total k c ms → HasMembers new.total k c ms =
    λ k c ms has. let M : ℕ → Type 0 = λ t. HasMembers t k c ms in subst M (sym total) has in
    record {
      total = omega (arith, held.total, spare, total);
      slots = omega (arith, total, held.slots, longer);
      slots_end = ends held.slots_end;
      free_room = omega (arith, total, held.free_room, free.longer);
      laid = AreLaid-same old.slots.items new.slots.items ns slots held.laid;
      once = λ place. omega (arith, held.once place, ap (times place) frees);
      free_within = subst W (sym total) (subst F (sym frees) held.free_within);
      in_order = kept 1 new.order (by_key no_key ns) (order old.total 1 (by_key no_key ns) held.in_order);
      in_buckets = kept b new.buckets (by_key (λ n. n.bucket) ns) (buckets old.total b (by_key (λ n. n.bucket) ns) held.in_buckets);
      in_lanes = kept l new.lanes (by_key (λ n. n.lane) ns) (lanes old.total l (by_key (λ n. n.lane) ns) held.in_lanes);
    }

AreWithin-more : (places more keys : ℕ) (ms : List (ℕ × ℕ)) → places ≤ more → AreWithin places keys ms → AreWithin more keys ms
AreWithin-more places more keys [] up within = tt
AreWithin-more places more keys (m ∷ ms) up within = (omega (arith, up, within.0), within.1, AreWithin-more places more keys ms up within.2)

HasMembers-more : (places more keys : ℕ) (c : Chains) (ms : List (ℕ × ℕ)) → places ≤ more → HasPlaces c more → HasMembers places keys c ms → HasMembers more keys c ms
HasMembers-more places more keys c ms up room had = record {
  room = room;
  ahead_ends = had.ahead_ends;
  back_ends = had.back_ends;
  first_keys = had.first_keys;
  last_keys = had.last_keys;
  within = AreWithin-more places more keys ms up had.within;
  apart = had.apart;
  ahead = had.ahead;
  behind = had.behind;
}

-- behind all places no member stands
times-behind : (places keys place : ℕ) (ms : List (ℕ × ℕ)) → places ≤ place → AreWithin places keys ms → times place ms ≡ 0
times-behind places keys place [] up within = refl
times-behind places keys place (m ∷ ms) up within =
    let other : m.0 ≡ place → ⊥ = λ same. omega (arith, same, up, within.0) in
    let none : ◌≡◌ {A = ℕ} (cond (eqb m.0 place) 1 0) 0 = cond-false (eqb m.0 place) 1 0 (ne_eqb m.0 place other) in
    omega (arith, none, times-behind places keys place ms up within.2)

-- one free place more
pub held_freer : {T : Type 0} (b l : ℕ) (old new : Nodes T) (ns : List (Node T)) → HasRoom old (old.total + 1) → new.spare ≡ old.spare + 1 → new.total ≡ old.total + 1
    → new.free.items ≡ set old.free.items old.spare old.total → new.slots.items ≡ old.slots.items → new.order ≡ old.order → new.buckets ≡ old.buckets → new.lanes ≡ old.lanes
    → HasNodes b l old ns → HasNodes b l new ns
held_freer {T} b l old new ns room spare total free slots order buckets lanes held =
    let size : length new.free.items ≡ length old.free.items = ap length free ∙ length-set old.free.items old.spare old.total in
    let same : length new.slots.items ≡ length old.slots.items = ap length slots in
    let there : old.spare < length old.free.items = omega (arith, held.total, room.free) in
    let parted : free_members (take new.spare new.free.items) ≡ free_members (take old.spare old.free.items) ++ (old.total, 0) ∷ [] =
    ap (λ k. free_members (take k new.free.items)) spare ∙ ap (λ fs. free_members (take (old.spare + 1) fs)) free ∙
    ap free_members (take_more_set old.free.items old.spare old.total there) ∙ free_members-append (take old.spare old.free.items) (old.total ∷ []) in
    let up : old.total ≤ old.total + 1 = omega arith in
    let F : List (ℕ × ℕ) → Type 0 = AreWithin (old.total + 1) 1 in
    let W : ℕ → Type 0 = λ t. AreWithin t 1 (free_members (take new.spare new.free.items)) in
    let S : List (Option (Slot T)) → Type 0 = λ s. AreLaid s ns in
    let kept : (k : ℕ) (c d : Chains) (ms : List (ℕ × ℕ)) → d ≡ c → HasPlaces c (old.total + 1) → HasMembers old.total k c ms → HasMembers new.total k d ms =
    λ k c d ms is wide has.
    let M : ℕ → Type 0 = λ t. HasMembers t k d ms in
    let D : Chains → Type 0 = λ e. HasMembers (old.total + 1) k e ms in
    subst M (sym total) (subst D (sym is) (HasMembers-more old.total (old.total + 1) k c ms up wide has)) in
    record {
      total = omega (arith, held.total, spare, total);
      slots = omega (arith, total, same, room.slots);
      slots_end = omega (arith, same, held.slots_end);
      free_room = omega (arith, total, size, room.free);
      laid = subst S (sym slots) held.laid;
      once = λ place.
          let counted : times place (free_members (take new.spare new.free.items)) ≡ times place (free_members (take old.spare old.free.items)) + times place ((old.total, 0) ∷ []) =
          ap (times place) parted ∙ times-append place (free_members (take old.spare old.free.items)) ((old.total, 0) ∷ []) in
          let all : times place (by_key no_key ns) + (times place (free_members (take old.spare old.free.items)) + times place ((old.total, 0) ∷ [])) ≤ 1 =
          ⊎_elim
          (λ (here : old.total ≡ place).
          let at : old.total ≤ place = omega (arith, here) in
          let one : times place ((old.total, 0) ∷ []) ≤ 1 = at_most_one (eqb old.total place) in
          omega (arith, times-behind old.total 1 place (by_key no_key ns) at held.in_order.within, times-behind old.total 1 place (free_members (take old.spare old.free.items)) at held.free_within, one))
          (λ (other : old.total ≡ place → ⊥).
          let none : ◌≡◌ {A = ℕ} (cond (eqb old.total place) 1 0) 0 = cond-false (eqb old.total place) 1 0 (ne_eqb old.total place other) in
          omega (arith, none, held.once place))
          (cases_eq old.total place) in
          omega (arith, counted, all);
      free_within =
          subst W (sym total) (subst F (sym parted) (AreWithin-append (old.total + 1) 1 (free_members (take old.spare old.free.items)) ((old.total, 0) ∷ [])
          (AreWithin-more old.total (old.total + 1) 1 (free_members (take old.spare old.free.items)) up held.free_within) (omega arith, omega arith, tt)));
      in_order = kept 1 old.order new.order (by_key no_key ns) order room.order held.in_order;
      in_buckets = kept b old.buckets new.buckets (by_key (λ n. n.bucket) ns) buckets room.buckets held.in_buckets;
      in_lanes = kept l old.lanes new.lanes (by_key (λ n. n.lane) ns) lanes room.lanes held.in_lanes;
    } where
      at_most_one : (t : Bool) → cond t 1 0 + 0 ≤ 1
      at_most_one true = omega arith
      at_most_one false = omega arith
