-- The first node of a lane, and the lane without it.
use Rattle.std.specs.Prelude.{◌≡◌, ◌==◌, ◌<◌, ◌≤◌, ℕ, suc, Bool, true, false, List, [], ◌∷◌, Option, Some, None, IsSome, length, nat_le, not, refl, if◌then◌else◌}
use Rattle.std.specs.Option.{option_map}
use Rattle.std.proofs.Common.{ap, subst, sym, ◌∙◌}
use Rattle.std.proofs.lemmas.Bool.{eq-eqb, le-leb, lt-leb}
use Rattle.std.proofs.lemmas.Option.{none-some, same_Some}
use Rattle.voy_event.specs.declared.event.Event.{Event}
use Rattle.voy_link.specs.Arena.{Node, first_id, in_lane, item_of, node_of, without}
use Rattle.voy_conflict.specs.Filing.{are_apart, vsn_at, without_past}
use Rattle.voy_conflict.specs.declared.entry.Entry.{Entry}
use Rattle.voy_conflict.proofs.ApartLemmas.{first_apart, other_id, rest_apart, without_none}

module _ (events : List Event) (lane vsn : ℕ) where
  abbrev is_low : Node Entry → Bool
  is_low n = nat_le (vsn_at events n.item.at) vsn

  -- the first node of the lane has this id
  pub record FirstOf (ns : List (Node Entry)) (id : ℕ) : Type 0 where
    pub node : Node Entry
    pub there : node_of ns id ≡ Some node
    pub stops : is_low node ≡ false → without_past events lane vsn ns ≡ ns
    pub goes_on : is_low node ≡ true → without_past events lane vsn (without ns id) ≡ without_past events lane vsn ns
    pub shorter : suc (length (without ns id)) ≡ length ns

  itself : (id : ℕ) → (id == id) ≡ true
  itself id = eq-eqb id id refl

  first_here : (n : Node Entry) (ns : List (Node Entry)) → are_apart (n ∷ ns) ≡ true → (n.lane == lane) ≡ true → FirstOf (n ∷ ns) n.id
  first_here n ns apart inside = record {
    node = n;
    there = ap (λ b. if b then Some n else node_of ns n.id) (itself n.id);
    stops = λ above. ap (λ b. if b then (if is_low n then without_past events lane vsn ns else n ∷ ns) else n ∷ without_past events lane vsn ns) inside
        ∙ ap (λ b. if b then without_past events lane vsn ns else n ∷ ns) above;
    goes_on = λ low. ap (without_past events lane vsn) rest
        ∙ sym (ap (λ b. if b then (if is_low n then without_past events lane vsn ns else n ∷ ns) else n ∷ without_past events lane vsn ns) inside
        ∙ ap (λ b. if b then without_past events lane vsn ns else n ∷ ns) low);
    shorter = ap (λ ms. suc (length ms)) rest;
  }
    where
      rest : without (n ∷ ns) n.id ≡ ns
      rest = ap (λ b. if not b then n ∷ without ns n.id else without ns n.id) (itself n.id) ∙ without_none ns n.id (first_apart n ns apart)

  first_behind : (n : Node Entry) (ns : List (Node Entry)) (id : ℕ) → are_apart (n ∷ ns) ≡ true → (n.lane == lane) ≡ false → FirstOf ns id → FirstOf (n ∷ ns) id
  first_behind n ns id apart outside first = record {
    node = first.node;
    there = ap (λ b. if b then Some n else node_of ns id) other ∙ first.there;
    stops = λ above. passed ns ∙ ap (λ ms. n ∷ ms) (first.stops above);
    goes_on = λ low. ap (without_past events lane vsn) rest ∙ passed (without ns id) ∙ ap (λ ms. n ∷ ms) (first.goes_on low) ∙ sym (passed ns);
    shorter = ap (λ ms. suc (length ms)) rest ∙ ap suc first.shorter;
  }
    where
      other : (n.id == id) ≡ false
      other = other_id n first.node ns id apart first.there

      rest : without (n ∷ ns) id ≡ n ∷ without ns id
      rest = ap (λ b. if not b then n ∷ without ns id else without ns id) other

      passed : (ms : List (Node Entry)) → without_past events lane vsn (n ∷ ms) ≡ n ∷ without_past events lane vsn ms
      passed ms = ap (λ b. if b then (if is_low n then without_past events lane vsn ms else n ∷ ms) else n ∷ without_past events lane vsn ms) outside

  pub first_of : (ns : List (Node Entry)) (id : ℕ) → are_apart ns ≡ true → Some id ≡ first_id (in_lane ns lane) → FirstOf ns id
  first_of [] id apart is = absurd (none-some id (sym is))
  first_of (n ∷ ns) id apart is = by (n.lane == lane) refl is (first_of ns id (rest_apart n ns apart))
    where
      by : (b : Bool) → (n.lane == lane) ≡ b → Some id ≡ first_id (if b then n ∷ in_lane ns lane else in_lane ns lane)
          → (Some id ≡ first_id (in_lane ns lane) → FirstOf ns id) → FirstOf (n ∷ ns) id
      by true inside is rest = subst (FirstOf (n ∷ ns)) (sym (same_Some id n.id is)) (first_here n ns apart inside)
      by false outside is rest = first_behind n ns id apart outside (rest is)

  -- no node is taken of a lane that has none
  pub no_first : (ns : List (Node Entry)) → None ≡ first_id (in_lane ns lane) → without_past events lane vsn ns ≡ ns
  no_first [] is = refl
  no_first (n ∷ ns) is = by (n.lane == lane) is (no_first ns)
    where
      by : (b : Bool) → None ≡ first_id (if b then n ∷ in_lane ns lane else in_lane ns lane)
          → (None ≡ first_id (in_lane ns lane) → without_past events lane vsn ns ≡ ns)
          → (if b then (if is_low n then without_past events lane vsn ns else n ∷ ns) else n ∷ without_past events lane vsn ns) ≡ n ∷ ns
      by true is rest = absurd (none-some n.id is)
      by false is rest = ap (λ ms. n ∷ ms) (rest is)

  is_there : (o : Option (Node Entry)) (n : Node Entry) → o ≡ Some n → IsSome o
  is_there None n is = absurd (none-some n is)
  is_there (Some m) n is = refl

  pub first_is_there : (ns : List (Node Entry)) (id : ℕ) → are_apart ns ≡ true → Some id ≡ first_id (in_lane ns lane) → IsSome (node_of ns id)
  first_is_there ns id apart is = let first = first_of ns id apart is in is_there (node_of ns id) first.node first.there

  -- by the item of the first node
  pub first_item : (ns : List (Node Entry)) (id : ℕ) (entry : Entry) (first : FirstOf ns id) → item_of ns id ≡ Some entry → first.node.item ≡ entry
  first_item ns id entry first item = same_Some first.node.item entry (sym (ap (option_map (λ (n : Node Entry). n.item)) first.there) ∙ item)

  pub past_stops : (ns : List (Node Entry)) (id : ℕ) (entry : Entry) → are_apart ns ≡ true → Some id ≡ first_id (in_lane ns lane) → item_of ns id ≡ Some entry
      → vsn < vsn_at events entry.at → without_past events lane vsn ns ≡ ns
  past_stops ns id entry apart is item above =
      let first = first_of ns id apart is in
      first.stops (ap (λ (e : Entry). nat_le (vsn_at events e.at) vsn) (first_item ns id entry first item) ∙ lt-leb (vsn_at events entry.at) vsn above)

  pub past_goes_on : (ns : List (Node Entry)) (id : ℕ) (entry : Entry) → are_apart ns ≡ true → Some id ≡ first_id (in_lane ns lane) → item_of ns id ≡ Some entry
      → vsn_at events entry.at ≤ vsn → without_past events lane vsn (without ns id) ≡ without_past events lane vsn ns
  past_goes_on ns id entry apart is item low =
      let first = first_of ns id apart is in
      first.goes_on (ap (λ (e : Entry). nat_le (vsn_at events e.at) vsn) (first_item ns id entry first item) ∙ le-leb (vsn_at events entry.at) vsn low)

  pub past_shorter : (ns : List (Node Entry)) (id : ℕ) → are_apart ns ≡ true → Some id ≡ first_id (in_lane ns lane) → suc (length (without ns id)) ≡ length ns
  past_shorter ns id apart is = (first_of ns id apart is).shorter
