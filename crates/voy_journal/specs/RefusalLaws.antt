-- Laws of the first payload that is refused.
use Rattle.std.proofs.Common.{◌≡◌, ◌+◌, ℕ, zero, suc, List, [], ◌∷◌, Option, Some, None, length, length-append, take, refl, subst, sym, ap, ◌∙◌, arith}
use Rattle.std.specs.Option.{option_map}
use Rattle.std.proofs.lemmas.Option.{none-some}
use Rattle.voy_journal.specs.Grammar.{entries, gate_of}
use Rattle.voy_journal.specs.Refusals.{IsFirstRefused, first_refused, knows_after, refused_from, refused_gate}

-- the first gate stands at 0, and each next one of them five bytes and the payload further
pub gate_behind : (payload : List ℕ) (payloads : List (List ℕ)) (n : ℕ)
    → gate_of (payload ∷ payloads) (suc n) ≡ (5 + length payload) + gate_of payloads n
gate_behind payload payloads n = omega (arith, length-append payload (entries (take n payloads)))

some_of_suc : (found : Option ℕ) (n : ℕ) → option_map suc found ≡ Some n → (m : ℕ) × (found ≡ Some m) × (n ≡ suc m)
some_of_suc None n is = absurd (none-some n is)
some_of_suc (Some m) n is = (m, refl, cc)

none_of_suc : (found : Option ℕ) → option_map suc found ≡ None → found ≡ None
none_of_suc None is = refl
none_of_suc (Some m) is = absurd (none-some (suc m) (sym is))

module _ {S : Type 0} (takes : S → List ℕ → Option S) where
  first_none : (knows : S) (payload : List ℕ) (payloads : List (List ℕ)) → takes knows payload ≡ None
      → first_refused takes knows (payload ∷ payloads) ≡ Some 0
  first_none knows payload payloads refuses = rw refuses refl

  first_some : (knows next : S) (payload : List ℕ) (payloads : List (List ℕ)) → takes knows payload ≡ Some next
      → first_refused takes knows (payload ∷ payloads) ≡ option_map suc (first_refused takes next payloads)
  first_some knows next payload payloads is = rw is refl

  knows_none : (knows : S) (payload : List ℕ) (payloads : List (List ℕ)) → takes knows payload ≡ None
      → knows_after takes knows (payload ∷ payloads) ≡ None
  knows_none knows payload payloads refuses = rw refuses refl

  knows_some : (knows next : S) (payload : List ℕ) (payloads : List (List ℕ)) → takes knows payload ≡ Some next
      → knows_after takes knows (payload ∷ payloads) ≡ knows_after takes next payloads
  knows_some knows next payload payloads is = rw is refl

  -- the first one is refused
  pub refused_here : (knows : S) (offset : ℕ) (payload : List ℕ) (payloads : List (List ℕ)) → takes knows payload ≡ None
      → refused_from takes knows offset (payload ∷ payloads) ≡ Some offset
  refused_here knows offset payload payloads refuses =
      ap (λ found. option_map (λ gate. offset + gate) (option_map (gate_of (payload ∷ payloads)) found)) (first_none knows payload payloads refuses)
      ∙ ap (λ gate. Some gate) (omega arith)

  -- the first one is taken: the first that is refused stands among those behind it
  pub refused_behind : (knows next : S) (offset : ℕ) (payload : List ℕ) (payloads : List (List ℕ))
      → takes knows payload ≡ Some next
      → refused_from takes knows offset (payload ∷ payloads) ≡ refused_from takes next (offset + (5 + length payload)) payloads
  refused_behind knows next offset payload payloads is =
      ap (λ found. option_map (λ gate. offset + gate) (option_map (gate_of (payload ∷ payloads)) found)) (first_some knows next payload payloads is)
      ∙ by (first_refused takes next payloads)
    where
      by : (found : Option ℕ)
          → option_map (λ gate. offset + gate) (option_map (gate_of (payload ∷ payloads)) (option_map suc found))
          ≡ option_map (λ gate. (offset + (5 + length payload)) + gate) (option_map (gate_of payloads) found)
      by None = refl
      by (Some n) = ap (λ gate. Some gate) (omega (arith, gate_behind payload payloads n))

  -- from the beginning of the file
  pub refused_from_start : (knows : S) (payloads : List (List ℕ))
      → refused_from takes knows 0 payloads ≡ refused_gate takes knows payloads
  refused_from_start knows payloads = by (refused_gate takes knows payloads) where
    by : (found : Option ℕ) → option_map (λ gate. 0 + gate) found ≡ found
    by None = refl
    by (Some gate) = ap (λ n. Some n) (omega arith)

  -- where each is taken, none is refused
  pub taken_whole : (payloads : List (List ℕ)) (knows known : S) → knows_after takes knows payloads ≡ Some known
      → first_refused takes knows payloads ≡ None
  taken_whole [] knows known is = refl
  taken_whole (payload ∷ payloads) knows known is = by (taken_whole payloads) (takes knows payload) refl where
    by : ((next known : S) → knows_after takes next payloads ≡ Some known → first_refused takes next payloads ≡ None)
        → (found : Option S) → takes knows payload ≡ found → first_refused takes knows (payload ∷ payloads) ≡ None
    by behind None refuses = absurd (none-some known (sym (knows_none knows payload payloads refuses) ∙ is))
    by behind (Some next) taken =
        first_some knows next payload payloads taken
        ∙ ap (option_map suc) (behind next known (sym (knows_some knows next payload payloads taken) ∙ is))

  -- where none is refused, each is taken
  pub none_refused : (payloads : List (List ℕ)) (knows : S) → first_refused takes knows payloads ≡ None
      → (known : S) × (knows_after takes knows payloads ≡ Some known)
  none_refused [] knows is = (knows, refl)
  none_refused (payload ∷ payloads) knows is = by (none_refused payloads) (takes knows payload) refl where
    by : ((next : S) → first_refused takes next payloads ≡ None → (known : S) × (knows_after takes next payloads ≡ Some known))
        → (found : Option S) → takes knows payload ≡ found
        → (known : S) × (knows_after takes knows (payload ∷ payloads) ≡ Some known)
    by behind None refuses = absurd (none-some 0 (sym is ∙ first_none knows payload payloads refuses))
    by behind (Some next) taken =
        let rest = behind next (none_of_suc (first_refused takes next payloads) (sym (first_some knows next payload payloads taken) ∙ is)) in
        (rest.0, knows_some knows next payload payloads taken ∙ rest.1)

  -- the number that is found is that of the first one that is refused
  pub refused_is_first : (payloads : List (List ℕ)) (knows : S) (n : ℕ) → first_refused takes knows payloads ≡ Some n
      → IsFirstRefused takes knows payloads n
  refused_is_first [] knows n is = absurd (none-some n is)
  refused_is_first (payload ∷ payloads) knows n is = by (refused_is_first payloads) (takes knows payload) refl where
    some_number : {x y : ℕ} → Some x ≡ Some y → x ≡ y
    some_number {x} {y} same = cc

    by : ((next : S) (m : ℕ) → first_refused takes next payloads ≡ Some m → IsFirstRefused takes next payloads m)
        → (found : Option S) → takes knows payload ≡ found → IsFirstRefused takes knows (payload ∷ payloads) n
    by behind None refuses =
        let first : 0 ≡ n = some_number (sym (first_none knows payload payloads refuses) ∙ is) in
        subst (λ place. IsFirstRefused takes knows (payload ∷ payloads) place) first
        (record { known = knows; payload = payload; before = refl; is = refl; refused = refuses })
    by behind (Some next) taken =
        let number = some_of_suc (first_refused takes next payloads) n (sym (first_some knows next payload payloads taken) ∙ is) in
        let rest = behind next number.0 number.1 in
        subst (λ place. IsFirstRefused takes knows (payload ∷ payloads) place) (sym number.2)
        (record {
          known = rest.known;
          payload = rest.payload;
          before = knows_some knows next payload (take number.0 payloads) taken ∙ rest.before;
          is = rest.is;
          refused = rest.refused;
        })

  -- and the first one that is refused is found
  pub first_is_refused : (payloads : List (List ℕ)) (knows : S) (n : ℕ) → IsFirstRefused takes knows payloads n
      → first_refused takes knows payloads ≡ Some n
  first_is_refused [] knows n first = absurd (none-some first.payload first.is)
  first_is_refused (payload ∷ payloads) knows zero first =
      let known : knows ≡ first.known = some_state first.before in
      let same : payload ≡ first.payload = some_bytes first.is in
      first_none knows payload payloads (ap (λ state. takes state payload) known ∙ ap (takes first.known) same ∙ first.refused)
    where
      some_state : {x y : S} → Some x ≡ Some y → x ≡ y
      some_state {x} {y} same = cc

      some_bytes : {x y : List ℕ} → Some x ≡ Some y → x ≡ y
      some_bytes {x} {y} same = cc
  first_is_refused (payload ∷ payloads) knows (suc n) first = by (first_is_refused payloads) (takes knows payload) refl where
    by : ((next : S) (m : ℕ) → IsFirstRefused takes next payloads m → first_refused takes next payloads ≡ Some m)
        → (found : Option S) → takes knows payload ≡ found
        → first_refused takes knows (payload ∷ payloads) ≡ Some (suc n)
    by behind None refuses = absurd (none-some first.known (sym (knows_none knows payload (take n payloads) refuses) ∙ first.before))
    by behind (Some next) taken =
        first_some knows next payload payloads taken
        ∙ ap (option_map suc) (behind next n (record {
          known = first.known;
          payload = first.payload;
          before = sym (knows_some knows next payload (take n payloads) taken) ∙ first.before;
          is = first.is;
          refused = first.refused;
        }))

  -- an offset that is found is that of the gate of the first one that is refused
  pub refused_gate_is : (payloads : List (List ℕ)) (knows : S) (gate : ℕ)
      → refused_gate takes knows payloads ≡ Some gate
      → (n : ℕ) × IsFirstRefused takes knows payloads n × (gate ≡ gate_of payloads n)
  refused_gate_is payloads knows gate is = by (first_refused takes knows payloads) refl where
    some_gate : {x y : ℕ} → Some x ≡ Some y → x ≡ y
    some_gate {x} {y} same = cc

    by : (found : Option ℕ) → first_refused takes knows payloads ≡ found
        → (n : ℕ) × IsFirstRefused takes knows payloads n × (gate ≡ gate_of payloads n)
    by None none = absurd (none-some gate (sym (ap (option_map (gate_of payloads)) none) ∙ is))
    by (Some n) some = (n, refused_is_first payloads knows n some, some_gate (sym is ∙ ap (option_map (gate_of payloads)) some))
