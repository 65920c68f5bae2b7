-- What the calls of `Chains` do to the members.
use Rattle.std.proofs.Common.{◌≡◌, ℕ, ◌+◌, ◌<◌, ◌≤◌, Bool, true, false, cond, eqb, List, [], ◌∷◌, ◌++◌, length, set, reverse, refl, sym, ap, ◌∙◌, subst, ⊎_elim, arith, append_assoc}
use Rattle.std.proofs.lemmas.List.{length-set, reverse-append}
use Rattle.std.proofs.lemmas.Bool.{cases_eq, eq-eqb, ne_eqb, cond-true, cond-false}
use Rattle.voy_link.specs.Indices.{nowhere, place_at, with_end, IsWidened}
use Rattle.voy_link.specs.Links.{first_or, last_or, times, AreApart, AreWithin, HaveNexts, AreThreaded}
use Rattle.voy_link.specs.Chains.{HasMembers}
use Rattle.voy_link.specs.declared.chains.Chains.{Chains}
use Rattle.voy_link.proofs.Threads.{first_or-reverse, last_or-reverse, IsAbsent-from_times, HaveNexts-same, next_at, threads_in_front, threads_behind, threads_without}

pub times-append : (place : ℕ) (xs ys : List (ℕ × ℕ)) → times place (xs ++ ys) ≡ times place xs + times place ys
times-append place [] ys = omega arith
times-append place (x ∷ xs) ys = omega (arith, times-append place xs ys)

pub times-reverse : (place : ℕ) (xs : List (ℕ × ℕ)) → times place (reverse xs) ≡ times place xs
times-reverse place [] = refl
times-reverse place (x ∷ xs) =
    let turned : times place (reverse (x ∷ xs)) ≡ times place (reverse xs ++ x ∷ []) = ap (times place) (reverse-append (x ∷ []) xs) in
    let parted : times place (reverse xs ++ x ∷ []) ≡ times place (reverse xs) + times place (x ∷ []) = times-append place (reverse xs) (x ∷ []) in
    let rest : times place (reverse xs) ≡ times place xs = times-reverse place xs in
    turned ∙ omega (arith, parted, rest)

AreApart-reverse : (ms : List (ℕ × ℕ)) → AreApart ms → AreApart (reverse ms)
AreApart-reverse ms apart place = omega (arith, times-reverse place ms, apart place)

AreApart-push : (place key : ℕ) (ms : List (ℕ × ℕ)) → times place ms ≡ 0 → AreApart ms → AreApart (ms ++ (place, key) ∷ [])
AreApart-push place key ms absent apart at =
    let parts : times at (ms ++ (place, key) ∷ []) ≡ times at ms + times at ((place, key) ∷ []) = times-append at ms ((place, key) ∷ []) in
    ⊎_elim
    (λ (here : place ≡ at).
    let P : ℕ → Type 0 = λ at. times at ms ≡ 0 in
    let none : times at ms ≡ 0 = subst P here absent in
    let one : ◌≡◌ {A = ℕ} (cond (eqb place at) 1 0) 1 = cond-true (eqb place at) 1 0 (eq-eqb place at here) in
    omega (arith, parts, none, one))
    (λ (other : place ≡ at → ⊥).
    let none : ◌≡◌ {A = ℕ} (cond (eqb place at) 1 0) 0 = cond-false (eqb place at) 1 0 (ne_eqb place at other) in
    omega (arith, parts, none, apart at))
    (cases_eq place at)

AreApart-without : (before behind : List (ℕ × ℕ)) (m : ℕ × ℕ) → AreApart (before ++ m ∷ behind) → AreApart (before ++ behind)
AreApart-without before behind m apart at =
    omega (arith, apart at, times-append at before (m ∷ behind), times-append at before behind)

pub AreWithin-append : (places keys : ℕ) (xs ys : List (ℕ × ℕ)) → AreWithin places keys xs → AreWithin places keys ys → AreWithin places keys (xs ++ ys)
AreWithin-append places keys [] ys some more = more
AreWithin-append places keys (x ∷ xs) ys some more = (some.0, some.1, AreWithin-append places keys xs ys some.2 more)

AreWithin-reverse : (places keys : ℕ) (xs : List (ℕ × ℕ)) → AreWithin places keys xs → AreWithin places keys (reverse xs)
AreWithin-reverse places keys [] within = tt
AreWithin-reverse places keys (x ∷ xs) within =
    let P : List (ℕ × ℕ) → Type 0 = AreWithin places keys in
    subst P (sym (reverse-append (x ∷ []) xs)) (AreWithin-append places keys (reverse xs) (x ∷ []) (AreWithin-reverse places keys xs within.2) (within.0, within.1, tt))

AreWithin-without : (places keys : ℕ) (before behind : List (ℕ × ℕ)) (m : ℕ × ℕ) → AreWithin places keys (before ++ m ∷ behind) → AreWithin places keys (before ++ behind)
AreWithin-without places keys [] behind m within = within.2
AreWithin-without places keys (x ∷ before) behind m within = (within.0, within.1, AreWithin-without places keys before behind m within.2)

pub member_within : (places keys : ℕ) (before behind : List (ℕ × ℕ)) (m : ℕ × ℕ) → AreWithin places keys (before ++ m ∷ behind) → (m.0 < places) × (m.1 < keys)
member_within places keys [] behind m within = (within.0, within.1)
member_within places keys (x ∷ before) behind m within = member_within places keys before behind m within.2

length-with_end : (ends : List ℕ) (beside key place : ℕ) → length (with_end ends beside key place) ≡ length ends
length-with_end ends beside key place = either (eqb beside nowhere) where
  either : (b : Bool) → length (cond b (set ends key place) ends) ≡ length ends
  either true = length-set ends key place
  either false = refl

threaded_at : (z : ℕ) (f f' n n' : List ℕ) (ms ms' : List (ℕ × ℕ)) → f ≡ f' → n ≡ n' → ms ≡ ms' → AreThreaded z f n ms → AreThreaded z f' n' ms'
threaded_at z f f' n n' ms ms' same_f same_n same_ms threaded =
    let P : List ℕ → Type 0 = λ g. AreThreaded z g n ms in
    let Q : List ℕ → Type 0 = λ g. AreThreaded z f' g ms in
    let R : List (ℕ × ℕ) → Type 0 = λ g. AreThreaded z f' n' g in
    subst R same_ms (subst Q same_n (subst P same_f threaded))

-- a member at the end
pub appended : (n k : ℕ) (old new : Chains) (ms : List (ℕ × ℕ)) (place key last : ℕ) → HasMembers n k old ms → place < n → key < k → times place ms ≡ 0
    → last ≡ place_at old.lasts.items key → new.prevs.items ≡ set old.prevs.items place last → new.lasts.items ≡ set old.lasts.items key place
    → new.nexts.items ≡ set (set old.nexts.items place nowhere) last place → new.firsts.items ≡ with_end old.firsts.items last key place
    → HasMembers n k new (ms ++ (place, key) ∷ [])
appended n k old new ms place key last had at_place at_key absent last_is prevs lasts nexts firsts =
    let is : last_or nowhere key ms ≡ last = sym (last_is ∙ had.behind.begin key ∙ first_or-reverse nowhere key ms) in
    let size_nexts : length new.nexts.items ≡ length old.nexts.items =
    ap length nexts ∙ length-set (set old.nexts.items place nowhere) last place ∙ length-set old.nexts.items place nowhere in
    let size_prevs : length new.prevs.items ≡ length old.prevs.items = ap length prevs ∙ length-set old.prevs.items place last in
    let size_firsts : length new.firsts.items ≡ length old.firsts.items = ap length firsts ∙ length-with_end old.firsts.items last key place in
    let size_lasts : length new.lasts.items ≡ length old.lasts.items = ap length lasts ∙ length-set old.lasts.items key place in
    let back_absent : times place (reverse ms) ≡ 0 = times-reverse place ms ∙ absent in
    let turned : reverse (ms ++ (place, key) ∷ []) ≡ (place, key) ∷ reverse ms = reverse-append ms ((place, key) ∷ []) in
    record {
      room = record { ahead = omega (arith, size_nexts, had.room.ahead); back = omega (arith, size_prevs, had.room.back) };
      ahead_ends = rw size_nexts had.ahead_ends;
      back_ends = rw size_prevs had.back_ends;
      first_keys = size_firsts ∙ had.first_keys;
      last_keys = size_lasts ∙ had.last_keys;
      within = AreWithin-append n k ms ((place, key) ∷ []) had.within (at_place, at_key, tt);
      apart = AreApart-push place key ms absent had.apart;
      ahead =
          threaded_at nowhere _ new.firsts.items _ new.nexts.items _ _ (ap (λ l. with_end old.firsts.items l key place) is ∙ sym firsts)
          (ap (λ l. set (set old.nexts.items place nowhere) l place) is ∙ sym nexts) refl
          (threads_behind nowhere old.firsts.items old.nexts.items ms place key n k had.within had.room.ahead had.ahead_ends (omega (arith, at_place, had.room.ahead))
          (omega (arith, at_key, had.first_keys)) (IsAbsent-from_times place ms absent) had.apart had.ahead);
      behind =
          threaded_at nowhere _ new.lasts.items _ new.prevs.items _ _ (sym lasts) (ap (set old.prevs.items place) (sym last_is) ∙ sym prevs) (sym turned)
          (threads_in_front nowhere old.lasts.items old.prevs.items (reverse ms) place key (omega (arith, at_place, had.room.back)) (omega (arith, at_key, had.last_keys))
          (IsAbsent-from_times place (reverse ms) back_absent) had.behind);
    }

-- read from the end, what was before a member is behind it
reverse_around : (before behind : List (ℕ × ℕ)) (m : ℕ × ℕ) → reverse (before ++ m ∷ behind) ≡ reverse behind ++ m ∷ reverse before
reverse_around before behind m =
    let back : reverse (m ∷ behind) ≡ reverse behind ++ m ∷ [] = reverse-append (m ∷ []) behind in
    reverse-append before (m ∷ behind) ∙ ap (λ ms. ms ++ reverse before) back ∙ append_assoc (reverse behind) (m ∷ []) (reverse before)

-- the place before a member
pub prev_is : (n k : ℕ) (c : Chains) (before behind : List (ℕ × ℕ)) (place key : ℕ) → HasMembers n k c (before ++ (place, key) ∷ behind)
    → place_at c.prevs.items place ≡ last_or nowhere key before
prev_is n k c before behind place key had =
    let P : List (ℕ × ℕ) → Type 0 = λ ms. HaveNexts nowhere c.prevs.items ms in
    next_at nowhere c.prevs.items (reverse behind) (reverse before) (place, key) (subst P (reverse_around before behind (place, key)) had.behind.go_on) ∙
    first_or-reverse nowhere key before

-- a member taken out
pub taken_out : (n k : ℕ) (old new : Chains) (before behind : List (ℕ × ℕ)) (place key prev next : ℕ) → HasMembers n k old (before ++ (place, key) ∷ behind)
    → prev ≡ place_at old.prevs.items place → next ≡ place_at old.nexts.items place
    → new.nexts.items ≡ set old.nexts.items prev next → new.prevs.items ≡ set old.prevs.items next prev
    → new.firsts.items ≡ with_end old.firsts.items prev key next → new.lasts.items ≡ with_end old.lasts.items next key prev
    → HasMembers n k new (before ++ behind)
taken_out n k old new before behind place key prev next had prev_at next_is nexts prevs firsts lasts =
    let m : ℕ × ℕ = (place, key) in
    let at : (place < n) × (key < k) = member_within n k before behind (place, key) had.within in
    let is_prev : last_or nowhere key before ≡ prev = sym (prev_at ∙ prev_is n k old before behind place key had) in
    let is_next : first_or nowhere key behind ≡ next = sym (next_is ∙ next_at nowhere old.nexts.items before behind (place, key) had.ahead.go_on) in
    let size_nexts : length new.nexts.items ≡ length old.nexts.items = ap length nexts ∙ length-set old.nexts.items prev next in
    let size_prevs : length new.prevs.items ≡ length old.prevs.items = ap length prevs ∙ length-set old.prevs.items next prev in
    let size_firsts : length new.firsts.items ≡ length old.firsts.items = ap length firsts ∙ length-with_end old.firsts.items prev key next in
    let size_lasts : length new.lasts.items ≡ length old.lasts.items = ap length lasts ∙ length-with_end old.lasts.items next key prev in
    let P : List (ℕ × ℕ) → Type 0 = AreWithin n k in
    let Q : List (ℕ × ℕ) → Type 0 = AreApart in
    let around : reverse (before ++ (place, key) ∷ behind) ≡ reverse behind ++ (place, key) ∷ reverse before = reverse_around before behind (place, key) in
    let turned : reverse (before ++ behind) ≡ reverse behind ++ reverse before = reverse-append before behind in
    let back_prev : first_or nowhere key (reverse before) ≡ prev = first_or-reverse nowhere key before ∙ is_prev in
    let back_next : last_or nowhere key (reverse behind) ≡ next = last_or-reverse nowhere key behind ∙ is_next in
    record {
      room = record { ahead = omega (arith, size_nexts, had.room.ahead); back = omega (arith, size_prevs, had.room.back) };
      ahead_ends = rw size_nexts had.ahead_ends;
      back_ends = rw size_prevs had.back_ends;
      first_keys = size_firsts ∙ had.first_keys;
      last_keys = size_lasts ∙ had.last_keys;
      within = AreWithin-without n k before behind (place, key) had.within;
      apart = AreApart-without before behind (place, key) had.apart;
      ahead =
          threaded_at nowhere _ new.firsts.items _ new.nexts.items _ _
          (ap (λ l. with_end old.firsts.items l key (first_or nowhere key behind)) is_prev ∙ ap (with_end old.firsts.items prev key) is_next ∙ sym firsts)
          (ap (λ l. set old.nexts.items l (first_or nowhere key behind)) is_prev ∙ ap (set old.nexts.items prev) is_next ∙ sym nexts) refl
          (threads_without nowhere old.firsts.items old.nexts.items before behind place key n k had.within had.room.ahead had.ahead_ends (omega (arith, at.1, had.first_keys)) had.apart
          had.ahead);
      behind =
          threaded_at nowhere _ new.lasts.items _ new.prevs.items _ _
          (ap (λ l. with_end old.lasts.items l key (first_or nowhere key (reverse before))) back_next ∙ ap (with_end old.lasts.items next key) back_prev ∙ sym lasts)
          (ap (λ l. set old.prevs.items l (first_or nowhere key (reverse before))) back_next ∙ ap (set old.prevs.items next) back_prev ∙ sym prevs) (sym turned)
          (threads_without nowhere old.lasts.items old.prevs.items (reverse behind) (reverse before) place key n k
          (subst P around (AreWithin-reverse n k (before ++ (place, key) ∷ behind) had.within)) had.room.back had.back_ends (omega (arith, at.1, had.last_keys))
          (subst Q around (AreApart-reverse (before ++ (place, key) ∷ behind) had.apart)) (threaded_at nowhere _ _ _ _ _ _ refl refl around had.behind));
    }

-- chains whose lists of places grew by values for none
pub widened : (n k : ℕ) (old new : Chains) (ms : List (ℕ × ℕ)) → new.firsts.items ≡ old.firsts.items → new.lasts.items ≡ old.lasts.items
    → IsWidened old.nexts.items new.nexts.items → IsWidened old.prevs.items new.prevs.items → length new.nexts.items ≤ nowhere → length new.prevs.items ≤ nowhere
    → HasMembers n k old ms → HasMembers n k new ms
widened n k old new ms firsts lasts nexts prevs ahead_ends back_ends had = record {
  room = record { ahead = omega (arith, had.room.ahead, nexts.longer); back = omega (arith, had.room.back, prevs.longer) };
  ahead_ends = ahead_ends;
  back_ends = back_ends;
  first_keys = ap length firsts ∙ had.first_keys;
  last_keys = ap length lasts ∙ had.last_keys;
  within = had.within;
  apart = had.apart;
  ahead = record {
    begin = λ key. ap (λ l. place_at l key) firsts ∙ had.ahead.begin key;
    go_on = HaveNexts-same nowhere old.nexts.items new.nexts.items ms nexts.kept had.ahead.go_on;
  };
  behind = record {
    begin = λ key. ap (λ l. place_at l key) lasts ∙ had.behind.begin key;
    go_on = HaveNexts-same nowhere old.prevs.items new.prevs.items (reverse ms) prevs.kept had.behind.go_on;
  };
}
