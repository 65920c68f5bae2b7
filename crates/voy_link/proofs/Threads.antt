-- Lists by key that are threaded through places: a member put in front, one put at the end, and one taken out.
use Rattle.std.proofs.Common.{◌≡◌, ◌≢◌, ℕ, ◌<◌, ◌≤◌, Bool, true, false, cond, eqb, List, [], ◌∷◌, ◌++◌, length, get_or, set, reverse, refl, sym, ap, ◌∙◌, subst, inl, inr, ⊎_elim, arith, get_or-set_other, get_or-set_same}
use Rattle.std.specs.Prelude.{◌⊎◌}
use Rattle.std.proofs.lemmas.List.{length-set, set_past, reverse-append, reverse-reverse}
use Rattle.std.proofs.lemmas.Bool.{cases_eq, eq-eqb, ne_eqb, cond-true, cond-false}
use Rattle.voy_link.specs.Links.{first_or, last_or, times, AreApart, AreWithin, HaveNexts, AreThreaded}

-- behind a list, the first of what follows
pub first_or-append : (z key : ℕ) (xs ys : List (ℕ × ℕ)) → first_or z key (xs ++ ys) ≡ first_or (first_or z key ys) key xs
first_or-append z key [] ys = refl
first_or-append z key (x ∷ xs) ys = ap (λ n. cond (eqb x.1 key) x.0 n) (first_or-append z key xs ys)

pub last_or-append : (z key : ℕ) (xs ys : List (ℕ × ℕ)) → last_or z key (xs ++ ys) ≡ last_or (last_or z key xs) key ys
last_or-append z key [] ys = refl
last_or-append z key (x ∷ xs) ys = last_or-append (cond (eqb x.1 key) x.0 z) key xs ys

-- read from the end, the first is the last
pub first_or-reverse : (z key : ℕ) (xs : List (ℕ × ℕ)) → first_or z key (reverse xs) ≡ last_or z key xs
first_or-reverse z key [] = refl
first_or-reverse z key (x ∷ xs) =
    let turned : reverse (x ∷ xs) ≡ reverse xs ++ x ∷ [] = reverse-append (x ∷ []) xs in
    ap (first_or z key) turned ∙ first_or-append z key (reverse xs) (x ∷ []) ∙ first_or-reverse (cond (eqb x.1 key) x.0 z) key xs

pub last_or-reverse : (z key : ℕ) (xs : List (ℕ × ℕ)) → last_or z key (reverse xs) ≡ first_or z key xs
last_or-reverse z key xs = sym (first_or-reverse z key (reverse xs)) ∙ ap (first_or z key) (reverse-reverse xs)

-- no member has this key
abbrev pub Lacks : ℕ → List (ℕ × ℕ) → Type 0
Lacks key [] = Unit {0}
Lacks key (m ∷ ms) = (m.1 ≢ key) × Lacks key ms

pub first_or-lacks : (z key : ℕ) (ms : List (ℕ × ℕ)) → Lacks key ms → first_or z key ms ≡ z
first_or-lacks z key [] none = refl
first_or-lacks z key (m ∷ ms) none = cond-false (eqb m.1 key) _ _ (ne_eqb m.1 key none.0) ∙ first_or-lacks z key ms none.1

pub last_or-lacks : (z key : ℕ) (ms : List (ℕ × ℕ)) → Lacks key ms → last_or z key ms ≡ z
last_or-lacks z key [] none = refl
last_or-lacks z key (m ∷ ms) none =
    ap (λ n. last_or n key ms) (cond-false (eqb m.1 key) m.0 z (ne_eqb m.1 key none.0)) ∙ last_or-lacks z key ms none.1

-- no member stands at this place
abbrev pub IsAbsent : ℕ → List (ℕ × ℕ) → Type 0
IsAbsent place [] = Unit {0}
IsAbsent place (m ∷ ms) = (m.0 ≢ place) × IsAbsent place ms

pub IsAbsent-from_times : (place : ℕ) (ms : List (ℕ × ℕ)) → times place ms ≡ 0 → IsAbsent place ms
IsAbsent-from_times place [] none = tt
IsAbsent-from_times place (m ∷ ms) none = (
  λ here. let is : eqb m.0 place ≡ true = eq-eqb m.0 place here in
      let one : ◌≡◌ {A = ℕ} (cond (eqb m.0 place) 1 0) 1 = cond-true (eqb m.0 place) 1 0 is in omega (arith, one, none),
  IsAbsent-from_times place ms (omega (arith, none)),
)

-- the head stands at a place of its own
pub head_is_absent : (m : ℕ × ℕ) (ms : List (ℕ × ℕ)) → AreApart (m ∷ ms) → IsAbsent m.0 ms
head_is_absent m ms apart =
    let one : ◌≡◌ {A = ℕ} (cond (eqb m.0 m.0) 1 0) 1 = cond-true (eqb m.0 m.0) 1 0 (eq-eqb m.0 m.0 refl) in
    IsAbsent-from_times m.0 ms (omega (arith, one, apart m.0))

pub tail_is_apart : (m : ℕ × ℕ) (ms : List (ℕ × ℕ)) → AreApart (m ∷ ms) → AreApart ms
tail_is_apart m ms apart place = omega (arith, apart place)

-- some member has this key: the value for none makes no difference
pub record Has (key : ℕ) (ms : List (ℕ × ℕ)) : Type 0 where
  pub first : (y z : ℕ) → first_or y key ms ≡ first_or z key ms
  pub last : (y z : ℕ) → last_or y key ms ≡ last_or z key ms
  pub elsewhere : (z place : ℕ) → IsAbsent place ms → last_or z key ms ≢ place
  pub first_below : (z places keys : ℕ) → AreWithin places keys ms → first_or z key ms < places
  pub last_below : (z places keys : ℕ) → AreWithin places keys ms → last_or z key ms < places

-- the head has it, and no other member
has_alone : (key : ℕ) (m : ℕ × ℕ) (ms : List (ℕ × ℕ)) → eqb m.1 key ≡ true → Lacks key ms → Has key (m ∷ ms)
has_alone key m ms is none =
    let first : (z : ℕ) → first_or z key (m ∷ ms) ≡ m.0 = λ z. cond-true (eqb m.1 key) _ _ is in
    let last : (z : ℕ) → last_or z key (m ∷ ms) ≡ m.0 =
    λ z. ap (λ n. last_or n key ms) (cond-true (eqb m.1 key) m.0 z is) ∙ last_or-lacks m.0 key ms none in
    record {
      first = λ y z. first y ∙ sym (first z);
      last = λ y z. last y ∙ sym (last z);
      elsewhere = λ z place absent same. absent.0 (sym (last z) ∙ same);
      first_below = λ z places keys within. rw (first z) within.0;
      last_below = λ z places keys within. rw (last z) within.0;
    }

-- a member behind the head has it
has_behind : (key : ℕ) (m : ℕ × ℕ) (ms : List (ℕ × ℕ)) → Has key ms → Has key (m ∷ ms)
has_behind key m ms some =
    record {
      first = λ y z. ap (λ n. cond (eqb m.1 key) m.0 n) (some.first y z);
      last = λ y z. some.last (cond (eqb m.1 key) m.0 y) (cond (eqb m.1 key) m.0 z);
      elsewhere = λ z place absent. some.elsewhere (cond (eqb m.1 key) m.0 z) place absent.1;
      first_below = λ z places keys within. either (eqb m.1 key) m.0 (first_or z key ms) places within.0 (some.first_below z places keys within.2);
      last_below = λ z places keys within. some.last_below (cond (eqb m.1 key) m.0 z) places keys within.2;
    } where
      either : (b : Bool) (x y n : ℕ) → x < n → y < n → cond b x y < n
      either true x y n p q = p
      either false x y n p q = q

pub has_or_lacks : (key : ℕ) (ms : List (ℕ × ℕ)) → Has key ms ⊎ Lacks key ms
has_or_lacks key [] = inr tt
has_or_lacks key (m ∷ ms) =
    ⊎_elim (λ (some : Has key ms). inl (has_behind key m ms some))
    (λ (none : Lacks key ms).
    ⊎_elim (λ (here : m.1 ≡ key). inl (has_alone key m ms (eq-eqb m.1 key here) none)) (λ (other : m.1 ≡ key → ⊥). inr (other, none)) (cases_eq m.1 key))
    (has_or_lacks key ms)

-- a write at a place where no member stands changes nothing that members read
pub HaveNexts-set : (z : ℕ) (nexts : List ℕ) (place value : ℕ) (ms : List (ℕ × ℕ)) → IsAbsent place ms → HaveNexts z nexts ms → HaveNexts z (set nexts place value) ms
HaveNexts-set z nexts place value [] absent have = tt
HaveNexts-set z nexts place value (m ∷ ms) absent have =
    (get_or-set_other nexts place m.0 value z absent.0 ∙ have.0, HaveNexts-set z nexts place value ms absent.1 have.1)

-- a list of places that reads the same
pub HaveNexts-same : (z : ℕ) (old new : List ℕ) (ms : List (ℕ × ℕ)) → ((at : ℕ) → get_or new at z ≡ get_or old at z) → HaveNexts z old ms → HaveNexts z new ms
HaveNexts-same z old new [] same have = tt
HaveNexts-same z old new (m ∷ ms) same have = (same m.0 ∙ have.0, HaveNexts-same z old new ms same have.1)

-- what stands at a member's place
pub next_at : (z : ℕ) (nexts : List ℕ) (before behind : List (ℕ × ℕ)) (m : ℕ × ℕ) → HaveNexts z nexts (before ++ m ∷ behind) → get_or nexts m.0 z ≡ first_or z m.1 behind
next_at z nexts [] behind m have = have.0
next_at z nexts (x ∷ before) behind m have = next_at z nexts before behind m have.1

-- the first of a key after a write at a key
begin_set : (firsts : List ℕ) (z at place key : ℕ) → at < length firsts → get_or (set firsts at place) key z ≡ cond (eqb at key) place (get_or firsts key z)
begin_set firsts z at place key within =
    ⊎_elim
    (λ (here : at ≡ key).
    let read : get_or (set firsts at place) at z ≡ place = get_or-set_same firsts at place z within in
    rw (← here) (read ∙ sym (cond-true (eqb at at) place _ (eq-eqb at at refl))))
    (λ (other : at ≡ key → ⊥). get_or-set_other firsts at key place z (λ same. other (sym same)) ∙ sym (cond-false (eqb at key) place _ (ne_eqb at key other)))
    (cases_eq at key)

-- a member put in front of all others
pub threads_in_front : (z : ℕ) (firsts nexts : List ℕ) (ms : List (ℕ × ℕ)) (place key : ℕ) → place < length nexts → key < length firsts → IsAbsent place ms
    → AreThreaded z firsts nexts ms → AreThreaded z (set firsts key place) (set nexts place (get_or firsts key z)) ((place, key) ∷ ms)
threads_in_front z firsts nexts ms place key at_place at_key absent threaded = record {
  begin = λ k. begin_set firsts z key place k at_key ∙ ap (λ n. cond (eqb key k) place n) (threaded.begin k);
  go_on = (
    get_or-set_same nexts place (get_or firsts key z) z at_place ∙ threaded.begin key,
    HaveNexts-set z nexts place (get_or firsts key z) ms absent threaded.go_on,
  );
}

IsAbsent-push : (place other key : ℕ) (ms : List (ℕ × ℕ)) → IsAbsent place ms → (other ≡ place → ⊥) → IsAbsent place (ms ++ (other, key) ∷ [])
IsAbsent-push place other key [] absent apart = (apart, tt)
IsAbsent-push place other key (m ∷ ms) absent apart = (absent.0, IsAbsent-push place other key ms absent.1 apart)

-- one member more at the end, seen from a member before it
first_before-push : (z k key place : ℕ) (ms : List (ℕ × ℕ)) → first_or z k (ms ++ (place, key) ∷ []) ≡ first_or (cond (eqb key k) place z) k ms
first_before-push z k key place ms = first_or-append z k ms ((place, key) ∷ [])

-- of the members with this key, what stands behind the last may change
pub HaveNexts-push : (z : ℕ) (nexts : List ℕ) (ms : List (ℕ × ℕ)) (place key places keys : ℕ) → AreWithin places keys ms → places ≤ length nexts → length nexts ≤ z
    → place < length nexts → IsAbsent place ms → AreApart ms → HaveNexts z nexts ms
    → HaveNexts z (set (set nexts place z) (last_or z key ms) place) (ms ++ (place, key) ∷ [])
HaveNexts-push z nexts [] place key places keys within room ends at absent apart have =
    let alone : length (set nexts place z) ≤ z = omega (arith, length-set nexts place z, ends) in
    (ap (λ ns. get_or ns place z) (set_past (set nexts place z) z place alone) ∙ get_or-set_same nexts place z z at, tt)
HaveNexts-push z nexts (m ∷ ms) place key places keys within room ends at absent apart have =
    let rest : HaveNexts z (set (set nexts place z) (last_or z key ms) place) (ms ++ (place, key) ∷ []) =
    HaveNexts-push z nexts ms place key places keys within.2 room ends at absent.1 (tail_is_apart m ms apart) have.1 in
    let own : get_or (set nexts place z) m.0 z ≡ first_or z m.1 ms = get_or-set_other nexts place m.0 z z absent.0 ∙ have.0 in
    let alone : length (set nexts place z) ≤ z = omega (arith, length-set nexts place z, ends) in
    ⊎_elim
    (λ (some : Has key ms).
    let same : last_or z key (m ∷ ms) ≡ last_or z key ms = some.last (cond (eqb m.1 key) m.0 z) z in
    let else_where : last_or z key ms ≢ m.0 = some.elsewhere z m.0 (head_is_absent m ms apart) in
    let head : get_or (set (set nexts place z) (last_or z key ms) place) m.0 z ≡ first_or z m.1 (ms ++ (place, key) ∷ []) =
    get_or-set_other (set nexts place z) (last_or z key ms) m.0 place z (λ e. else_where (sym e)) ∙ own ∙
    ⊎_elim
    (λ (here : key ≡ m.1).
    let moves : first_or z key ms ≡ first_or (cond (eqb key key) place z) key ms = some.first z (cond (eqb key key) place z) in
    let moved : first_or z m.1 ms ≡ first_or (cond (eqb key m.1) place z) m.1 ms = rw (← here) moves in
    moved ∙ sym (first_before-push z m.1 key place ms))
    (λ (other : key ≡ m.1 → ⊥).
    ap (λ n. first_or n m.1 ms) (sym (cond-false (eqb key m.1) place z (ne_eqb key m.1 other))) ∙ sym (first_before-push z m.1 key place ms))
    (cases_eq key m.1) in
    let P : ℕ → Type 0 = λ at. HaveNexts z (set (set nexts place z) at place) (m ∷ (ms ++ (place, key) ∷ [])) in
    subst P (sym same) (head, rest))
    (λ (none : Lacks key ms).
    let quiet : last_or z key ms ≡ z = last_or-lacks z key ms none in
    let still : HaveNexts z (set nexts place z) (ms ++ (place, key) ∷ []) =
    let Q : List ℕ → Type 0 = λ ns. HaveNexts z ns (ms ++ (place, key) ∷ []) in
    subst Q (ap (λ n. set (set nexts place z) n place) quiet ∙ set_past (set nexts place z) z place alone) rest in
    ⊎_elim
    (λ (here : m.1 ≡ key).
    let is : eqb m.1 key ≡ true = eq-eqb m.1 key here in
    let last : last_or z key (m ∷ ms) ≡ m.0 = ap (λ n. last_or n key ms) (cond-true (eqb m.1 key) m.0 z is) ∙ last_or-lacks m.0 key ms none in
    let there : m.0 < length (set nexts place z) = omega (arith, length-set nexts place z, within.0, room) in
    let behind : first_or z m.1 (ms ++ (place, key) ∷ []) ≡ place =
    rw here (first_before-push z key key place ms ∙ first_or-lacks (cond (eqb key key) place z) key ms none ∙ cond-true (eqb key key) place z (eq-eqb key key refl)) in
    let head : get_or (set (set nexts place z) m.0 place) m.0 z ≡ first_or z m.1 (ms ++ (place, key) ∷ []) =
    get_or-set_same (set nexts place z) m.0 place z there ∙ sym behind in
    let off : IsAbsent m.0 (ms ++ (place, key) ∷ []) = IsAbsent-push m.0 place key ms (head_is_absent m ms apart) (λ e. absent.0 (sym e)) in
    let P : ℕ → Type 0 = λ at. HaveNexts z (set (set nexts place z) at place) (m ∷ (ms ++ (place, key) ∷ [])) in
    subst P (sym last) (head, HaveNexts-set z (set nexts place z) m.0 place (ms ++ (place, key) ∷ []) off still))
    (λ (other : m.1 ≡ key → ⊥).
    let last : last_or z key (m ∷ ms) ≡ z = ap (λ n. last_or n key ms) (cond-false (eqb m.1 key) m.0 z (ne_eqb m.1 key other)) ∙ quiet in
    let away : key ≡ m.1 → ⊥ = λ e. other (sym e) in
    let head : get_or (set nexts place z) m.0 z ≡ first_or z m.1 (ms ++ (place, key) ∷ []) =
    own ∙ ap (λ n. first_or n m.1 ms) (sym (cond-false (eqb key m.1) place z (ne_eqb key m.1 away))) ∙ sym (first_before-push z m.1 key place ms) in
    let Q : List ℕ → Type 0 = λ ns. HaveNexts z ns (m ∷ (ms ++ (place, key) ∷ [])) in
    subst Q (sym (set_past (set nexts place z) z place alone) ∙ ap (λ n. set (set nexts place z) n place) (sym last)) (head, still))
    (cases_eq m.1 key))
    (has_or_lacks key ms)

-- what a member with this key, or another key, leaves as it was
first_or-push_some : (z k key place : ℕ) (ms : List (ℕ × ℕ)) → Has key ms → first_or z k ms ≡ first_or z k (ms ++ (place, key) ∷ [])
first_or-push_some z k key place ms some =
    ⊎_elim
    (λ (here : key ≡ k).
    let P : ℕ → Type 0 = λ k. first_or z k ms ≡ first_or z k (ms ++ (place, key) ∷ []) in
    subst P here (some.first z (cond (eqb key key) place z) ∙ sym (first_before-push z key key place ms)))
    (λ (other : key ≡ k → ⊥).
    ap (λ n. first_or n k ms) (sym (cond-false (eqb key k) place z (ne_eqb key k other))) ∙ sym (first_before-push z k key place ms))
    (cases_eq key k)

first_or-push_other : (z k key place : ℕ) (ms : List (ℕ × ℕ)) → (key ≡ k → ⊥) → first_or z k ms ≡ first_or z k (ms ++ (place, key) ∷ [])
first_or-push_other z k key place ms other =
    ap (λ n. first_or n k ms) (sym (cond-false (eqb key k) place z (ne_eqb key k other))) ∙ sym (first_before-push z k key place ms)

first_or-without_some : (z key place : ℕ) (before behind : List (ℕ × ℕ)) → Has key before → first_or z key (before ++ (place, key) ∷ behind) ≡ first_or z key (before ++ behind)
first_or-without_some z key place before behind some =
    first_or-append z key before ((place, key) ∷ behind) ∙ some.first (first_or z key ((place, key) ∷ behind)) (first_or z key behind) ∙ sym (first_or-append z key before behind)

first_or-without_other : (z k key place : ℕ) (before behind : List (ℕ × ℕ)) → (key ≡ k → ⊥) → first_or z k (before ++ (place, key) ∷ behind) ≡ first_or z k (before ++ behind)
first_or-without_other z k key place before behind other =
    first_or-append z k before ((place, key) ∷ behind) ∙ ap (λ n. first_or n k before) (cond-false (eqb key k) place (first_or z k behind) (ne_eqb key k other)) ∙ sym (first_or-append z k before behind)

first_or-without : (z k key place : ℕ) (before behind : List (ℕ × ℕ)) → Has key before → first_or z k (before ++ (place, key) ∷ behind) ≡ first_or z k (before ++ behind)
first_or-without z k key place before behind some =
    ⊎_elim
    (λ (here : key ≡ k).
    let P : ℕ → Type 0 = λ k. first_or z k (before ++ (place, key) ∷ behind) ≡ first_or z k (before ++ behind) in
    subst P here (first_or-without_some z key place before behind some))
    (λ (other : key ≡ k → ⊥). first_or-without_other z k key place before behind other)
    (cases_eq key k)

IsAbsent-front : (place : ℕ) (xs ys : List (ℕ × ℕ)) → IsAbsent place (xs ++ ys) → IsAbsent place xs
IsAbsent-front place [] ys absent = tt
IsAbsent-front place (x ∷ xs) ys absent = (absent.0, IsAbsent-front place xs ys absent.1)

IsAbsent-without : (place : ℕ) (before behind : List (ℕ × ℕ)) (m : ℕ × ℕ) → IsAbsent place (before ++ m ∷ behind) → IsAbsent place (before ++ behind)
IsAbsent-without place [] behind m absent = absent.1
IsAbsent-without place (x ∷ before) behind m absent = (absent.0, IsAbsent-without place before behind m absent.1)

-- of the members that stay, what stands behind the one before may change
pub HaveNexts-without : (z : ℕ) (nexts : List ℕ) (before behind : List (ℕ × ℕ)) (place key places keys : ℕ) → AreWithin places keys (before ++ (place, key) ∷ behind)
    → places ≤ length nexts → length nexts ≤ z → AreApart (before ++ (place, key) ∷ behind) → HaveNexts z nexts (before ++ (place, key) ∷ behind)
    → HaveNexts z (set nexts (last_or z key before) (first_or z key behind)) (before ++ behind)
HaveNexts-without z nexts [] behind place key places keys within room ends apart have =
    let Q : List ℕ → Type 0 = λ ns. HaveNexts z ns behind in
    subst Q (sym (set_past nexts z (first_or z key behind) ends)) have.1
HaveNexts-without z nexts (m ∷ before) behind place key places keys within room ends apart have =
    let value : ℕ = first_or z key behind in
    let rest : HaveNexts z (set nexts (last_or z key before) value) (before ++ behind) =
    HaveNexts-without z nexts before behind place key places keys within.2 room ends (tail_is_apart m (before ++ (place, key) ∷ behind) apart) have.1 in
    let absent : IsAbsent m.0 (before ++ (place, key) ∷ behind) = head_is_absent m (before ++ (place, key) ∷ behind) apart in
    ⊎_elim
    (λ (some : Has key before).
    let same : last_or z key (m ∷ before) ≡ last_or z key before = some.last (cond (eqb m.1 key) m.0 z) z in
    let else_where : last_or z key before ≢ m.0 = some.elsewhere z m.0 (IsAbsent-front m.0 before ((place, key) ∷ behind) absent) in
    let head : get_or (set nexts (last_or z key before) value) m.0 z ≡ first_or z m.1 (before ++ behind) =
    get_or-set_other nexts (last_or z key before) m.0 value z (λ e. else_where (sym e)) ∙ have.0 ∙ first_or-without z m.1 key place before behind some in
    let P : ℕ → Type 0 = λ at. HaveNexts z (set nexts at value) (m ∷ (before ++ behind)) in
    subst P (sym same) (head, rest))
    (λ (none : Lacks key before).
    let quiet : last_or z key before ≡ z = last_or-lacks z key before none in
    let still : HaveNexts z nexts (before ++ behind) =
    let Q : List ℕ → Type 0 = λ ns. HaveNexts z ns (before ++ behind) in
    subst Q (ap (λ n. set nexts n value) quiet ∙ set_past nexts z value ends) rest in
    ⊎_elim
    (λ (here : m.1 ≡ key).
    let last : last_or z key (m ∷ before) ≡ m.0 =
    ap (λ n. last_or n key before) (cond-true (eqb m.1 key) m.0 z (eq-eqb m.1 key here)) ∙ last_or-lacks m.0 key before none in
    let there : m.0 < length nexts = omega (arith, within.0, room) in
    let next : first_or z m.1 (before ++ behind) ≡ value = rw here (first_or-append z key before behind ∙ first_or-lacks value key before none) in
    let head : get_or (set nexts m.0 value) m.0 z ≡ first_or z m.1 (before ++ behind) = get_or-set_same nexts m.0 value z there ∙ sym next in
    let P : ℕ → Type 0 = λ at. HaveNexts z (set nexts at value) (m ∷ (before ++ behind)) in
    subst P (sym last) (head, HaveNexts-set z nexts m.0 value (before ++ behind) (IsAbsent-without m.0 before behind (place, key) absent) still))
    (λ (other : m.1 ≡ key → ⊥).
    let last : last_or z key (m ∷ before) ≡ z = ap (λ n. last_or n key before) (cond-false (eqb m.1 key) m.0 z (ne_eqb m.1 key other)) ∙ quiet in
    let head : get_or nexts m.0 z ≡ first_or z m.1 (before ++ behind) = have.0 ∙ first_or-without_other z m.1 key place before behind (λ e. other (sym e)) in
    let Q : List ℕ → Type 0 = λ ns. HaveNexts z ns (m ∷ (before ++ behind)) in
    subst Q (sym (set_past nexts z value ends) ∙ ap (λ n. set nexts n value) (sym last)) (head, still))
    (cases_eq m.1 key))
    (has_or_lacks key before)

-- a member put behind all others
pub threads_behind : (z : ℕ) (firsts nexts : List ℕ) (ms : List (ℕ × ℕ)) (place key places keys : ℕ) → AreWithin places keys ms → places ≤ length nexts → length nexts ≤ z
    → place < length nexts → key < length firsts → IsAbsent place ms → AreApart ms → AreThreaded z firsts nexts ms
    → AreThreaded z (cond (eqb (last_or z key ms) z) (set firsts key place) firsts) (set (set nexts place z) (last_or z key ms) place) (ms ++ (place, key) ∷ [])
threads_behind z firsts nexts ms place key places keys within room ends at_place at_key absent apart threaded = record {
  begin = λ k.
      ⊎_elim
      (λ (some : Has key ms).
      let far : last_or z key ms ≡ z → ⊥ = λ e. omega (arith, e, some.last_below z places keys within, room, ends) in
      ap (λ fs. get_or fs k z) (cond-false (eqb (last_or z key ms) z) (set firsts key place) firsts (ne_eqb (last_or z key ms) z far)) ∙ threaded.begin k ∙ first_or-push_some z k key place ms some)
      (λ (none : Lacks key ms).
      let near : eqb (last_or z key ms) z ≡ true = eq-eqb (last_or z key ms) z (last_or-lacks z key ms none) in
      ap (λ fs. get_or fs k z) (cond-true (eqb (last_or z key ms) z) (set firsts key place) firsts near) ∙ begin_set firsts z key place k at_key ∙
      ⊎_elim
      (λ (here : key ≡ k).
      let P : ℕ → Type 0 = λ k. cond (eqb key k) place (get_or firsts k z) ≡ first_or z k (ms ++ (place, key) ∷ []) in
      let is : eqb key key ≡ true = eq-eqb key key refl in
      subst P here (cond-true (eqb key key) place (get_or firsts key z) is ∙
      sym (first_before-push z key key place ms ∙ first_or-lacks (cond (eqb key key) place z) key ms none ∙ cond-true (eqb key key) place z is)))
      (λ (other : key ≡ k → ⊥).
      cond-false (eqb key k) place (get_or firsts k z) (ne_eqb key k other) ∙ threaded.begin k ∙ first_or-push_other z k key place ms other)
      (cases_eq key k))
      (has_or_lacks key ms);
  go_on = HaveNexts-push z nexts ms place key places keys within room ends at_place absent apart threaded.go_on;
}

pub AreWithin-front : (places keys : ℕ) (xs ys : List (ℕ × ℕ)) → AreWithin places keys (xs ++ ys) → AreWithin places keys xs
AreWithin-front places keys [] ys within = tt
AreWithin-front places keys (x ∷ xs) ys within = (within.0, within.1, AreWithin-front places keys xs ys within.2)

-- a member taken out
pub threads_without : (z : ℕ) (firsts nexts : List ℕ) (before behind : List (ℕ × ℕ)) (place key places keys : ℕ) → AreWithin places keys (before ++ (place, key) ∷ behind)
    → places ≤ length nexts → length nexts ≤ z → key < length firsts → AreApart (before ++ (place, key) ∷ behind) → AreThreaded z firsts nexts (before ++ (place, key) ∷ behind)
    → AreThreaded z (cond (eqb (last_or z key before) z) (set firsts key (first_or z key behind)) firsts) (set nexts (last_or z key before) (first_or z key behind)) (before ++ behind)
threads_without z firsts nexts before behind place key places keys within room ends at_key apart threaded =
    let value : ℕ = first_or z key behind in
    record {
      begin = λ k.
          ⊎_elim
          (λ (some : Has key before).
          let far : last_or z key before ≡ z → ⊥ =
          λ e. omega (arith, e, some.last_below z places keys (AreWithin-front places keys before ((place, key) ∷ behind) within), room, ends) in
          ap (λ fs. get_or fs k z) (cond-false (eqb (last_or z key before) z) (set firsts key value) firsts (ne_eqb (last_or z key before) z far)) ∙ threaded.begin k ∙
          first_or-without z k key place before behind some)
          (λ (none : Lacks key before).
          let near : eqb (last_or z key before) z ≡ true = eq-eqb (last_or z key before) z (last_or-lacks z key before none) in
          ap (λ fs. get_or fs k z) (cond-true (eqb (last_or z key before) z) (set firsts key value) firsts near) ∙ begin_set firsts z key value k at_key ∙
          ⊎_elim
          (λ (here : key ≡ k).
          let P : ℕ → Type 0 = λ k. cond (eqb key k) value (get_or firsts k z) ≡ first_or z k (before ++ behind) in
          let is : eqb key key ≡ true = eq-eqb key key refl in
          subst P here (cond-true (eqb key key) value (get_or firsts key z) is ∙ sym (first_or-append z key before behind ∙ first_or-lacks value key before none)))
          (λ (other : key ≡ k → ⊥).
          cond-false (eqb key k) value (get_or firsts k z) (ne_eqb key k other) ∙ threaded.begin k ∙ first_or-without_other z k key place before behind other)
          (cases_eq key k))
          (has_or_lacks key before);
      go_on = HaveNexts-without z nexts before behind place key places keys within room ends apart threaded.go_on;
    }
