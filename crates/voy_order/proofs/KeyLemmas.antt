-- The texts of a key by ascending name of their columns: the least name first, then those behind it.
use Rattle.std.specs.Prelude.{◌≡◌, ◌<◌, ◌≤◌, ◌+◌, ◌&&◌, ℕ, zero, suc, Bool, true, false, List, [], ◌∷◌, ◌++◌, Option, Some, None, length, map, nat_eq, nat_lt, not, refl, if◌then◌else◌}
use Rattle.std.specs.List.{concat, filter, list_all, list_any, zip}
use Rattle.std.specs.Str.{bytes_eq}
use Rattle.std.proofs.Common.{ap, arith, subst, sym, ◌∙◌}
use Rattle.std.proofs.lemmas.Bool.{and_from, and_parts, eqb-false, ltb-true, or_parts}
use Rattle.std.proofs.lemmas.Option.{none-some, same_Some}
use Rattle.std.proofs.lemmas.Slice.Eq.{bytes_eq-Decides}
use Rattle.voy_schema.specs.Lawful.{is_distinct, is_lawful_table}
use Rattle.voy_schema.specs.LawfulLaws.{table_parts}
use Rattle.voy_schema.specs.Rows.{key_of, text_of, value_at}
use Rattle.voy_schema.specs.declared.table.Column.{Column}
use Rattle.voy_schema.specs.declared.table.Table.{Table}
use Rattle.voy_schema.specs.declared.value.Value.{Value}
use Rattle.voy_event.specs.ByName.{name_at}
use Rattle.voy_order.specs.Channels.{NamedText, behind_zero, by_name, fnv1a, hashed_key, with_text}
use Rattle.voy_order.specs.KeyOrder.{is_behind, least, left_behind, lesser, next_of}
use Rattle.voy_order.proofs.HashLemmas.{fnv1a-append}
use Rattle.voy_order.proofs.NameLemmas.{behind, below-apart, below-cotrans, below-irrefl, below-trans, is_below}

false_true : (b : Bool) → b ≡ false → b ≡ true → ⊥
false_true b no_more is = cc (no_more, is)

not_false : (b : Bool) → b ≡ false → not b ≡ true
not_false false h = refl
not_false true h = cc

is_false : (b : Bool) → not b ≡ true → b ≡ false
is_false false h = refl
is_false true h = cc

-- the columns of these places have different names
abbrev is_apart : List Column → List ℕ → Bool
is_apart columns [] = true
is_apart columns (p ∷ ps) = list_all (λ q. not (bytes_eq (name_at columns p) (name_at columns q))) ps && is_apart columns ps

none_named : (name : List ℕ) (cs : List Column) (q : ℕ) → list_any (bytes_eq name) (map (λ (c : Column). c.name) cs) ≡ false → q < length cs → name ≡ name_at cs q → ⊥
none_named name [] q none within same = absurd (omega arith)
none_named name (c ∷ cs) zero none within same =
    false_true _ (or_parts (bytes_eq name c.name) (list_any (bytes_eq name) (map (λ (c : Column). c.name) cs)) none).0 ((bytes_eq-Decides name c.name).1 same)
none_named name (c ∷ cs) (suc q) none within same =
    none_named name cs q (or_parts (bytes_eq name c.name) (list_any (bytes_eq name) (map (λ (c : Column). c.name) cs)) none).1 (omega arith) same

one_place : (cs : List Column) (p q : ℕ) → is_distinct bytes_eq (map (λ (c : Column). c.name) cs) ≡ true → p < length cs → q < length cs
    → name_at cs p ≡ name_at cs q → p ≡ q
one_place [] p q distinct first second same = absurd (omega arith)
one_place (c ∷ cs) zero zero distinct first second same = refl
one_place (c ∷ cs) zero (suc q) distinct first second same =
    absurd (none_named c.name cs q (is_false _ (and_parts _ _ distinct).0) (omega arith) same)
one_place (c ∷ cs) (suc p) zero distinct first second same =
    absurd (none_named c.name cs p (is_false _ (and_parts _ _ distinct).0) (omega arith) (sym same))
one_place (c ∷ cs) (suc p) (suc q) distinct first second same =
    ap suc (one_place cs p q (and_parts _ _ distinct).1 (omega arith) (omega arith) same)

others_differ : (cs : List Column) (p : ℕ) (ps : List ℕ) → is_distinct bytes_eq (map (λ (c : Column). c.name) cs) ≡ true → p < length cs
    → list_all (λ place. nat_lt place (length cs)) ps ≡ true → list_any (nat_eq p) ps ≡ false
    → list_all (λ q. not (bytes_eq (name_at cs p) (name_at cs q))) ps ≡ true
others_differ cs p [] distinct within all other = refl
others_differ cs p (q ∷ ps) distinct within all other =
    let parts = or_parts (nat_eq p q) (list_any (nat_eq p) ps) other in
    let insides = and_parts (nat_lt q (length cs)) (list_all (λ place. nat_lt place (length cs)) ps) all in
    and_from _ _ (here parts.0 (ltb-true _ _ insides.0)) (others_differ cs p ps distinct within insides.1 parts.1)
  where
    here : nat_eq p q ≡ false → q < length cs → not (bytes_eq (name_at cs p) (name_at cs q)) ≡ true
    here apart inside = by (bytes_eq (name_at cs p) (name_at cs q)) refl
      where
        by : (b : Bool) → bytes_eq (name_at cs p) (name_at cs q) ≡ b → not b ≡ true
        by false e = refl
        by true e = absurd (eqb-false p q apart (one_place cs p q distinct within inside ((bytes_eq-Decides (name_at cs p) (name_at cs q)).0 e)))

places_apart : (cs : List Column) (ps : List ℕ) → is_distinct bytes_eq (map (λ (c : Column). c.name) cs) ≡ true
    → list_all (λ place. nat_lt place (length cs)) ps ≡ true → is_distinct nat_eq ps ≡ true → is_apart cs ps ≡ true
places_apart cs [] distinct within once = refl
places_apart cs (p ∷ ps) distinct within once =
    let insides = and_parts (nat_lt p (length cs)) (list_all (λ place. nat_lt place (length cs)) ps) within in
    let apart = and_parts (not (list_any (nat_eq p) ps)) (is_distinct nat_eq ps) once in
    and_from _ _ (others_differ cs p ps distinct (ltb-true _ _ insides.0) insides.1 (is_false _ apart.0)) (places_apart cs ps distinct insides.1 apart.1)

-- the key columns of a lawful table have different names
pub key_apart : (t : Table) → is_lawful_table t ≡ true → is_apart t.columns t.primary_key ≡ true
key_apart t lawful =
    let key = and_parts _ _ (table_parts t lawful).primary_key in
    places_apart t.columns t.primary_key (table_parts t lawful).distinct_names (and_parts _ _ key.0).1 key.1

-- ---- the least name comes first

abbrev pub named : List Column → List Value → ℕ → NamedText
named columns row place = (name_at columns place, text_of (value_at row place))

all_weaker : (f g : ℕ → Bool) → ((q : ℕ) → f q ≡ true → g q ≡ true) → (ps : List ℕ) → list_all f ps ≡ true → list_all g ps ≡ true
all_weaker f g weaker [] all = refl
all_weaker f g weaker (p ∷ ps) all = and_from _ _ (weaker p (and_parts _ _ all).0) (all_weaker f g weaker ps (and_parts _ _ all).1)

filter_of_all : (f : ℕ → Bool) (ps : List ℕ) → list_all f ps ≡ true → filter f ps ≡ ps
filter_of_all f [] all = refl
filter_of_all f (p ∷ ps) all = by (f p) refl (filter_of_all f ps (and_parts _ _ all).1)
  where
    by : (b : Bool) → f p ≡ b → filter f ps ≡ ps → (if b then p ∷ filter f ps else filter f ps) ≡ p ∷ ps
    by true e rest = ap (λ xs. p ∷ xs) rest
    by false e rest = absurd (false_true (f p) e (and_parts _ _ all).0)

module _ (columns : List Column) where
  name : ℕ → List ℕ
  name place = name_at columns place

  some_least : (p : ℕ) (ps : List ℕ) → least columns (p ∷ ps) ≡ None → ⊥
  some_least p ps e = by (least columns ps) e
    where
      at : (b : Bool) (other : ℕ) → (if b then Some other else Some p) ≡ None → ⊥
      at true other h = none-some other (sym h)
      at false other h = none-some p (sym h)

      by : (rest : Option ℕ) → lesser columns (Some p) rest ≡ None → ⊥
      by None h = none-some p (sym h)
      by (Some other) h = at (behind columns other p) other h

  none_left : (ps : List ℕ) → least columns ps ≡ None → ps ≡ []
  none_left [] e = refl
  none_left (p ∷ ps) e = absurd (some_least p ps e)

  below_back : (a b : ℕ) → behind columns a b ≡ true → behind columns b a ≡ false
  below_back a b h = by (behind columns b a) refl
    where
      by : (t : Bool) → behind columns b a ≡ t → behind columns b a ≡ false
      by false e = e
      by true e = absurd (false_true _ (below-irrefl (name_at columns a)) (below-trans (name_at columns a) (name_at columns b) (name_at columns a) h e))

  -- no name is below the least
  none_below : (ps : List ℕ) (m : ℕ) → least columns ps ≡ Some m → list_all (λ q. not (behind columns q m)) ps ≡ true
  none_below [] m e = refl
  none_below (p ∷ ps) m e = by (least columns ps) refl (none_below ps)
    where
      is_least : ℕ → Type 0
      is_least x = list_all (λ q. not (behind columns q x)) (p ∷ ps) ≡ true

      at : (other : ℕ) → least columns ps ≡ Some other → list_all (λ q. not (behind columns q other)) ps ≡ true → (b : Bool) → behind columns other p ≡ b → is_least m
      at other there all true below =
          let same : other ≡ m = same_Some other m (sym (ap (lesser columns (Some p)) there ∙ ap (λ b. if b then Some other else Some p) below) ∙ e) in
          subst is_least same (and_from _ _ (not_false _ (below_back other p below)) all)
      at other there all false below =
          let same : p ≡ m = same_Some p m (sym (ap (lesser columns (Some p)) there ∙ ap (λ b. if b then Some other else Some p) below) ∙ e) in
          subst is_least same (and_from _ _ (not_false _ (below-irrefl (name_at columns p)))
          (all_weaker (λ q. not (behind columns q other)) (λ q. not (behind columns q p))
          (λ q h. not_false _ (below-cotrans (name_at columns p) (name_at columns other) (name_at columns q) below (is_false _ h))) ps all))

      by : (rest : Option ℕ) → least columns ps ≡ rest → ((x : ℕ) → least columns ps ≡ Some x → list_all (λ q. not (behind columns q x)) ps ≡ true) → is_least m
      by None there all =
          let same : p ≡ m = same_Some p m (sym (ap (lesser columns (Some p)) there) ∙ e) in
          subst is_least same (and_from _ _ (not_false _ (below-irrefl (name_at columns p))) (ap (list_all (λ q. not (behind columns q p))) (none_left ps there)))
      by (Some other) there all = at other there (all other there) (behind columns other p) refl

  -- behind a name that is below the least of others stand all of them
  all_behind : (p : ℕ) (ps : List ℕ) → list_all (λ q. not (bytes_eq (name_at columns p) (name_at columns q))) ps ≡ true
      → (m : ℕ) → behind columns m p ≡ false → list_all (λ q. not (behind columns q m)) ps ≡ true
      → list_all (behind columns p) ps ≡ true
  all_behind p [] apart m not_below all = refl
  all_behind p (q ∷ ps) apart m not_below all =
      let differ = and_parts (not (bytes_eq (name_at columns p) (name_at columns q))) (list_all (λ r. not (bytes_eq (name_at columns p) (name_at columns r))) ps) apart in
      let above = and_parts (not (behind columns q m)) (list_all (λ r. not (behind columns r m)) ps) all in
      and_from _ _
      (below-apart (name_at columns p) (name_at columns q)
      (λ same. false_true _ (is_false _ differ.0) ((bytes_eq-Decides (name_at columns p) (name_at columns q)).1 same))
      (below-cotrans (name_at columns p) (name_at columns m) (name_at columns q) not_below (is_false _ above.0)))
      (all_behind p ps differ.1 m not_below above.1)

  module _ (row : List Value) where
    abbrev texts : List ℕ → List NamedText
    texts ps = by_name (map (named columns row) ps)

    -- texts by name are that of the least name, and then those behind it
    pub first_is : (ps : List ℕ) (m : ℕ) → is_apart columns ps ≡ true → least columns ps ≡ Some m
        → texts ps ≡ named columns row m ∷ texts (left_behind columns (Some m) ps)
    first_is [] m apart e = absurd (none-some m e)
    first_is (p ∷ ps) m apart e = by (least columns ps) refl (first_is ps)
      where
        parts : (list_all (λ q. not (bytes_eq (name_at columns p) (name_at columns q))) ps ≡ true) × (is_apart columns ps ≡ true)
        parts = and_parts _ _ apart

        IsFirst : ℕ → Type 0
        IsFirst x = texts (p ∷ ps) ≡ named columns row x ∷ texts (left_behind columns (Some x) (p ∷ ps))

        itself : left_behind columns (Some p) (p ∷ ps) ≡ left_behind columns (Some p) ps
        itself = ap (λ b. if b then p ∷ left_behind columns (Some p) ps else left_behind columns (Some p) ps) (below-irrefl (name_at columns p))

        at : (other : ℕ) → least columns ps ≡ Some other → texts ps ≡ named columns row other ∷ texts (left_behind columns (Some other) ps)
            → (b : Bool) → behind columns other p ≡ b → IsFirst m
        at other there rest true below =
            let same : other ≡ m = same_Some other m (sym (ap (lesser columns (Some p)) there ∙ ap (λ b. if b then Some other else Some p) below) ∙ e) in
            subst IsFirst same
            (ap (with_text (named columns row p)) rest
            ∙ ap (λ b. if b then named columns row other ∷ with_text (named columns row p) (texts (left_behind columns (Some other) ps)) else named columns row p ∷ named columns row other ∷ texts (left_behind columns (Some other) ps)) below
            ∙ sym (ap (λ b. named columns row other ∷ texts (if b then p ∷ left_behind columns (Some other) ps else left_behind columns (Some other) ps)) below))
        at other there rest false below =
            let same : p ≡ m = same_Some p m (sym (ap (lesser columns (Some p)) there ∙ ap (λ b. if b then Some other else Some p) below) ∙ e) in
            subst IsFirst same
            (ap (with_text (named columns row p)) rest
            ∙ ap (λ b. if b then named columns row other ∷ with_text (named columns row p) (texts (left_behind columns (Some other) ps)) else named columns row p ∷ named columns row other ∷ texts (left_behind columns (Some other) ps)) below
            ∙ ap (λ ts. named columns row p ∷ ts) (sym rest)
            ∙ ap (λ qs. named columns row p ∷ texts qs) (sym (itself ∙ filter_of_all (behind columns p) ps (all_behind p ps parts.0 other below (none_below ps other there)))))

        by : (rest : Option ℕ) → least columns ps ≡ rest
            → ((x : ℕ) → is_apart columns ps ≡ true → least columns ps ≡ Some x → texts ps ≡ named columns row x ∷ texts (left_behind columns (Some x) ps))
            → IsFirst m
        by None there firsts =
            let same : p ≡ m = same_Some p m (sym (ap (lesser columns (Some p)) there) ∙ e) in
            subst IsFirst same
            (ap (λ qs. texts (p ∷ qs)) (none_left ps there) ∙ ap (λ qs. named columns row p ∷ texts qs) (sym (itself ∙ ap (left_behind columns (Some p)) (none_left ps there))))
        by (Some other) there firsts = at other there (firsts other parts.1 there) (behind columns other p) refl

    length-with_text : (t : NamedText) (ts : List NamedText) → length (with_text t ts) ≡ suc (length ts)
    length-with_text t [] = refl
    length-with_text t (u ∷ ts) = by (is_below u.0 t.0) (length-with_text t ts)
      where
        by : (b : Bool) → length (with_text t ts) ≡ suc (length ts) → length (if b then u ∷ with_text t ts else t ∷ u ∷ ts) ≡ suc (suc (length ts))
        by true h = ap suc h
        by false h = refl

    length-texts : (ps : List ℕ) → length (texts ps) ≡ length ps
    length-texts [] = refl
    length-texts (p ∷ ps) = length-with_text (named columns row p) (texts ps) ∙ ap suc (length-texts ps)

    -- one place fewer is left behind the next one
    pub fewer_left : (ps : List ℕ) (m : ℕ) → is_apart columns ps ≡ true → least columns ps ≡ Some m → length ps ≡ suc (length (left_behind columns (Some m) ps))
    fewer_left ps m apart e = sym (length-texts ps) ∙ ap length (first_is ps m apart e) ∙ ap suc (length-texts (left_behind columns (Some m) ps))

all_of_filter : (f g : ℕ → Bool) (ps : List ℕ) → list_all f ps ≡ true → list_all f (filter g ps) ≡ true
all_of_filter f g [] all = refl
all_of_filter f g (p ∷ ps) all = by (g p) (and_parts _ _ all).0 (all_of_filter f g ps (and_parts _ _ all).1)
  where
    by : (b : Bool) → f p ≡ true → list_all f (filter g ps) ≡ true → list_all f (if b then p ∷ filter g ps else filter g ps) ≡ true
    by true here rest = and_from _ _ here rest
    by false here rest = rest

apart_of_filter : (columns : List Column) (g : ℕ → Bool) (ps : List ℕ) → is_apart columns ps ≡ true → is_apart columns (filter g ps) ≡ true
apart_of_filter columns g [] apart = refl
apart_of_filter columns g (p ∷ ps) apart = by (g p) (and_parts _ _ apart).0 (apart_of_filter columns g ps (and_parts _ _ apart).1)
  where
    by : (b : Bool) → list_all (λ q. not (bytes_eq (name_at columns p) (name_at columns q))) ps ≡ true → is_apart columns (filter g ps) ≡ true
        → is_apart columns (if b then p ∷ filter g ps else filter g ps) ≡ true
    by true here rest = and_from _ _ (all_of_filter (λ q. not (bytes_eq (name_at columns p) (name_at columns q))) g ps here) rest
    by false here rest = rest

passed : (f : ℕ → Bool) (ps : List ℕ) → list_all f (filter f ps) ≡ true
passed f [] = refl
passed f (p ∷ ps) = by (f p) refl (passed f ps)
  where
    by : (b : Bool) → f p ≡ b → list_all f (filter f ps) ≡ true → list_all f (if b then p ∷ filter f ps else filter f ps) ≡ true
    by true e rest = and_from _ _ e rest
    by false e rest = rest

filter_within : (f g : ℕ → Bool) → ((q : ℕ) → f q ≡ true → g q ≡ true) → (ps : List ℕ) → filter f (filter g ps) ≡ filter f ps
filter_within f g within [] = refl
filter_within f g within (p ∷ ps) = by (f p) (g p) refl refl (filter_within f g within ps)
  where
    by : (b c : Bool) → f p ≡ b → g p ≡ c → filter f (filter g ps) ≡ filter f ps
        → filter f (if c then p ∷ filter g ps else filter g ps) ≡ (if b then p ∷ filter f ps else filter f ps)
    by true true e h rest = ap (λ x. if x then p ∷ filter f (filter g ps) else filter f (filter g ps)) e ∙ ap (λ xs. p ∷ xs) rest
    by false true e h rest = ap (λ x. if x then p ∷ filter f (filter g ps) else filter f (filter g ps)) e ∙ rest
    by true false e h rest = absurd (false_true (g p) h (within p e))
    by false false e h rest = rest

-- what all places have the least has
least_has : (columns : List Column) (f : ℕ → Bool) (ps : List ℕ) (m : ℕ) → list_all f ps ≡ true → least columns ps ≡ Some m → f m ≡ true
least_has columns f [] m all e = absurd (none-some m e)
least_has columns f (p ∷ ps) m all e = by (least columns ps) refl (λ x there. least_has columns f ps x (and_parts _ _ all).1 there)
  where
    at : (b : Bool) (other : ℕ) → f other ≡ true → (if b then Some other else Some p) ≡ Some m → f m ≡ true
    at true other has h = subst (λ x. f x ≡ true) (same_Some other m h) has
    at false other has h = subst (λ x. f x ≡ true) (same_Some p m h) (and_parts _ _ all).0

    by : (rest : Option ℕ) → least columns ps ≡ rest → ((x : ℕ) → least columns ps ≡ Some x → f x ≡ true) → f m ≡ true
    by None there has = subst (λ x. f x ≡ true) (same_Some p m (sym (ap (lesser columns (Some p)) there) ∙ e)) (and_parts _ _ all).0
    by (Some other) there has = at (behind columns other p) other (has other there) (sym (ap (lesser columns (Some p)) there) ∙ e)

behind_more : (columns : List Column) (last : Option ℕ) (p q : ℕ) → is_behind columns last p ≡ true → behind columns p q ≡ true → is_behind columns last q ≡ true
behind_more columns None p q first second = refl
behind_more columns (Some last) p q first second = below-trans (name_at columns last) (name_at columns p) (name_at columns q) first second

-- ---- the hash of a key, name by name

abbrev left_bytes : Table → List Value → Option ℕ → List ℕ
left_bytes t row last = concat (map behind_zero (texts t.columns row (left_behind t.columns last t.primary_key)))

-- the hash so far, with what is left, is that of the whole key
pub record Hashes (t : Table) (row : List Value) (start : ℕ) (last : Option ℕ) (hash counter : ℕ) : Type 0 where
  pub whole : fnv1a hash (left_bytes t row last) ≡ fnv1a start (hashed_key t (key_of t row))
  pub few : length (left_behind t.columns last t.primary_key) + counter ≤ length t.primary_key

zipped : (columns : List Column) (row : List Value) (ps : List ℕ)
    → zip (map (name_at columns) ps) (map text_of (map (value_at row) ps)) ≡ map (named columns row) ps
zipped columns row [] = refl
zipped columns row (p ∷ ps) = ap (λ ts. named columns row p ∷ ts) (zipped columns row ps)

all_true : (ps : List ℕ) → filter (λ q. true) ps ≡ ps
all_true [] = refl
all_true (p ∷ ps) = ap (λ qs. p ∷ qs) (all_true ps)

pub hash_begins : (t : Table) (row : List Value) (start : ℕ) → Hashes t row start None start 0
hash_begins t row start = record {
  whole = ap (λ ps. fnv1a start (concat (map behind_zero (texts t.columns row ps)))) (all_true t.primary_key)
      ∙ ap (λ ts. fnv1a start (concat (map behind_zero (by_name ts)))) (sym (zipped t.columns row t.primary_key));
  few = by (length (left_behind t.columns None t.primary_key)) (ap length (all_true t.primary_key));
}
  where
    by : (n : ℕ) → n ≡ length t.primary_key → n + 0 ≤ length t.primary_key
    by n e = omega arith

pub hash_goes_on : (t : Table) (row : List Value) (start : ℕ) (last : Option ℕ) (hash counter place next : ℕ) → is_lawful_table t ≡ true
    → Hashes t row start last hash counter → next_of t.columns last t.primary_key ≡ Some place
    → next ≡ fnv1a hash (0 ∷ text_of (value_at row place))
    → Hashes t row start (Some place) next (counter + 1)
hash_goes_on t row start last hash counter place next lawful so_far found is = record {
  whole = ap (λ h. fnv1a h (left_bytes t row (Some place))) is
      ∙ sym (fnv1a-append hash (0 ∷ text_of (value_at row place)) (left_bytes t row (Some place)))
      ∙ ap (fnv1a hash) (sym bytes)
      ∙ so_far.whole;
  few = by (length (left_behind t.columns (Some place) t.primary_key)) (length (left_behind t.columns last t.primary_key))
      (fewer_left t.columns row left place apart found ∙ ap (λ ps. suc (length ps)) stays) so_far.few;
}
  where
    left : List ℕ
    left = left_behind t.columns last t.primary_key

    apart : is_apart t.columns left ≡ true
    apart = apart_of_filter t.columns (is_behind t.columns last) t.primary_key (key_apart t lawful)

    comes_behind : is_behind t.columns last place ≡ true
    comes_behind = least_has t.columns (is_behind t.columns last) left place (passed (is_behind t.columns last) t.primary_key) found

    stays : left_behind t.columns (Some place) left ≡ left_behind t.columns (Some place) t.primary_key
    stays = filter_within (is_behind t.columns (Some place)) (is_behind t.columns last) (λ q h. behind_more t.columns last place q comes_behind h) t.primary_key

    bytes : left_bytes t row last ≡ (0 ∷ text_of (value_at row place)) ++ left_bytes t row (Some place)
    bytes = ap (λ ts. concat (map behind_zero ts)) (first_is t.columns row left place apart found ∙ ap (λ ps. named t.columns row place ∷ texts t.columns row ps) stays)

    by : (fewer before : ℕ) → before ≡ suc fewer → before + counter ≤ length t.primary_key → fewer + (counter + 1) ≤ length t.primary_key
    by fewer before e h = omega arith

nothing_left : (t : Table) (row : List Value) (start : ℕ) (last : Option ℕ) (hash counter : ℕ) → Hashes t row start last hash counter
    → left_behind t.columns last t.primary_key ≡ [] → hash ≡ fnv1a start (hashed_key t (key_of t row))
unfolding fnv1a
nothing_left t row start last hash counter so_far none = sym (ap (λ ps. fnv1a hash (concat (map behind_zero (texts t.columns row ps)))) none) ∙ so_far.whole

pub hash_ends : (t : Table) (row : List Value) (start : ℕ) (last : Option ℕ) (hash counter : ℕ) → Hashes t row start last hash counter
    → next_of t.columns last t.primary_key ≡ None → hash ≡ fnv1a start (hashed_key t (key_of t row))
hash_ends t row start last hash counter so_far none =
    nothing_left t row start last hash counter so_far (none_left t.columns (left_behind t.columns last t.primary_key) none)

is_empty : (ps : List ℕ) (counter whole : ℕ) → length ps + counter ≤ whole → whole ≤ counter → ps ≡ []
is_empty [] counter whole few all = refl
is_empty (p ∷ ps) counter whole few all = absurd (omega arith)

pub hash_is_whole : (t : Table) (row : List Value) (start : ℕ) (last : Option ℕ) (hash counter : ℕ) → Hashes t row start last hash counter
    → length t.primary_key ≤ counter → hash ≡ fnv1a start (hashed_key t (key_of t row))
hash_is_whole t row start last hash counter so_far all =
    nothing_left t row start last hash counter so_far (is_empty (left_behind t.columns last t.primary_key) counter (length t.primary_key) so_far.few all)
