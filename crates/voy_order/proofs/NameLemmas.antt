-- Names of columns in their order: the least comes first, then those behind it.
use Rattle.std.specs.Prelude.{◌≡◌, ◌<◌, ℕ, suc, Bool, true, false, List, [], ◌∷◌, Option, Some, None, length, refl, if◌then◌else◌}
use Rattle.std.specs.Cmp.Lexicographic.{bytes_decides, nat_list_cmp_total, slice_cmp, texts_ties}
use Rattle.std.specs.Ordering.{is_eq, is_lt, nat_cmp, ordering_reverse}
use Rattle.std.specs.declared.cmp.Ordering.{Ordering}
use Rattle.std.specs.declared.cmp.Ordering.TheVariants.{Less, Equal, Greater}
use Rattle.std.proofs.Common.{ap, arith, drop, slice_index_or, subst, sym, ◌∙◌, ◌+◌}
use Rattle.std.proofs.Math.Seq.{drop-cons}
use Rattle.voy_schema.specs.declared.table.Column.{Column}
use Rattle.voy_event.specs.ByName.{name_at}
use Rattle.voy_order.specs.KeyOrder.{is_behind, least, left_behind, lesser}

abbrev pub is_below : List ℕ → List ℕ → Bool
is_below a b = is_lt (slice_cmp nat_cmp a b)

is_less : (o : Ordering) → is_lt o ≡ true → o ≡ Less
is_less Less h = refl
is_less Equal h = cc
is_less Greater h = cc

pub below-trans : (a b c : List ℕ) → is_below a b ≡ true → is_below b c ≡ true → is_below a c ≡ true
below-trans a b c first second = ap is_lt (nat_list_cmp_total.trans a b c (is_less _ first) (is_less _ second))

reversed : (o : Ordering) → o ≡ ordering_reverse o → is_lt o ≡ false
reversed Less h = cc
reversed Equal h = refl
reversed Greater h = refl

pub below-irrefl : (a : List ℕ) → is_below a a ≡ false
below-irrefl a = reversed (slice_cmp nat_cmp a a) (nat_list_cmp_total.antisymm a a)

equal_names : (a b : List ℕ) → slice_cmp nat_cmp a b ≡ Equal → a ≡ b
equal_names a b e = (bytes_decides a b).0 (texts_ties a b ∙ ap is_eq e)

reverse-less : (o : Ordering) → Less ≡ ordering_reverse o → o ≡ Greater
reverse-less Less h = cc
reverse-less Equal h = cc
reverse-less Greater h = refl

-- of two other names one is below the other
pub below-apart : (a b : List ℕ) → (a ≡ b → ⊥) → is_below b a ≡ false → is_below a b ≡ true
below-apart a b apart not_below = by (slice_cmp nat_cmp a b) refl
  where
    by : (o : Ordering) → slice_cmp nat_cmp a b ≡ o → is_below a b ≡ true
    by Less e = ap is_lt e
    by Equal e = absurd (apart (equal_names a b e))
    by Greater e =
        let turned : is_below b a ≡ true = ap is_lt (nat_list_cmp_total.antisymm b a ∙ ap ordering_reverse e)
        in absurd (cc (turned, not_below))

-- what is below neither stays so
pub below-cotrans : (a b c : List ℕ) → is_below b a ≡ false → is_below c b ≡ false → is_below c a ≡ false
below-cotrans a b c first second = by (is_below c a) refl
  where
    at : (o : Ordering) → slice_cmp nat_cmp b a ≡ o → is_below c a ≡ true → is_below c a ≡ false
    at Less e h = absurd (cc (first, ap is_lt e))
    at Equal e h =
        let same : b ≡ a = equal_names b a e
        in subst (λ x. is_below c x ≡ false) same second
    at Greater e h =
        let turned : is_below a b ≡ true = ap is_lt (nat_list_cmp_total.antisymm a b ∙ ap ordering_reverse e)
        in absurd (cc (second, below-trans c a b h turned))

    by : (b : Bool) → is_below c a ≡ b → is_below c a ≡ false
    by false e = e
    by true e = at (slice_cmp nat_cmp b a) refl e

first_of : (places : List ℕ) (at : ℕ) → at < length places → drop at places ≡ slice_index_or places at 0 ∷ drop (at + 1) places
first_of places at within =
    let more : suc at ≡ at + 1 = omega arith
    in drop-cons places at 0 within ∙ ap (λ n. slice_index_or places at 0 ∷ drop n places) more

module _ (columns : List Column) where
  abbrev pub behind : ℕ → ℕ → Bool
  behind last place = is_below (name_at columns last) (name_at columns place)

  lesser-assoc : (a b c : Option ℕ) → lesser columns (lesser columns a b) c ≡ lesser columns a (lesser columns b c)
  lesser-assoc None b c = refl
  lesser-assoc (Some n) None c = refl
  lesser-assoc (Some n) (Some p) None = by (behind p n)
    where
      by : (b : Bool) → lesser columns (if b then Some p else Some n) None ≡ (if b then Some p else Some n)
      by true = refl
      by false = refl
  lesser-assoc (Some n) (Some p) (Some l) = by (behind p n) (behind l p) refl refl
    where
      by : (pn lp : Bool) → behind p n ≡ pn → behind l p ≡ lp
          → lesser columns (if pn then Some p else Some n) (Some l) ≡ lesser columns (Some n) (if lp then Some l else Some p)
      by true true first second = rw (second, below-trans (name_at columns l) (name_at columns p) (name_at columns n) second first) refl
      by true false first second = rw (second, first) refl
      by false true first second = refl
      by false false first second = rw (first, below-cotrans (name_at columns n) (name_at columns p) (name_at columns l) first second) refl

  -- the least of a list, from its first place on
  least-cons : (last : Option ℕ) (p : ℕ) (ps : List ℕ)
      → least columns (left_behind columns last (p ∷ ps)) ≡ lesser columns (least columns (left_behind columns last (p ∷ []))) (least columns (left_behind columns last ps))
  least-cons last p ps = by (is_behind columns last p)
    where
      by : (b : Bool)
          → least columns (if b then p ∷ left_behind columns last ps else left_behind columns last ps)
          ≡ lesser columns (least columns (if b then p ∷ [] else [])) (least columns (left_behind columns last ps))
      by true = refl
      by false = refl

  -- one turn of the search for the least
  pub least-turn : (last next found : Option ℕ) (places : List ℕ) (at : ℕ) (whole : Option ℕ) → at < length places
      → whole ≡ lesser columns next (least columns (left_behind columns last (drop at places)))
      → found ≡ lesser columns next (least columns (left_behind columns last (slice_index_or places at 0 ∷ [])))
      → whole ≡ lesser columns found (least columns (left_behind columns last (drop (at + 1) places)))
  least-turn last next found places at whole within before is =
      before
      ∙ ap (λ left. lesser columns next (least columns (left_behind columns last left))) (first_of places at within)
      ∙ ap (lesser columns next) (least-cons last (slice_index_or places at 0) (drop (at + 1) places))
      ∙ sym (lesser-assoc next (least columns (left_behind columns last (slice_index_or places at 0 ∷ []))) (least columns (left_behind columns last (drop (at + 1) places))))
      ∙ ap (λ f. lesser columns f (least columns (left_behind columns last (drop (at + 1) places)))) (sym is)

  pub lesser-none : (next : Option ℕ) → lesser columns next None ≡ next
  lesser-none None = refl
  lesser-none (Some n) = refl
