-- What a loop over the parts of a payload keeps, and what it comes to.
use Rattle.std.proofs.Common.{◌≡◌, ℕ, suc, ◌+◌, ◌-◌, ◌≤◌, ◌<◌, List, [], ◌∷◌, ◌++◌, drop, get_or, length, Option, Some, None, refl, sym, ap, ◌∙◌, append_assoc, arith}
use Rattle.std.proofs.lemmas.List.{append-nil, at_drop_all, at_drop_more}
use Rattle.voy_schema.specs.declared.table.Table.{Table}
use Rattle.voy_schema.specs.declared.value.Value.{Value}
use Rattle.voy_event.specs.declared.event.Event.{Event}
use Rattle.voy_txn.specs.Reading.{◌>>=◌, Fails, item_of, items_of, lists_of, part_at, sized_at, sorted_rows}
use Rattle.voy_txn.specs.declared.unread.Unread.{Unread}
use Rattle.voy_txn.specs.declared.unread.Unread.TheVariants.{NoPayload, NoMemory}

-- what was read so far, and what is still read
abbrev pub with_front : {A : Type 0} → List A → Option (List A) → Option (List A)
with_front front reading = reading >>= λ more. Some (front ++ more)

regrouped : {A : Type 0} (front : List A) (x : A) (next : Option (List A))
    → with_front front (next >>= λ more. Some (x ∷ more)) ≡ with_front (front ++ x ∷ []) next
regrouped front x (Some more) = ap Some (sym (append_assoc front (x ∷ []) more))
regrouped front x None = refl

-- one more item was read
pub goes_on : {A : Type 0} (front : List A) (x : A) (reading next total : Option (List A)) → reading ≡ (next >>= λ more. Some (x ∷ more))
    → with_front front reading ≡ total → with_front (front ++ x ∷ []) next ≡ total
goes_on front x reading next total is so_far = sym (regrouped front x next) ∙ ap (with_front front) (sym is) ∙ so_far

-- nothing was read
pub comes_to_none : {A : Type 0} (front : List A) (reading total : Option (List A)) → reading ≡ None → with_front front reading ≡ total → total ≡ None
comes_to_none front reading total is so_far = sym so_far ∙ ap (with_front front) is

-- all was read
pub comes_to : {A : Type 0} (front : List A) (reading total : Option (List A)) → reading ≡ Some [] → with_front front reading ≡ total → total ≡ Some front
comes_to front reading total is so_far = sym so_far ∙ ap (with_front front) is ∙ ap Some (append-nil front)

-- a failed part fails the whole
pub fails_whole : {A B : Type 0} (e : Unread) (part : Option B) (front : List A) (reading total : Option (List A)) → Fails e part
    → (part ≡ None → reading ≡ None) → with_front front reading ≡ total → Fails e total
fails_whole NoPayload part front reading total failed leads so_far = comes_to_none front reading total (leads failed) so_far
fails_whole NoMemory part front reading total failed leads so_far = tt

-- ---- the rows of each table

at_table : (tables : List Table) (i : ℕ) (t : Table) (bytes : List ℕ) → i < length tables → t ≡ get_or tables i t
    → lists_of (drop i tables) bytes ≡ lists_of (t ∷ drop (i + 1) tables) bytes
at_table tables i t bytes within is =
    at_drop_more (λ (ts : List Table). lists_of ts bytes) tables i t within ∙ ap (λ (u : Table). lists_of (u ∷ drop (i + 1) tables) bytes) (sym is)

pub lists_step : (tables : List Table) (i : ℕ) (t : Table) (bytes : List ℕ) (part : ℕ × List ℕ × List ℕ) (rows : List (List Value)) → i < length tables → t ≡ get_or tables i t
    → part_at bytes ≡ Some part → sorted_rows t part.0 part.1 ≡ Some rows
    → lists_of (drop i tables) bytes ≡ (lists_of (drop (i + 1) tables) part.2 >>= λ more. Some (rows ∷ more))
unfolding lists_of
lists_step tables i t bytes part rows within is read sorted = at_table tables i t bytes within is ∙ rw (read, sorted) refl

pub lists_without_part : (tables : List Table) (i : ℕ) (t : Table) (bytes : List ℕ) → i < length tables → t ≡ get_or tables i t
    → part_at bytes ≡ None → lists_of (drop i tables) bytes ≡ None
unfolding lists_of
lists_without_part tables i t bytes within is read = at_table tables i t bytes within is ∙ rw read refl

pub lists_without_rows : (tables : List Table) (i : ℕ) (t : Table) (bytes : List ℕ) (part : ℕ × List ℕ × List ℕ) → i < length tables → t ≡ get_or tables i t
    → part_at bytes ≡ Some part → sorted_rows t part.0 part.1 ≡ None → lists_of (drop i tables) bytes ≡ None
unfolding lists_of
lists_without_rows tables i t bytes part within is read sorted = at_table tables i t bytes within is ∙ rw (read, sorted) refl

pub lists_end : (tables : List Table) (i : ℕ) (bytes : List ℕ) → length tables ≤ i → length bytes ≡ 0 → lists_of (drop i tables) bytes ≡ Some []
unfolding lists_of
lists_end tables i [] past none = at_drop_all (λ (ts : List Table). lists_of ts []) tables i past
lists_end tables i (b ∷ bytes) past none = absurd (omega arith)

pub lists_too_long : (tables : List Table) (i : ℕ) (bytes : List ℕ) → length tables ≤ i → 0 < length bytes → lists_of (drop i tables) bytes ≡ None
unfolding lists_of
lists_too_long tables i [] past more = absurd (omega arith)
lists_too_long tables i (b ∷ bytes) past more = at_drop_all (λ (ts : List Table). lists_of ts (b ∷ bytes)) tables i past

-- ---- the changes

pub items_step : (schema : List Table) (count i : ℕ) (bytes : List ℕ) (line : List ℕ × List ℕ) (item : Event) → i < count
    → sized_at bytes ≡ Some line → item_of schema line.0 ≡ Some item
    → items_of schema (count - i) bytes ≡ (items_of schema (count - (i + 1)) line.1 >>= λ more. Some (item ∷ more))
unfolding items_of
items_step schema count i bytes line item within read stated =
    let one_less : count - i ≡ suc (count - (i + 1)) = omega arith in
    rw (one_less, read, stated) refl

pub items_without_line : (schema : List Table) (count i : ℕ) (bytes : List ℕ) → i < count → sized_at bytes ≡ None → items_of schema (count - i) bytes ≡ None
unfolding items_of
items_without_line schema count i bytes within read =
    let one_less : count - i ≡ suc (count - (i + 1)) = omega arith in
    rw (one_less, read) refl

pub items_without_item : (schema : List Table) (count i : ℕ) (bytes : List ℕ) (line : List ℕ × List ℕ) → i < count
    → sized_at bytes ≡ Some line → item_of schema line.0 ≡ None → items_of schema (count - i) bytes ≡ None
unfolding items_of
items_without_item schema count i bytes line within read stated =
    let one_less : count - i ≡ suc (count - (i + 1)) = omega arith in
    rw (one_less, read, stated) refl

pub items_end : (schema : List Table) (count i : ℕ) (bytes : List ℕ) → count ≤ i → length bytes ≡ 0 → items_of schema (count - i) bytes ≡ Some []
unfolding items_of
items_end schema count i [] past none = let all : count - i ≡ 0 = omega arith in rw all refl
items_end schema count i (b ∷ bytes) past none = absurd (omega arith)

pub items_too_long : (schema : List Table) (count i : ℕ) (bytes : List ℕ) → count ≤ i → 0 < length bytes → items_of schema (count - i) bytes ≡ None
unfolding items_of
items_too_long schema count i [] past more = absurd (omega arith)
items_too_long schema count i (b ∷ bytes) past more = let all : count - i ≡ 0 = omega arith in rw all refl
