-- The changes of a payload: what is read of them is what was written of them.
use Rattle.std.proofs.Common.{◌≡◌, ℕ, zero, suc, ◌≤◌, ◌<◌, ◌^◌, Bool, true, false, cond, ◌&&◌, List, [], ◌∷◌, ◌++◌, length, Option, Some, None, Result, Ok, option_and_then, refl, sym, ap, subst, ◌∙◌, arith}
use Rattle.std.specs.List.{AllByRecursion, flat_map}
use Rattle.std.specs.Result.{result_ok}
use Rattle.std.specs.Str.{bytes_eq}
use Rattle.std.proofs.lemmas.Bool.{and_from, and_parts}
use Rattle.std.proofs.lemmas.Slice.Eq.{bytes_eq-Decides}
use Rattle.voy_schema.specs.Lawful.{is_lawful}
use Rattle.voy_schema.specs.declared.table.Table.{Table}
use Rattle.voy_event.specs.Laws.{EventsReadBack}
use Rattle.voy_event.specs.CanonicalLine.{canonical_reading, if_canonical}
use Rattle.voy_event.specs.EventLaws.{event_is_lawful, line_is_short}
use Rattle.voy_event.specs.EventLine.{line_reading, max_event_line_bytes}
use Rattle.voy_event.specs.LineText.{line_text}
use Rattle.voy_event.specs.declared.event.Event.{Event}
use Rattle.voy_event.specs.declared.line_error.LineWhy.{LineWhy}
use Rattle.voy_txn.specs.LawfulTxn.{IsLawfulItem, ascend_above}
use Rattle.voy_event.specs.Events.{is_change}
use Rattle.voy_txn.specs.Payload.{item_part, sized}
use Rattle.voy_txn.specs.Reading.{◌>>=◌, ascending_items, item_of, items_of, sized_at}
use Rattle.voy_txn.proofs.FieldLemmas.{AreBytes, bind_some, passed, sized_again, sized_takes}
use Rattle.voy_txn.proofs.RowLemmas.{ok_from_some}

pub item_takes : (schema : List Table) (line : List ℕ) (item : Event) → item_of schema line ≡ Some item
    → IsLawfulItem schema item × (line_text schema item ≡ line)
unfolding item_of
item_takes schema line item read =
    let step = bind_some (result_ok (line_reading schema line)) (λ (e : Event). cond (is_change e.what && bytes_eq (line_text schema e) line) (Some e) None) item read in
    let test = passed (is_change step.0.what && bytes_eq (line_text schema step.0) line) step.0 item step.2 in
    let parts = and_parts (is_change step.0.what) (bytes_eq (line_text schema step.0) line) test.0 in
    let stated : line_reading schema line ≡ Ok step.0 = ok_from_some _ _ step.1 in
    let canonical : line_text schema step.0 ≡ line = (bytes_eq-Decides (line_text schema step.0) line).0 parts.1 in
    let made : IsLawfulItem schema step.0 = record {
      event = event_is_lawful schema line step.0 stated;
      change = parts.0;
      short = subst (λ (x : List ℕ). length x ≤ max_event_line_bytes) (sym canonical) (line_is_short schema line step.0 stated);
    } in
    subst (λ (x : Event). IsLawfulItem schema x × (line_text schema x ≡ line)) test.1 (made, canonical)

pub item_again : EventsReadBack → (schema : List Table) (item : Event) → is_lawful schema ≡ true → IsLawfulItem schema item
    → item_of schema (line_text schema item) ≡ Some item
unfolding item_of
item_again by_lines schema item lawful has =
    let text = line_text schema item in
    let read : line_reading schema text ≡ Ok item = by_lines schema item lawful has.event has.short in
    let canonical : bytes_eq text text ≡ true = (bytes_eq-Decides text text).1 refl in
    let both : (is_change item.what && bytes_eq text text) ≡ true = and_from _ _ has.change canonical in
    ap (λ (r : Result Event LineWhy). result_ok r >>= λ (e : Event). cond (is_change e.what && bytes_eq (line_text schema e) text) (Some e) None) read
    ∙ ap (λ (b : Bool). cond b (Some item) None) both

-- the change of a line, by the event whose canonical line it is
item_by : (schema : List Table) (line : List ℕ) → item_of schema line ≡ (canonical_reading schema line >>= λ (e : Event). cond (is_change e.what) (Some e) None)
unfolding item_of canonical_reading
item_by schema line = by_event (result_ok (line_reading schema line)) where
  with_true : (e : Event) (c : Bool) → cond (c && true) (Some e) None ≡ cond c (Some e) None
  with_true e true = refl
  with_true e false = refl

  with_false : (e : Event) (c : Bool) → cond (c && false) (Some e) None ≡ None
  with_false e true = refl
  with_false e false = refl

  by_line : (e : Event) (b : Bool) → cond (is_change e.what && b) (Some e) None ≡ (cond b (Some e) None >>= λ (x : Event). cond (is_change x.what) (Some x) None)
  by_line e true = with_true e (is_change e.what)
  by_line e false = with_false e (is_change e.what)

  by_event : (o : Option Event) → (o >>= λ (e : Event). cond (is_change e.what && bytes_eq (line_text schema e) line) (Some e) None)
      ≡ (option_and_then (if_canonical schema line) o >>= λ (e : Event). cond (is_change e.what) (Some e) None)
  by_event None = refl
  by_event (Some e) = by_line e (bytes_eq (line_text schema e) line)

pub item_is : (schema : List Table) (line : List ℕ) (item : Event) (b : Bool) → Some item ≡ canonical_reading schema line → is_change item.what ≡ b
    → item_of schema line ≡ cond b (Some item) None
item_is schema line item b canonical is =
    item_by schema line ∙ ap (λ (o : Option Event). o >>= λ (e : Event). cond (is_change e.what) (Some e) None) (sym canonical)
    ∙ ap (λ (x : Bool). cond x (Some item) None) is

pub item_is_none : (schema : List Table) (line : List ℕ) → None ≡ canonical_reading schema line → item_of schema line ≡ None
item_is_none schema line other = item_by schema line ∙ ap (λ (o : Option Event). o >>= λ (e : Event). cond (is_change e.what) (Some e) None) (sym other)

pub items_take : (schema : List Table) (count : ℕ) (bytes : List ℕ) (items : List Event) → AreBytes bytes → items_of schema count bytes ≡ Some items
    → AllByRecursion (IsLawfulItem schema) items × (length items ≡ count) × (bytes ≡ flat_map (item_part schema) items)
unfolding items_of
items_take schema zero [] items fit read =
    let same : ◌≡◌ {A = List Event} [] items = cc in
    subst (λ (x : List Event). AllByRecursion (IsLawfulItem schema) x × (length x ≡ 0) × ([] ≡ flat_map (item_part schema) x)) same (tt, refl, refl)
items_take schema zero (b ∷ bytes) items fit read = absurd cc
items_take schema (suc count) bytes items fit read =
    let line = bind_some (sized_at bytes) (λ line. item_of schema line.0 >>= λ item. items_of schema count line.1 >>= λ more. Some (item ∷ more)) items read in
    let item = bind_some (item_of schema line.0.0) (λ item. items_of schema count line.0.1 >>= λ more. Some (item ∷ more)) items line.2 in
    let more = bind_some (items_of schema count line.0.1) (λ more. Some (item.0 ∷ more)) items item.2 in
    let front = sized_takes bytes line.0 fit line.1 in
    let first = item_takes schema line.0.0 item.0 item.1 in
    let rest = items_take schema count line.0.1 more.0 front.0.fit more.1 in
    let text : bytes ≡ item_part schema item.0 ++ flat_map (item_part schema) more.0 =
    front.0.parts ∙ ap (λ (x : List ℕ). sized x ++ line.0.1) (sym first.1) ∙ ap (λ (x : List ℕ). item_part schema item.0 ++ x) rest.2 in
    let same : item.0 ∷ more.0 ≡ items = cc in
    subst (λ (x : List Event). AllByRecursion (IsLawfulItem schema) x × (length x ≡ suc count) × (bytes ≡ flat_map (item_part schema) x)) same
    ((first.0, rest.0), ap suc rest.1, text)

pub items_again : EventsReadBack → (schema : List Table) (items : List Event) → is_lawful schema ≡ true → AllByRecursion (IsLawfulItem schema) items
    → items_of schema (length items) (flat_map (item_part schema) items) ≡ Some items
unfolding items_of
items_again by_lines schema [] lawful each = refl
items_again by_lines schema (item ∷ items) lawful each =
    let short : length (line_text schema item) < 2 ^ 32 = omega (arith, each.0.short) in
    rw (sized_again (line_text schema item) (flat_map (item_part schema) items) short, item_again by_lines schema item lawful each.0, items_again by_lines schema items lawful each.1) refl

-- ---- by ascending vsn

pub ascending_take : (schema : List Table) (count : ℕ) (bytes : List ℕ) (items : List Event)
    → ascending_items schema count bytes ≡ Some items → (items_of schema count bytes ≡ Some items) × (ascend_above 0 items ≡ true)
unfolding ascending_items
ascending_take schema count bytes items read =
    let step = bind_some (items_of schema count bytes) (λ (items : List Event). cond (ascend_above 0 items) (Some items) None) items read in
    let test = passed (ascend_above 0 step.0) step.0 items step.2 in
    (subst (λ (x : List Event). items_of schema count bytes ≡ Some x) test.1 step.1, subst (λ (x : List Event). ascend_above 0 x ≡ true) test.1 test.0)

pub ascending_again : EventsReadBack → (schema : List Table) (items : List Event) → is_lawful schema ≡ true → AllByRecursion (IsLawfulItem schema) items
    → ascend_above 0 items ≡ true → ascending_items schema (length items) (flat_map (item_part schema) items) ≡ Some items
unfolding ascending_items
ascending_again by_lines schema items lawful each up = rw (items_again by_lines schema items lawful each, up) refl
