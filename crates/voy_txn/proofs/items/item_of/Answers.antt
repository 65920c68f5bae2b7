use Rattle.std.proofs.Common.{◌≡◌, Option, Some, None, true, false, sym, ◌∙◌}
use Rattle.voy_event.specs.CanonicalLine.{canonical_reading}
use Rattle.voy_event.specs.Events.{is_change}
use Rattle.voy_event.specs.declared.event.Event.{Event}
use Rattle.voy_txn.proofs.ItemLemmas.{item_is, item_is_none}
use Rattle.voy_txn.proofs.items.item_of.Goals as goal

pub returns-in_default : goal.returns-in_default
returns-in_default c =
    let schema = c.args.schema.now.tables in
    let none : ◌≡◌ {A = Option Event} None (canonical_reading schema c.args.line.now) = sym c.in_default.is ∙ c.in_ok-item.ensures in
    item_is_none schema c.args.line.now none

pub returns-then-not-is_change : goal.returns-then-not-is_change
returns-then-not-is_change c =
    let schema = c.args.schema.now.tables in
    let item = c.in-Some.item in
    let canonical : Some item ≡ canonical_reading schema c.args.line.now = sym c.in-Some.is ∙ c.in_ok-item.ensures in
    let other : is_change item.what ≡ false = sym c.is_change.ensures ∙ c.if-not-is_change.true in
    item_is schema c.args.line.now item false canonical other

pub returns : goal.returns
returns c =
    let schema = c.args.schema.now.tables in
    let item = c.in-Some.item in
    let canonical : Some item ≡ canonical_reading schema c.args.line.now = sym c.in-Some.is ∙ c.in_ok-item.ensures in
    let change : is_change item.what ≡ true = sym c.is_change.ensures ∙ c.if-not-is_change.false in
    item_is schema c.args.line.now item true canonical change
