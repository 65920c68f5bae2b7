use Rattle.std.proofs.Common.{◌≡◌, ℕ, ◌+◌, ◌-◌, ◌<◌, List, length, arith}
use Rattle.std.proofs.lemmas.Bool.Decides.{nat_tests}
use Rattle.std.proofs.lemmas.Result.{err_from_is_err_and}
use Rattle.voy_txn.specs.Reading.{item_of, items_of, sized_at}
use Rattle.voy_txn.proofs.LoopLemmas.{comes_to, comes_to_none, fails_whole, goes_on, items_end, items_step, items_too_long, items_without_item, items_without_line}
use Rattle.voy_txn.proofs.items.items_of.Goals as goal

pub returns-in_err-line : goal.returns-in_err-line
returns-in_err-line c =
    let schema = c.args.schema.now.tables in
    let rest = c.loop.rest.now in
    let failed = err_from_is_err_and c.from_residual.result c.from_residual.ensures.1 in
    rw (failed.1, failed.2)
    (fails_whole c.in_err-line.field-0.0 (sized_at rest) c.loop.items (items_of schema (c.args.count - c.loop.counter) rest) (items_of schema c.args.count c.args.bytes.now) c.in_err-line.ensures
    (items_without_line schema c.args.count c.loop.counter rest c.loop-test.true) c.loop.invariant)

pub returns-in_err-item : goal.returns-in_err-item
returns-in_err-item c =
    let schema = c.args.schema.now.tables in
    let rest = c.loop.rest.now in
    let line : List ℕ × List ℕ = (c.in_ok-line.line.now, c.in_ok-line.after.now) in
    let failed = err_from_is_err_and c.from_residual-in_err-item.result c.from_residual-in_err-item.ensures.1 in
    rw (failed.1, failed.2)
    (fails_whole c.in_err-item.field-0.0 (item_of schema line.0) c.loop.items (items_of schema (c.args.count - c.loop.counter) rest) (items_of schema c.args.count c.args.bytes.now) c.in_err-item.ensures
    (items_without_item schema c.args.count c.loop.counter rest line c.loop-test.true c.in_ok-line.ensures) c.loop.invariant)

pub loop-preserved : goal.loop-preserved
loop-preserved c =
    let schema = c.args.schema.now.tables in
    let rest = c.loop.rest.now in
    let line : List ℕ × List ℕ = (c.in_ok-line.line.now, c.in_ok-line.after.now) in
    rw c.in_ok-push.ensures.ok
    (goes_on c.loop.items c.in_ok-item.item (items_of schema (c.args.count - c.loop.counter) rest) (items_of schema (c.args.count - (c.loop.counter + 1)) line.1) (items_of schema c.args.count c.args.bytes.now)
    (items_step schema c.args.count c.loop.counter rest line c.in_ok-item.item c.loop-test.true c.in_ok-line.ensures c.in_ok-item.ensures) c.loop.invariant)

pub returns-then-not-is_empty : goal.returns-then-not-is_empty
returns-then-not-is_empty c =
    let schema = c.args.schema.now.tables in
    let rest = c.loop.rest.now in
    let more : 0 < length rest = grind (arith, nat_tests) in
    comes_to_none c.loop.items (items_of schema (c.args.count - c.loop.counter) rest) (items_of schema c.args.count c.args.bytes.now) (items_too_long schema c.args.count c.loop.counter rest c.loop-test.false more) c.loop.invariant

pub returns : goal.returns
returns c =
    let schema = c.args.schema.now.tables in
    let rest = c.loop.rest.now in
    let none : length rest ≡ 0 = grind (arith, nat_tests) in
    comes_to c.loop.items (items_of schema (c.args.count - c.loop.counter) rest) (items_of schema c.args.count c.args.bytes.now) (items_end schema c.args.count c.loop.counter rest c.loop-test.false none) c.loop.invariant
