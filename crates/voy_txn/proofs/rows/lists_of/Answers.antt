use Rattle.std.proofs.Common.{◌≡◌, ℕ, ◌+◌, ◌<◌, List, drop, length, arith}
use Rattle.std.proofs.lemmas.Bool.Decides.{nat_tests}
use Rattle.std.proofs.lemmas.Result.{err_from_is_err_and}
use Rattle.voy_txn.specs.Reading.{lists_of, part_at, sorted_rows}
use Rattle.voy_txn.proofs.LoopLemmas.{comes_to, comes_to_none, fails_whole, goes_on, lists_end, lists_step, lists_too_long, lists_without_part, lists_without_rows}
use Rattle.voy_txn.proofs.rows.lists_of.Goals as goal

pub returns-in_err-count : goal.returns-in_err-count
returns-in_err-count c =
    let tables = c.args.tables.now in
    let rest = c.loop-table.rest.now in
    let i = c.loop-table.table-index in
    let failed = err_from_is_err_and c.from_residual.result c.from_residual.ensures.1 in
    rw (failed.1, failed.2)
    (fails_whole c.in_err-count.field-0.0 (part_at rest) c.loop-table.lists (lists_of (drop i tables) rest) (lists_of tables c.args.bytes.now) c.in_err-count.ensures
    (lists_without_part tables i c.table-item.result rest c.loop-table-test.true c.table-item.is) c.loop-table.invariant)

pub returns-in_err-rows : goal.returns-in_err-rows
returns-in_err-rows c =
    let tables = c.args.tables.now in
    let rest = c.loop-table.rest.now in
    let i = c.loop-table.table-index in
    let part : ℕ × List ℕ × List ℕ = (c.in_ok-count.count, c.in_ok-count.text.now, c.in_ok-count.after.now) in
    let failed = err_from_is_err_and c.from_residual-in_err-rows.result c.from_residual-in_err-rows.ensures.1 in
    rw (failed.1, failed.2)
    (fails_whole c.in_err-rows.field-0.0 (sorted_rows c.table-item.result part.0 part.1) c.loop-table.lists (lists_of (drop i tables) rest) (lists_of tables c.args.bytes.now) c.in_err-rows.ensures
    (lists_without_rows tables i c.table-item.result rest part c.loop-table-test.true c.table-item.is c.in_ok-count.ensures) c.loop-table.invariant)

pub loop-table-preserved : goal.loop-table-preserved
loop-table-preserved c =
    let tables = c.args.tables.now in
    let rest = c.loop-table.rest.now in
    let i = c.loop-table.table-index in
    let part : ℕ × List ℕ × List ℕ = (c.in_ok-count.count, c.in_ok-count.text.now, c.in_ok-count.after.now) in
    let rows = c.in_ok-rows.rows in
    rw c.in_ok-push.ensures.ok
    (goes_on c.loop-table.lists rows (lists_of (drop i tables) rest) (lists_of (drop (i + 1) tables) part.2) (lists_of tables c.args.bytes.now)
    (lists_step tables i c.table-item.result rest part rows c.loop-table-test.true c.table-item.is c.in_ok-count.ensures c.in_ok-rows.ensures) c.loop-table.invariant)

pub returns-then-not-is_empty : goal.returns-then-not-is_empty
returns-then-not-is_empty c =
    let tables = c.args.tables.now in
    let rest = c.loop-table.rest.now in
    let i = c.loop-table.table-index in
    let more : 0 < length rest = grind (arith, nat_tests) in
    comes_to_none c.loop-table.lists (lists_of (drop i tables) rest) (lists_of tables c.args.bytes.now) (lists_too_long tables i rest c.loop-table-test.false more) c.loop-table.invariant

pub returns : goal.returns
returns c =
    let tables = c.args.tables.now in
    let rest = c.loop-table.rest.now in
    let i = c.loop-table.table-index in
    let none : length rest ≡ 0 = grind (arith, nat_tests) in
    comes_to c.loop-table.lists (lists_of (drop i tables) rest) (lists_of tables c.args.bytes.now) (lists_end tables i rest c.loop-table-test.false none) c.loop-table.invariant
