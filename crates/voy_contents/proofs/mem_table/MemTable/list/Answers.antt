use Rattle.std.proofs.Common.{ap, refl, subst, sym, ◌∙◌}
use Rattle.std.proofs.lemmas.Option.{same_Some}
use Rattle.std.specs.Prelude.{not, slice_set, unwrap_or, false}
use Rattle.voy_contents.proofs.ListLemmas.{get_at, set_same_at}
use Rattle.voy_contents.proofs.MoveLemmas.{none_lists, one_lists}
use Rattle.voy_contents.proofs.TraceLemmas.{one_more_back, same_back, tuple_back}
use Rattle.voy_contents.specs.MemTables.{Lists, are_listed, is_listed}
use Rattle.voy_contents.specs.declared.traces.Place.TheVariants.{Tuple}
use Rattle.voy_contents.proofs.mem_table.MemTable.list.Goals as goal

pub returns-in_err-reserve-in-Some-clause-back : goal.returns-in_err-reserve-in-Some-clause-back
returns-in_err-reserve-in-Some-clause-back c = same_back c.args.table c.args.self.now c.args.self.now c.args.traces.now.items c.reserve.new.self.items refl c.reserve.ensures.items

pub returns-in_err-held-in-Some-clause-back : goal.returns-in_err-held-in-Some-clause-back
returns-in_err-held-in-Some-clause-back c =
    let indexes = c.args.self.now.indexes in
    let there = get_at indexes c.args.unique c.item_mut.result.now c.requires c.item_mut.ensures.value in
    same_back c.args.table c.args.self.now (record { rows = c.args.self.now.rows; indexes = slice_set indexes c.args.unique c.put_tuple.new.index }) c.args.traces.now.items c.reserve.new.self.items
    (λ i. record { rows = c.args.self.now.rows; indexes = (ap (slice_set indexes c.args.unique) c.in_err-held-in-Some.ensures.err ∙ set_same_at indexes c.args.unique c.item_mut.result.now there) i }) c.reserve.ensures.items

pub returns-in-None-clause-back : goal.returns-in-None-clause-back
returns-in-None-clause-back c = same_back c.args.table c.args.self.now c.args.self.now c.args.traces.now.items c.args.traces.now.items refl refl

pub returns-in-None-clause-lists : goal.returns-in-None-clause-lists
returns-in-None-clause-lists c =
    subst (λ tuple. Lists c.args.unique tuple c.args.listed c.args.self.now.indexes c.args.self.now.indexes) (sym c.in-None.is) (none_lists c.args.unique c.args.listed c.args.self.now.indexes)

pub returns-in_ok-held-in-Some-clause-back : goal.returns-in_ok-held-in-Some-clause-back
returns-in_ok-held-in-Some-clause-back c =
    let indexes = c.args.self.now.indexes in
    let there = get_at indexes c.args.unique c.item_mut.result.now c.requires c.item_mut.ensures.value in
    one_more_back c.args.table c.args.self.now (record { rows = c.args.self.now.rows; indexes = slice_set indexes c.args.unique c.put_tuple.new.index }) c.args.traces.now.items c.reserve.new.self.items
    c.push_reserved.new.self.items (Tuple c.args.unique c.in-Some.tuple c.in_ok-held-in-Some.held (not c.args.listed)) c.reserve.ensures.items c.push_reserved.ensures.items
    (tuple_back c.args.unique c.in-Some.tuple c.in_ok-held-in-Some.held (not c.args.listed) c.args.self.now.rows indexes c.item_mut.result.now c.put_tuple.new.index there c.in_ok-held-in-Some.ensures.back)

pub returns-in_ok-held-in-Some-clause-was : goal.returns-in_ok-held-in-Some-clause-was
returns-in_ok-held-in-Some-clause-was c = λ index found.
    let indexes = c.args.self.now.indexes in
    let there = get_at indexes c.args.unique c.item_mut.result.now c.requires c.item_mut.ensures.value in
    ap (λ tuple. are_listed tuple index) c.in-Some.is ∙ ap (is_listed c.in-Some.tuple) (same_Some index c.item_mut.result.now (sym found ∙ there))
    ∙ sym (c.unwrap_or-was.ensures ∙ ap (λ held. unwrap_or held false) c.in_ok-held-in-Some.ensures.held)

pub returns-in_ok-held-in-Some-clause-lists : goal.returns-in_ok-held-in-Some-clause-lists
returns-in_ok-held-in-Some-clause-lists c =
    let indexes = c.args.self.now.indexes in
    let there = get_at indexes c.args.unique c.item_mut.result.now c.requires c.item_mut.ensures.value in
    subst (λ tuple. Lists c.args.unique tuple c.args.listed indexes (slice_set indexes c.args.unique c.put_tuple.new.index)) (sym c.in-Some.is)
    (one_lists c.args.unique c.in-Some.tuple c.args.listed indexes c.item_mut.result.now c.put_tuple.new.index c.requires there c.in_ok-held-in-Some.ensures.listed)
