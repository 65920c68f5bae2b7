use Rattle.std.proofs.Common.{◌≡◌, ◌∙◌, ◌<◌, ℕ, List, ap, ap₂, get_or, length, slice_set, sym, arith, refl}
use Rattle.std.proofs.lemmas.Grind.{common_steps}
use Rattle.std.specs.Cmp.Lexicographic.{slice_cmp}
use Rattle.std.specs.Ordering.{nat_cmp}
use Rattle.std.specs.declared.cmp.Ordering.TheVariants.{Equal}
use Rattle.voy_event.specs.ByName.{name_at}
use Rattle.voy_event.proofs.ByNameLemmas.{gives_way}
use Rattle.voy_event.proofs.by_name.put_place.Goals as goal

pub returns-in-Equal : goal.returns-in-Equal
returns-in-Equal c =
    let columns = c.args.columns.now in
    let order = c.args.order.now in
    let at = c.loop-at.at in
    let there : ℕ = get_or order at 0 in
    let list : c.as_slice.result.now ≡ order = c.as_slice.ensures ∙ c.loop-at.invariant.same in
    let within : at < length order = grind (arith, common_steps) in
    let equal : slice_cmp nat_cmp (name_at columns c.args.place) (name_at columns there) ≡ Equal =
    ap₂ (slice_cmp nat_cmp) (sym c.name_at-name.ensures) (sym (c.name_at.ensures ∙ ap (λ (ps : List ℕ). name_at columns (get_or ps at 0)) list))
    ∙ sym c.cmp.ensures ∙ c.in-Equal.is in
    c.replace.ensures ∙ ap (λ (ps : List ℕ). slice_set ps at c.args.place) c.loop-at.invariant.same
    ∙ sym (gives_way columns c.args.place there order at within refl equal) ∙ sym c.loop-at.invariant.so_far
