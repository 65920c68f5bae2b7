use Rattle.std.proofs.Common.{true≢false, ◌≡◌, ◌∙◌, refl, sym, map, true, false, append-nil}
use Rattle.std.proofs.lemmas.Bool.{false_from_ne_true}
use Rattle.std.proofs.lemmas.Map.Iter.{rest_all, rest_more}
use Rattle.std.specs.Map.Iter.{deref}
use Rattle.std.specs.Prelude.{string_bytes}
use Rattle.voy_disk.proofs.Listing.{listed, names_less, names_more}
use Rattle.voy_disk.specs.Name.{is_name}
use Rattle.voy_disk.proofs.memory.listing.names_in.Goals as goal

pub loop-key-init : goal.loop-key-init
loop-key-init c = rw (c.new-names.ensures, c.into_iter-key-iterator.ensures.into_iter_gives, c.keys-key-items.ensures.rest) refl

pub loop-key-preserved-in-Continue-branch-3 : goal.loop-key-preserved-in-Continue-branch-3
loop-key-preserved-in-Continue-branch-3 c =
    let left = rest_more deref c.loop-key.key-iterator c.next.new.self c.next.result c.in-Some.key c.in-Some.is c.next.ensures.steps in
    let valid : is_name (string_bytes c.in-Some.key.now) ≡ true = rw c.as_str.ensures.value at (c.in_ok-name.ensures.valid.0 (rw c.in-Some-2.is refl)) in
    let text = rw (c.in-Some-2.is, c.as_str.ensures.value) at c.in_ok-name.ensures.same in
    rw (c.in_ok-push.ensures.ok, text) (names_more c.loop-key.names _ (map string_bytes c.next.new.self) (string_bytes c.in-Some.key.now) valid (rw left at c.loop-key.invariant))

pub loop-key-preserved : goal.loop-key-preserved
loop-key-preserved c =
    let left = rest_more deref c.loop-key.key-iterator c.next.new.self c.next.result c.in-Some.key c.in-Some.is c.next.ensures.steps in
    let other : is_name (string_bytes c.in-Some.key.now) ≡ false = false_from_ne_true _ (λ valid. true≢false (sym (rw c.in_default.is at (c.in_ok-name.ensures.valid.1 (rw c.as_str.ensures.value valid))))) in
    names_less c.loop-key.names _ (map string_bytes c.next.new.self) (string_bytes c.in-Some.key.now) other (rw left at c.loop-key.invariant)

pub returns : goal.returns
returns c =
    let left = rest_all deref c.loop-key.key-iterator c.next.new.self c.next.result c.in-None.is c.next.ensures.steps in
    listed c.args.files.now c.loop-key.names c.keys-key-items.ensures.ordered (sym (append-nil c.loop-key.names) ∙ rw left at c.loop-key.invariant)
