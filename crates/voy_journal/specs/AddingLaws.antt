-- Laws of payloads that a journal keeps and of those that it has more.
use Rattle.std.proofs.Common.{◌≡◌, ℕ, List, [], ◌++◌, Option, Some, None, refl, sym, take, ap, ◌∙◌}
use Rattle.std.proofs.lemmas.List.{append-nil, append_assoc}
use Rattle.std.specs.Option.{option_map}
use Rattle.voy_disk.specs.Images.{Image}
use Rattle.voy_disk.specs.Steps.{Follows, LeavesPrefix}
use Rattle.voy_disk.specs.StepLaws.{follows_on}
use Rattle.voy_disk.specs.PrefixLaws.{leaves_on}
use Rattle.voy_journal.specs.Journal.{AddsPayloads, KeepsPayloads, payloads_in}

abbrev with_more : List (List ℕ) → Option (List (List ℕ)) → Option (List (List ℕ))
with_more added found = option_map (λ payloads. payloads ++ added) found

more_twice : (xs ys : List (List ℕ)) (found : Option (List (List ℕ)))
    → with_more ys (with_more xs found) ≡ with_more (xs ++ ys) found
more_twice xs ys None = refl
more_twice xs ys (Some payloads) = ap (λ all. Some all) (append_assoc payloads xs ys)

no_more : (found : Option (List (List ℕ))) → with_more [] found ≡ found
no_more None = refl
no_more (Some payloads) = ap (λ all. Some all) (append-nil payloads)

module _ (name : List ℕ) where
  -- these payloads more, and then those more, are both more
  pub adds_on : (xs ys : List (List ℕ)) (i j k : Image) → AddsPayloads name xs i j → AddsPayloads name ys j k
      → AddsPayloads name (xs ++ ys) i k
  adds_on xs ys i j k first second = record {
    payloads = second.payloads ∙ ap (with_more ys) first.payloads ∙ more_twice xs ys (payloads_in name i);
    others = λ other differs. second.others other differs ∙ first.others other differs;
  }

  -- payloads that stay, and then more
  pub keeps_then_adds : (ys : List (List ℕ)) (i j k : Image) → KeepsPayloads name i j → AddsPayloads name ys j k
      → AddsPayloads name ys i k
  keeps_then_adds ys i j k first second = record {
    payloads = second.payloads ∙ ap (with_more ys) first.payloads;
    others = λ other differs. second.others other differs ∙ first.others other differs;
  }

  -- more payloads, which then stay
  pub adds_then_keeps : (xs : List (List ℕ)) (i j k : Image) → AddsPayloads name xs i j → KeepsPayloads name j k
      → AddsPayloads name xs i k
  adds_then_keeps xs i j k first second = record {
    payloads = second.payloads ∙ first.payloads;
    others = λ other differs. second.others other differs ∙ first.others other differs;
  }

  -- payloads that stay twice
  pub keeps_on : (i j k : Image) → KeepsPayloads name i j → KeepsPayloads name j k → KeepsPayloads name i k
  keeps_on i j k first second = record {
    payloads = second.payloads ∙ first.payloads;
    others = λ other differs. second.others other differs ∙ first.others other differs;
  }

  -- to have none more is to keep those that are there
  pub adds_none : (i j : Image) → KeepsPayloads name i j → AddsPayloads name [] i j
  adds_none i j keeps = record { payloads = keeps.payloads ∙ sym (no_more (payloads_in name i)); others = keeps.others }

  pub none_added : (i j : Image) → AddsPayloads name [] i j → KeepsPayloads name i j
  none_added i j adds = record { payloads = adds.payloads ∙ no_more (payloads_in name i); others = adds.others }

  -- ---- the same of the images of calls, one after the other

  pub all_added_on : (xs ys : List (List ℕ)) {a b c : Image → Type 0} → Follows (AddsPayloads name xs) a b
      → Follows (AddsPayloads name ys) b c
      → Follows (AddsPayloads name (xs ++ ys)) a c
  all_added_on xs ys first second = follows_on first second (λ i j k x y. adds_on xs ys i j k x y)

  pub some_added_on : (xs ys : List (List ℕ)) {a b c : Image → Type 0} → Follows (AddsPayloads name xs) a b
      → LeavesPrefix (AddsPayloads name) ys b c
      → LeavesPrefix (AddsPayloads name) (xs ++ ys) a c
  some_added_on xs ys first second = leaves_on (AddsPayloads name) (λ xs ys i j k x y. adds_on xs ys i j k x y) xs ys first second

  pub kept_then_added : (ys : List (List ℕ)) {a b c : Image → Type 0} → Follows (KeepsPayloads name) a b
      → Follows (AddsPayloads name ys) b c
      → Follows (AddsPayloads name ys) a c
  kept_then_added ys first second = follows_on first second (λ i j k x y. keeps_then_adds ys i j k x y)

  pub kept_then_some : (ys : List (List ℕ)) {a b c : Image → Type 0} → Follows (KeepsPayloads name) a b
      → LeavesPrefix (AddsPayloads name) ys b c
      → LeavesPrefix (AddsPayloads name) ys a c
  kept_then_some ys first second = follows_on first second (λ i j k x y. (y.0, keeps_then_adds (take y.0 ys) i j k x y.1))
