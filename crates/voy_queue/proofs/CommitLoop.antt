-- One turn of the loop over what is pending.
use Rattle.std.proofs.Common.{◌≡◌, ◌<◌, ◌+◌, inl, inr, ℕ, true, false, List, [], ◌∷◌, ◌++◌, Option, get_or, length, map, take, drop, refl, sym, ap, ◌∙◌, subst, is_some}
use Rattle.std.proofs.lemmas.List.{append_assoc, drop_more, map-append, take-append-drop, take_more}
use Rattle.voy_disk.specs.Calls.{Change}
use Rattle.voy_disk.specs.Files.{Files}
use Rattle.voy_disk.specs.FrameLaws.{files_beside_again, files_beside_more}
use Rattle.voy_disk.specs.Frames.{KeepsBeside, OneOf}
use Rattle.voy_disk.specs.Images.{Image}
use Rattle.voy_disk.specs.PrefixLaws.{does_on, leaves_more, leaves_on}
use Rattle.voy_disk.specs.Steps.{Does, Follows, LeavesPrefix, after_all}
use Rattle.voy_meta.specs.Allowed.{writes}
use Rattle.voy_meta.specs.FoldLaws.{state_on}
use Rattle.voy_meta.specs.Sides.{leads_to, request_of}
use Rattle.voy_meta.specs.State.{after_record, state_after}
use Rattle.voy_meta.specs.declared.state.MetaState.{MetaState}
use Rattle.voy_queue.specs.Names.{segment_name}
use Rattle.voy_queue.specs.Putting.{AreBehind, commit_of, end_of, entry_of, recorded_end}
use Rattle.voy_queue.specs.PuttingLaws.{IsOpenWithin, one_within}
use Rattle.voy_queue.specs.Shelf.{Commits, Shelf, shelf_after, shelf_in}
use Rattle.voy_queue.specs.Writer.{names_of}
use Rattle.voy_queue.specs.declared.end.Added.{Added}
use Rattle.voy_queue.specs.declared.end.End.{End}
use Rattle.voy_queue.proofs.CommitLemmas.{OneCommit}
use Rattle.voy_queue.proofs.RecordLemmas.{request_stays, writes_on}
use Rattle.voy_tables.specs.declared.change.Role.{Role}

all_on : (shelf : Shelf) (xs ys : List Commits) → after_all shelf_after shelf (xs ++ ys) ≡ after_all shelf_after (after_all shelf_after shelf xs) ys
all_on shelf [] ys = refl
all_on shelf (x ∷ xs) ys = all_on (shelf_after shelf x) xs ys

commits_on : (xs ys : List Commits) (i j k : Image) → Does shelf_in shelf_after xs i j → Does shelf_in shelf_after ys j k
    → Does shelf_in shelf_after (xs ++ ys) i k
commits_on xs ys i j k first second = second ∙ ap (λ shelf. after_all shelf_after shelf ys) first ∙ sym (all_on (shelf_in i) xs ys)

pub end_on : (end : End) (front behind : List Added) → end_of end (front ++ behind) ≡ end_of (end_of end front) behind
end_on end [] behind = refl
end_on end (one ∷ front) behind = end_on one.end front behind

-- where a cutover was put, nothing stands behind it
pub asked_now : (one : Added) (left : List Added) → AreBehind one.end left → one.end.ended ≡ true → (end_of one.end left).ended ≡ true
asked_now one [] behind ended = ended
asked_now one (next ∷ left) behind ended = absurd (no behind.0.goes_on ended) where
  no : one.end.ended ≡ false → one.end.ended ≡ true → ⊥
  no is not = cc

within_names : (front : List Added) (one : Added) (behind : List Added) (name : List ℕ) → OneOf (map (λ (x : Added). segment_name x.end.number) (one ∷ [])) name
    → OneOf (map (λ (x : Added). segment_name x.end.number) (front ++ one ∷ behind)) name
within_names [] one behind name (inl is) = inl is
within_names [] one behind name (inr none) = absurd none
within_names (a ∷ front) one behind name is = inr (within_names front one behind name is)

commit_names_within : (front : List Added) (one : Added) (behind : List Added) (name : List ℕ) → OneCommit one name → OneOf (names_of (front ++ one ∷ behind)) name
commit_names_within front one behind name (inl is) = inl is
commit_names_within front one behind name (inr is) = inr (within_names front one behind name is)

module _ (all : List Added) (i : ℕ) (one : Added) (within : i < length all) (is : one ≡ get_or all i one) where
  pub left_at : drop i all ≡ one ∷ drop (i + 1) all
  left_at = drop_more all i one within ∙ ap (λ (x : Added). x ∷ drop (i + 1) all) (sym is)

  pub done_at : take (i + 1) all ≡ take i all ++ one ∷ []
  done_at = take_more all i one within ∙ ap (λ (x : Added). take i all ++ x ∷ []) (sym is)

  pub all_at : take i all ++ one ∷ drop (i + 1) all ≡ all
  all_at = ap (λ left. take i all ++ left) (sym left_at) ∙ take-append-drop i all

  pub state_more : (role : Role) (old now new : MetaState) → now ≡ state_after old (map (entry_of role) (take i all)) → new ≡ after_record now (entry_of role one)
      → new ≡ state_after old (map (entry_of role) (take (i + 1) all))
  state_more role old now new before step =
      step ∙ ap (λ state. after_record state (entry_of role one)) before
      ∙ sym (ap (λ done. state_after old (map (entry_of role) done)) done_at
      ∙ ap (state_after old) (map-append (entry_of role) (take i all) (one ∷ []))
      ∙ state_on old (map (entry_of role) (take i all)) (entry_of role one ∷ []))

  pub end_more : (old now : End) → now ≡ end_of old (take i all) → one.end ≡ end_of old (take (i + 1) all)
  end_more old now before = sym (ap (end_of old) done_at ∙ end_on old (take i all) (one ∷ []))

  commits_at : (role : Role) → map (commit_of role) (take (i + 1) all) ≡ map (commit_of role) (take i all) ++ commit_of role one ∷ []
  commits_at role = ap (map (commit_of role)) done_at ∙ map-append (commit_of role) (take i all) (one ∷ [])

  pub images_more : (role : Role) {a b c : Image → Type 0} → Follows (Does shelf_in shelf_after (map (commit_of role) (take i all))) a b
      → Follows (Does shelf_in shelf_after (commit_of role one ∷ [])) b c
      → Follows (Does shelf_in shelf_after (map (commit_of role) (take (i + 1) all))) a c
  images_more role {a} {b} {c} first second =
      subst (λ steps. Follows (Does shelf_in shelf_after steps) a c) (sym (commits_at role))
      (does_on (Does shelf_in shelf_after) commits_on (map (commit_of role) (take i all)) (commit_of role one ∷ []) first second)

  pub stopped_at : (role : Role) {a b c : Image → Type 0} → Follows (Does shelf_in shelf_after (map (commit_of role) (take i all))) a b
      → LeavesPrefix (Does shelf_in shelf_after) (commit_of role one ∷ []) b c
      → LeavesPrefix (Does shelf_in shelf_after) (map (commit_of role) all) a c
  stopped_at role {a} {b} {c} first second =
      subst (λ steps. LeavesPrefix (Does shelf_in shelf_after) steps a c)
      (append_assoc (map (commit_of role) (take i all)) (commit_of role one ∷ []) (map (commit_of role) (drop (i + 1) all))
      ∙ sym (map-append (commit_of role) (take i all) (one ∷ drop (i + 1) all)) ∙ ap (map (commit_of role)) all_at)
      (leaves_more (Does shelf_in shelf_after) (map (commit_of role) (take i all) ++ commit_of role one ∷ []) (map (commit_of role) (drop (i + 1) all))
      (leaves_on (Does shelf_in shelf_after) commits_on (map (commit_of role) (take i all)) (commit_of role one ∷ []) first second))

  pub others_more : {a b c : Option Files} → Change (KeepsBeside (OneOf (names_of all))) a b → Change (KeepsBeside (OneCommit one)) b c
      → Change (KeepsBeside (OneOf (names_of all))) a c
  others_more first second =
      files_beside_again (OneOf (names_of all)) first
      (files_beside_more (OneCommit one) (OneOf (names_of all))
      (λ name among. subst (λ pending. OneOf (names_of pending) name) all_at (commit_names_within (take i all) one (drop (i + 1) all) name among)) second)

  pub behind_at : (end : End) → AreBehind end (drop i all) → AreBehind end (one ∷ drop (i + 1) all)
  behind_at end behind = subst (λ left. AreBehind end left) left_at behind

  pub ended_now : (end : End) → AreBehind end (drop i all) → one.end.ended ≡ true → (end_of end (drop i all)).ended ≡ true
  ended_now end behind ended =
      let at = behind_at end behind in
      ap (λ left. (end_of end left).ended) left_at ∙ asked_now one (drop (i + 1) all) at.1 ended

  pub asked_on : (role : Role) (now new : MetaState) → new ≡ after_record now (entry_of role one) → recorded_end new role ≡ one.end
      → ((end_of (recorded_end now role) (drop i all)).ended ≡ true → is_some (request_of (leads_to role) now) ≡ true)
      → (end_of (recorded_end new role) (drop (i + 1) all)).ended ≡ true → is_some (request_of (leads_to role) new) ≡ true
  asked_on role now new step ends asked ended =
      let before : (end_of (recorded_end now role) (drop i all)).ended ≡ true =
      ap (λ left. (end_of (recorded_end now role) left).ended) left_at ∙ ap (λ end. (end_of end (drop (i + 1) all)).ended) (sym ends) ∙ ended in
      rw step (request_stays now role one (asked before))

pub may_on : (role : Role) (now new : MetaState) (one : Added) → new ≡ after_record now (entry_of role one) → recorded_end new role ≡ one.end
    → writes now role ≡ true → (recorded_end new role).ended ≡ false → writes new role ≡ true
may_on role now new one step ends may goes = rw step (writes_on now role one (ap (λ (end : End). end.ended) (sym ends) ∙ goes) may)

-- where what was put ends open, it is small
pub ends_small : (end : End) (pending : List Added) → IsOpenWithin end → AreBehind end pending → IsOpenWithin (end_of end pending)
ends_small end [] small behind = small
ends_small end (one ∷ more) small behind = ends_small one.end more (one_within end one behind.0) behind.1
