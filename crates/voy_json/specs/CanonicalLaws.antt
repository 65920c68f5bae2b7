-- The compact text of a canonical value is UTF-8 and reads back as the value.
use Rattle.std.specs.Prelude.{◌≡◌, ◌≤◌, ◌<◌, ◌^◌, ℕ, suc, max, List, [], ◌∷◌, ◌++◌, Bool, true, false, Option, Some, None, decimal, option_and_then, option_map, refl, ⊤}
use Rattle.std.specs.Cmp.Lexicographic.{slice_cmp}
use Rattle.std.specs.Ordering.{match_ordering, nat_cmp, ordering_reverse}
use Rattle.std.specs.Str.{IsUtf8}
use Rattle.std.specs.declared.cmp.Ordering.{Ordering}
use Rattle.std.specs.declared.cmp.Ordering.TheVariants.{Less, Equal, Greater}
use Rattle.std.proofs.Common.{ap, ap₂, append-nil, arith, subst, sym, ◌∙◌}
use Rattle.std.proofs.lemmas.Cmp.{nat_list_cmp_total}
use Rattle.std.proofs.lemmas.Fmt.{IsAscii-decimal}
use Rattle.std.proofs.lemmas.Str.{IsUtf8-append, IsUtf8-from_ascii, IsUtf8-nil, is_utf8-from_IsUtf8}
use Rattle.json.proofs.Printed.Decimals.{IsNumber-decimal}
use Rattle.json.proofs.Printed.Tokens.{tokens-print}
use Rattle.json.proofs.Printed.Trees.{ArePrintable-json_tokens, value-json_tokens}
use Rattle.json.proofs.Printed.Utf8.{IsUtf8-are_ascii, IsUtf8-boolean, IsUtf8-quoted}
use Rattle.json.specs.Json as json
use Rattle.json.specs.Lex.{tokens}
use Rattle.json.specs.Print.{quoted, token_text}
use Rattle.json.specs.Token.{Token}
use Rattle.json.specs.Tree as tree
use Rattle.serde_json.proofs.Numbers.{number_of-decimal}
use Rattle.serde_json.proofs.Texts.{print-outline}
use Rattle.serde_json.specs.Data.{Num, unsigned, negative, float, Data, null, boolean, number, string, array, object, Items, no_items, item, Members, no_members, member, depth, items_depth, members_depth, put}
use Rattle.serde_json.specs.Read.{max_depth, number_of, of_items, of_json, of_members, read}
use Rattle.serde_json.specs.Written.{comma_if, compact_text, items_outline, items_text, members_outline, members_text, number_text, outline}
use Rattle.voy_json.specs.Canonical.{IsBefore, IsCanonical, IsCanonicalNumber, ItemsAreCanonical, MembersAreCanonical}
use Rattle.voy_json.specs.Document.{data_of_bytes}

-- ---- a member that is put in behind all others

join : Members → Members → Members
join no_members ms = ms
join (member l e found) ms = member l e (join found ms)

-- the name stands behind each of these
abbrev IsBehind : List ℕ → Members → Type 0
IsBehind k no_members = ⊤
IsBehind k (member l e found) = (slice_cmp nat_cmp k l ≡ Greater) × IsBehind k found

-- each name stands behind all that were found
abbrev AreBehind : Members → Members → Type 0
AreBehind found no_members = ⊤
AreBehind found (member k d ms) = IsBehind k found × AreBehind found ms

put_last : (found : Members) (k : List ℕ) (d : Data) → IsBehind k found → put k d found ≡ join found (member k d no_members)
unfolding join
put_last no_members k d behind = refl
put_last (member l e found) k d behind = rw behind.0 (ap (member l e) (put_last found k d behind.1))

join_more : (found : Members) (k : List ℕ) (d : Data) (ms : Members) → join (join found (member k d no_members)) ms ≡ join found (member k d ms)
unfolding join
join_more no_members k d ms = refl
join_more (member l e found) k d ms = ap (member l e) (join_more found k d ms)

join_none : (found : Members) → join found no_members ≡ found
unfolding join
join_none no_members = refl
join_none (member l e found) = ap (member l e) (join_none found)

behind_more : (m k : List ℕ) (d : Data) (found : Members) → IsBehind m found → slice_cmp nat_cmp m k ≡ Greater → IsBehind m (join found (member k d no_members))
unfolding join
behind_more m k d no_members behind last = (last, tt)
behind_more m k d (member l e found) behind last = (behind.0, behind_more m k d found behind.1 last)

are_behind_more : (k : List ℕ) (d : Data) (found ms : Members) → AreBehind found ms → IsBefore k ms → AreBehind (join found (member k d no_members)) ms
are_behind_more k d found no_members behind before = tt
are_behind_more k d found (member m e ms) behind before =
    let last : slice_cmp nat_cmp m k ≡ Greater = nat_list_cmp_total.antisymm m k ∙ ap ordering_reverse before.0 in
    (behind_more m k d found behind.0 last, are_behind_more k d found ms behind.1 before.1)

none_behind : (ms : Members) → AreBehind no_members ms
none_behind no_members = tt
none_behind (member k d ms) = (tt, none_behind ms)

-- ---- the value that a value's own JSON is

number_reads : (n : Num) → IsCanonicalNumber n → number_of (number_text n) ≡ Some n
number_reads (unsigned n) small = number_of-decimal n small
number_reads (negative z) never = absurd never
number_reads (float x) never = absurd never

mutual
  unfolding join

  of_json-outline : (d : Data) → IsCanonical d → of_json (outline d) ≡ Some d
  of_json-outline null canonical = refl
  of_json-outline (boolean b) canonical = refl
  of_json-outline (number n) canonical = ap (option_map number) (number_reads n canonical)
  of_json-outline (string s) canonical = refl
  of_json-outline (array ds) canonical = ap (option_map array) (of_items-outline ds canonical)
  of_json-outline (object ms) canonical = ap (option_map object) (of_members-outline ms no_members canonical (none_behind ms))

  of_items-outline : (ds : Items) → ItemsAreCanonical ds → of_items (items_outline ds) ≡ Some ds
  of_items-outline no_items canonical = refl
  of_items-outline (item d ds) canonical =
      ap (option_and_then (λ e. option_map (item e) (of_items (items_outline ds)))) (of_json-outline d canonical.0)
      ∙ ap (option_map (item d)) (of_items-outline ds canonical.1)

  of_members-outline : (ms found : Members) → MembersAreCanonical ms → AreBehind found ms → of_members (members_outline ms) found ≡ Some (join found ms)
  of_members-outline no_members found canonical behind = ap Some (sym (join_none found))
  of_members-outline (member k d ms) found canonical behind =
      ap (option_and_then (λ e. of_members (members_outline ms) (put k e found))) (of_json-outline d canonical.2)
      ∙ ap (of_members (members_outline ms)) (put_last found k d behind.0)
      ∙ of_members-outline ms (join found (member k d no_members)) canonical.3 (are_behind_more k d found ms behind.1 canonical.1)
      ∙ ap Some (join_more found k d ms)

-- ---- its tokens

number_is_number : (n : Num) → IsCanonicalNumber n → tree.HasNumbers (json.number (number_text n))
number_is_number (unsigned n) small = IsNumber-decimal n small
number_is_number (negative z) never = absurd never
number_is_number (float x) never = absurd never

mutual
  has_numbers : (d : Data) → IsCanonical d → tree.HasNumbers (outline d)
  has_numbers null canonical = tt
  has_numbers (boolean b) canonical = tt
  has_numbers (number n) canonical = number_is_number n canonical
  has_numbers (string s) canonical = tt
  has_numbers (array ds) canonical = items_have_numbers ds canonical
  has_numbers (object ms) canonical = members_have_numbers ms canonical

  items_have_numbers : (ds : Items) → ItemsAreCanonical ds → tree.ItemsHaveNumbers (items_outline ds)
  items_have_numbers no_items canonical = tt
  items_have_numbers (item d ds) canonical = (has_numbers d canonical.0, items_have_numbers ds canonical.1)

  members_have_numbers : (ms : Members) → MembersAreCanonical ms → tree.MembersHaveNumbers (members_outline ms)
  members_have_numbers no_members canonical = tt
  members_have_numbers (member k d ms) canonical = (has_numbers d canonical.2, members_have_numbers ms canonical.3)

mutual
  depth-outline : (d : Data) → tree.depth (outline d) ≡ depth d
  depth-outline null = refl
  depth-outline (boolean b) = refl
  depth-outline (number n) = refl
  depth-outline (string s) = refl
  depth-outline (array ds) = ap suc (items_depth-outline ds)
  depth-outline (object ms) = ap suc (members_depth-outline ms)

  items_depth-outline : (ds : Items) → tree.items_depth (items_outline ds) ≡ items_depth ds
  items_depth-outline no_items = refl
  items_depth-outline (item d ds) = ap₂ max (depth-outline d) (items_depth-outline ds)

  members_depth-outline : (ms : Members) → tree.members_depth (members_outline ms) ≡ members_depth ms
  members_depth-outline no_members = refl
  members_depth-outline (member k d ms) = ap₂ max (depth-outline d) (members_depth-outline ms)

tokens-compact_text : (d : Data) → IsCanonical d → tokens (compact_text d) ≡ tree.json_tokens (outline d)
tokens-compact_text d canonical =
    ap tokens (sym (print-outline d)) ∙ tokens-print (tree.json_tokens (outline d)) (ArePrintable-json_tokens (outline d) (has_numbers d canonical))

whole : Option (json.Json × List Token) → Option Data
whole o = option_and_then of_json (option_and_then (λ p. json.if_last p.0 p.1) o)

pub read-compact_text : (d : Data) → IsCanonical d → depth d ≤ max_depth → read (compact_text d) ≡ Some d
unfolding whole
read-compact_text d canonical shallow =
    ap whole
    (ap (json.value max_depth) (tokens-compact_text d canonical ∙ sym (append-nil (tree.json_tokens (outline d))))
    ∙ value-json_tokens (outline d) max_depth [] (omega (arith, depth-outline d)))
    ∙ of_json-outline d canonical

-- ---- its text is UTF-8

IsUtf8-number_text : (n : Num) → IsCanonicalNumber n → IsUtf8 (number_text n)
IsUtf8-number_text (unsigned n) small = IsUtf8-from_ascii (decimal n) (IsAscii-decimal n small)
IsUtf8-number_text (negative z) never = absurd never
IsUtf8-number_text (float x) never = absurd never

IsUtf8-comma_if : (later : Bool) → IsUtf8 (comma_if later)
IsUtf8-comma_if true = IsUtf8-are_ascii (44 ∷ []) refl
IsUtf8-comma_if false = IsUtf8-nil

mutual
  pub IsUtf8-compact_text : (d : Data) → IsCanonical d → IsUtf8 (compact_text d)
  IsUtf8-compact_text null canonical = IsUtf8-are_ascii (token_text Token.null) refl
  IsUtf8-compact_text (boolean b) canonical = IsUtf8-boolean b
  IsUtf8-compact_text (number n) canonical = IsUtf8-number_text n canonical
  IsUtf8-compact_text (string s) canonical = IsUtf8-quoted s canonical
  IsUtf8-compact_text (array ds) canonical = IsUtf8-append (91 ∷ []) (items_text false ds) (IsUtf8-are_ascii (91 ∷ []) refl) (IsUtf8-items_text false ds canonical)
  IsUtf8-compact_text (object ms) canonical = IsUtf8-append (123 ∷ []) (members_text false ms) (IsUtf8-are_ascii (123 ∷ []) refl) (IsUtf8-members_text false ms canonical)

  IsUtf8-items_text : (later : Bool) (ds : Items) → ItemsAreCanonical ds → IsUtf8 (items_text later ds)
  IsUtf8-items_text later no_items canonical = IsUtf8-are_ascii (93 ∷ []) refl
  IsUtf8-items_text later (item d ds) canonical =
      IsUtf8-append (comma_if later) (compact_text d ++ items_text true ds) (IsUtf8-comma_if later)
      (IsUtf8-append (compact_text d) (items_text true ds) (IsUtf8-compact_text d canonical.0) (IsUtf8-items_text true ds canonical.1))

  IsUtf8-members_text : (later : Bool) (ms : Members) → MembersAreCanonical ms → IsUtf8 (members_text later ms)
  IsUtf8-members_text later no_members canonical = IsUtf8-are_ascii (125 ∷ []) refl
  IsUtf8-members_text later (member k d ms) canonical =
      let value = IsUtf8-append (compact_text d) (members_text true ms) (IsUtf8-compact_text d canonical.2) (IsUtf8-members_text true ms canonical.3) in
      let rest = IsUtf8-append (58 ∷ []) (compact_text d ++ members_text true ms) (IsUtf8-are_ascii (58 ∷ []) refl) value in
      IsUtf8-append (comma_if later) (quoted k ++ 58 ∷ (compact_text d ++ members_text true ms)) (IsUtf8-comma_if later)
      (IsUtf8-append (quoted k) (58 ∷ (compact_text d ++ members_text true ms)) (IsUtf8-quoted k canonical.0) rest)

-- what was written is read as the value
pub data_of_bytes-compact_text : (d : Data) → IsCanonical d → depth d ≤ max_depth → data_of_bytes (compact_text d) ≡ Some d
data_of_bytes-compact_text d canonical shallow =
    rw (is_utf8-from_IsUtf8 (compact_text d) (IsUtf8-compact_text d canonical)) (read-compact_text d canonical shallow)

-- ---- canonical members stay so when one is put in

put_before : (k l : List ℕ) (d : Data) (ms : Members) → slice_cmp nat_cmp l k ≡ Less → IsBefore l ms → IsBefore l (put k d ms)
put_before k l d no_members less before = (less, tt)
put_before k l d (member m e ms) less before = by_order (slice_cmp nat_cmp k m) (put_before k l d ms less before.1) where
  by_order : (o : Ordering) → IsBefore l (put k d ms) → IsBefore l (match_ordering o (member k d (member m e ms)) (member m d ms) (member m e (put k d ms)))
  by_order Less later = (less, before)
  by_order Equal later = before
  by_order Greater later = (before.0, later)

before_all : (k l : List ℕ) (ms : Members) → slice_cmp nat_cmp k l ≡ Less → IsBefore l ms → IsBefore k ms
before_all k l no_members less before = tt
before_all k l (member m e ms) less before = (nat_list_cmp_total.trans k l m less before.0, before_all k l ms less before.1)

pub MembersAreCanonical-put : (k : List ℕ) (d : Data) (ms : Members) → IsUtf8 k → IsCanonical d → MembersAreCanonical ms → MembersAreCanonical (put k d ms)
MembersAreCanonical-put k d no_members utf8 canonical members = (utf8, tt, canonical, tt)
MembersAreCanonical-put k d (member l e ms) utf8 canonical members =
    by_order (slice_cmp nat_cmp k l) refl (MembersAreCanonical-put k d ms utf8 canonical members.3) where
      by_order : (o : Ordering) → slice_cmp nat_cmp k l ≡ o → MembersAreCanonical (put k d ms)
          → MembersAreCanonical (match_ordering o (member k d (member l e ms)) (member l d ms) (member l e (put k d ms)))
      by_order Less is later = (utf8, (is, before_all k l ms is members.1), canonical, members)
      by_order Equal is later = (members.0, members.1, canonical, members.3)
      by_order Greater is later =
          let less : slice_cmp nat_cmp l k ≡ Less = nat_list_cmp_total.antisymm l k ∙ ap ordering_reverse is in
          (members.0, put_before k l d ms less members.1, members.2, later)
