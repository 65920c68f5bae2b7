-- What the length of a change file says when it is opened.
use Rattle.std.proofs.Common.{◌≡◌, ◌≤◌, ◌<◌, ◌+◌, ℕ, suc, Bool, true, false, nat_lt, List, [], ◌∷◌, Some, None, length, take, refl, ap, ◌∙◌, arith}
use Rattle.std.proofs.lemmas.Bool.Decides.{nat_tests}
use Rattle.std.proofs.Math.Seq.{take-length}
use Rattle.std.specs.Prelude.{IfSome, Option, ◌==◌, is_some, option_map}
use Rattle.voy_disk.specs.File.{File}
use Rattle.voy_disk.specs.Files.{bytes_now, length_of}
use Rattle.voy_feed.specs.Feed.{is_too_large}
use Rattle.voy_feed.specs.Kept.{changes_of, lines_reading}
use Rattle.voy_feed.specs.declared.limits.TheConstants.{MAX_CHANGE_FILE_BYTES}
use Rattle.voy_files.specs.Bytes.{bytes_between}
use Rattle.voy_files.specs.Lines.{lines_of, onto_first}
use Rattle.voy_schema.specs.declared.table.Table.{Table}

pub is_past : (n : ℕ) → MAX_CHANGE_FILE_BYTES < n → nat_lt MAX_CHANGE_FILE_BYTES n ≡ true
is_past n past = grind (arith, nat_tests, past)

pub is_within : (n : ℕ) → n ≤ MAX_CHANGE_FILE_BYTES → nat_lt MAX_CHANGE_FILE_BYTES n ≡ false
is_within n within = grind (arith, nat_tests, within)

pub no_length : (file : Option File) → None ≡ length_of file → file ≡ None
no_length None none = refl
no_length (Some file) none = cc

pub some_length : (file : Option File) (n : ℕ) → Some n ≡ length_of file → is_some file ≡ true
some_length None n is = cc
some_length (Some file) n is = refl

pub tells_size : (file : Option File) (n : ℕ) → Some n ≡ length_of file → is_too_large (bytes_now file) ≡ nat_lt MAX_CHANGE_FILE_BYTES n
tells_size None n is = cc
tells_size (Some file) n is = let same : length file.now ≡ n = cc in ap (nat_lt MAX_CHANGE_FILE_BYTES) same

pub size_past : (file : Option File) (n : ℕ) → Some n ≡ length_of file → MAX_CHANGE_FILE_BYTES < n → is_too_large (bytes_now file) ≡ true
size_past file n is past = tells_size file n is ∙ is_past n past

pub large_size : (file : Option File) (found : Option ℕ) → found ≡ length_of file → is_some found ≡ true → IfSome found (λ n. MAX_CHANGE_FILE_BYTES < n)
    → is_too_large (bytes_now file) ≡ true
large_size file None is there past = cc
large_size file (Some n) is there past = size_past file n is past

pub size_within : (file : Option File) (n : ℕ) → Some n ≡ length_of file → n ≤ MAX_CHANGE_FILE_BYTES → is_too_large (bytes_now file) ≡ false
size_within file n is within = tells_size file n is ∙ is_within n within

pub size_of : (file : Option File) (n : ℕ) → Some n ≡ length_of file → length (bytes_now file) ≡ n
size_of None n is = cc
size_of (Some file) n is = cc

-- all bytes are left at the beginning
pub all_left : (file : Option File) (n : ℕ) → Some n ≡ length_of file → bytes_between 0 n (bytes_now file) ≡ bytes_now file
all_left None n is = cc
all_left (Some file) n is = let same : n ≡ length file.now = cc in ap (λ count. take count file.now) same ∙ take-length file.now

-- of a file that is not too large all changes are left
pub changes_begin : (schema : List Table) (file : Option File) (n : ℕ) → Some n ≡ length_of file → n ≤ MAX_CHANGE_FILE_BYTES
    → lines_reading schema 1 (lines_of (bytes_between 0 n (bytes_now file))) ≡ changes_of schema (option_map (λ (file : File). file.now) file)
changes_begin schema None n is small = cc
changes_begin schema (Some file) n is small =
    let fits : nat_lt MAX_CHANGE_FILE_BYTES (length file.now) ≡ false = size_within (Some file) n is small in
    rw fits (ap (λ bytes. lines_reading schema 1 (lines_of bytes)) (all_left (Some file) n is))

onto_counts : (b : ℕ) (lines : List (List ℕ)) → length (onto_first b lines) ≤ suc (length lines)
onto_counts b [] = omega arith
onto_counts b (line ∷ lines) = omega arith

-- there are no more lines than bytes
pub lines_fewer : (bytes : List ℕ) → length (lines_of bytes) ≤ length bytes
lines_fewer [] = omega arith
lines_fewer (b ∷ bytes) = by_test (b == 10) refl (lines_fewer bytes)
  where
    by_test : (feed : Bool) → (b == 10) ≡ feed → length (lines_of bytes) ≤ length bytes → length (lines_of (b ∷ bytes)) ≤ suc (length bytes)
    by_test true is more = rw is (omega (arith, more))
    by_test false is more = rw is (let counts = onto_counts b (lines_of bytes) in omega (arith, more, counts))

pub few_begin : (file : Option File) (n : ℕ) → Some n ≡ length_of file → n ≤ MAX_CHANGE_FILE_BYTES
    → 0 + length (lines_of (bytes_between 0 n (bytes_now file))) ≤ MAX_CHANGE_FILE_BYTES
few_begin file n is small =
    let fewer : length (lines_of (bytes_between 0 n (bytes_now file))) ≤ length (bytes_between 0 n (bytes_now file)) = lines_fewer _ in
    let all : length (bytes_between 0 n (bytes_now file)) ≡ length (bytes_now file) = ap length (all_left file n is) in
    let same : length (bytes_now file) ≡ n = size_of file n is in
    omega (arith, fewer, all, same, small)
