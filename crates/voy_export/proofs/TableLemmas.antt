-- What is read of a recorded file, and what it comes to.
use Rattle.std.proofs.Common.{◌≡◌, ◌≤◌, ◌<◌, ◌+◌, ◌-◌, ℕ, true, false, List, Option, Some, None, Result, Ok, Err, IfErr, IfOk, length, nat_lt, refl, sym, ap, ◌∙◌, subst, arith}
use Rattle.std.specs.Prelude.{MatchOption, unwrap_or}
use Rattle.std.specs.Option.{option_map}
use Rattle.std.proofs.lemmas.Bool.Decides.{nat_tests}
use Rattle.voy_disk.specs.File.{File}
use Rattle.voy_disk.specs.Files.{bytes_now, length_of}
use Rattle.voy_disk.specs.Images.{bytes_in}
use Rattle.voy_export.specs.Ends.{SnapshotEnd, behind_rows, ends_with, past, refused, with_file, with_rows}
use Rattle.voy_export.specs.Names.{csv_file}
use Rattle.voy_export.specs.Snapshots.{Counts, ReadsRows, ReadsTable, Stops, StopsAtFile, StopsAtRows, StopsCounting}
use Rattle.voy_export.specs.declared.error.ExportError.{ExportError}
use Rattle.voy_export.specs.declared.error.ExportError.TheVariants as error
use Rattle.voy_export.specs.declared.error.Why.TheVariants.{Missing}
use Rattle.voy_export.specs.declared.limits.TheConstants.{MAX_CSV_BYTES}
use Rattle.voy_schema.specs.declared.table.Table.{Table}
use Rattle.voy_schema.specs.declared.value.Value.{Value}
use Rattle.voy_tables.specs.Readings.{recorded_rows}

-- a file as it reads now
abbrev now_of : Option File → Option (List ℕ)
now_of found = option_map (λ (file : File). file.now) found

pub length_told : (found : Option File) → option_map length (now_of found) ≡ length_of found
length_told None = refl
length_told (Some file) = refl

-- the bytes of a file that is there
pub bytes_told : (found : Option File) (bytes : List ℕ) → now_of found ≡ Some bytes → bytes_now found ≡ bytes
bytes_told None bytes is = cc
bytes_told (Some file) bytes is = cc

pub none_there : (found : Option File) (bytes : List ℕ) → found ≡ None → now_of found ≡ Some bytes → ⊥
none_there None bytes none is = cc
none_there (Some file) bytes none is = cc

pub some_found : {X : Type 0} (A : Type 0) (P : X → Type 0) (found : Option X) (x : X) → found ≡ Some x → MatchOption found A P → P x
some_found A P None x is holds = cc
some_found A P (Some y) x is holds = let same : y ≡ x = cc in subst P same holds

pub none_found : {X : Type 0} (A : Type 0) (P : X → Type 0) (found : Option X) → found ≡ None → MatchOption found A P → A
none_found A P None is holds = holds
none_found A P (Some y) is holds = cc

pub ok_on : {T E : Type 0} (result : Result T E) {P Q : T → Type 0} → ((x : T) → P x → Q x) → IfOk result P → IfOk result Q
ok_on (Ok x) on holds = on x holds
ok_on (Err e) on holds = tt

pub err_on : {T E : Type 0} (result : Result T E) {P Q : E → Type 0} → ((e : E) → P e → Q e) → IfErr result P → IfErr result Q
err_on (Ok x) on holds = tt
err_on (Err e) on holds = on e holds

-- ---- counted

over : (sum n : ℕ) → MAX_CSV_BYTES - sum < n → sum ≤ MAX_CSV_BYTES → nat_lt MAX_CSV_BYTES (sum + n) ≡ true
over sum n more few = grind (arith, nat_tests, more, few)

within : (sum n : ℕ) → n ≤ MAX_CSV_BYTES - sum → sum ≤ MAX_CSV_BYTES → nat_lt MAX_CSV_BYTES (sum + n) ≡ false
within sum n less few = grind (arith, nat_tests, less, few)

length_in : (file : Option (List ℕ)) → unwrap_or (option_map length file) 0 ≡ length (bytes_in file)
length_in None = refl
length_in (Some bytes) = refl

pub counts : (table : Table) (sum n : ℕ) (file : Option (List ℕ)) → n ≡ unwrap_or (option_map length file) 0 → n ≤ MAX_CSV_BYTES - sum → sum ≤ MAX_CSV_BYTES
    → Counts table sum file (sum + n)
counts table sum n file is less few = λ rest.
    let size : n ≡ length (bytes_in file) = is ∙ length_in file in
    let test : nat_lt MAX_CSV_BYTES (sum + length (bytes_in file)) ≡ false = subst (λ m. nat_lt MAX_CSV_BYTES (sum + m) ≡ false) size (within sum n less few) in
    rw test (ap (λ m. rest (sum + m)) (sym size))

pub stops_counting : (table : Table) (sum n : ℕ) (file : Option (List ℕ)) (name : List ℕ) → name ≡ csv_file table → n ≡ unwrap_or (option_map length file) 0
    → MAX_CSV_BYTES - sum < n → sum ≤ MAX_CSV_BYTES
    → StopsCounting table sum file (error.Limit name 0)
stops_counting table sum n file name named is more few = λ rest.
    let size : n ≡ length (bytes_in file) = is ∙ length_in file in
    let test : nat_lt MAX_CSV_BYTES (sum + length (bytes_in file)) ≡ true = subst (λ m. nat_lt MAX_CSV_BYTES (sum + m) ≡ true) size (over sum n more few) in
    rw test (ap (λ name. ends_with (past name 0)) (sym named))

-- ---- read

pub stops_missing : (table : Table) (sum : ℕ) (file : Option (List ℕ)) (name : List ℕ) → name ≡ csv_file table → None ≡ option_map length file
    → StopsAtFile table sum file (error.Refused name 0 Missing)
stops_missing table sum None name named is = λ rest. ap (λ name. ends_with (refused name 0 Missing)) (sym named)
stops_missing table sum (Some bytes) name named is = cc

pub stops_past : (table : Table) (sum n : ℕ) (file : Option (List ℕ)) (name : List ℕ) → name ≡ csv_file table → Some n ≡ option_map length file
    → MAX_CSV_BYTES - sum < n → sum ≤ MAX_CSV_BYTES
    → StopsAtFile table sum file (error.Limit name 0)
stops_past table sum n None name named is more few = cc
stops_past table sum n (Some bytes) name named is more few = λ rest.
    let size : n ≡ length bytes = cc in
    let test : nat_lt MAX_CSV_BYTES (sum + length bytes) ≡ true = subst (λ m. nat_lt MAX_CSV_BYTES (sum + m) ≡ true) size (over sum n more few) in
    rw test (ap (λ name. ends_with (past name 0)) (sym named))

-- behind a file that is within the limit
pub stops_at_rows : (table : Table) (sum n : ℕ) (file : Option (List ℕ)) (name : List ℕ) (failed : ExportError) → name ≡ csv_file table → Some n ≡ option_map length file
    → n ≤ MAX_CSV_BYTES - sum → sum ≤ MAX_CSV_BYTES → StopsAtRows table name file failed
    → StopsAtFile table sum file failed
stops_at_rows table sum n None name failed named is less few stops = cc
stops_at_rows table sum n (Some bytes) name failed named is less few stops = λ rest.
    let size : n ≡ length bytes = cc in
    let test : nat_lt MAX_CSV_BYTES (sum + length bytes) ≡ false = subst (λ m. nat_lt MAX_CSV_BYTES (sum + m) ≡ false) size (within sum n less few) in
    rw test (subst (λ name. Stops failed (with_rows name (recorded_rows table bytes) (rest (sum + length bytes)))) named (stops bytes refl (rest (sum + length bytes))))

pub reads_table : (table : Table) (sum n : ℕ) (file : Option (List ℕ)) (rows : List (List Value)) → Some n ≡ option_map length file
    → n ≤ MAX_CSV_BYTES - sum → sum ≤ MAX_CSV_BYTES → ReadsRows table file rows
    → ReadsTable table sum file rows (sum + n)
reads_table table sum n None rows is less few reads = cc
reads_table table sum n (Some bytes) rows is less few reads = record { read = rw whole refl; goes_on = goes_on } where
  whole : recorded_rows table bytes ≡ Ok rows
  whole = reads bytes refl

  size : n ≡ length bytes
  size = cc

  goes_on : (rest : ℕ → SnapshotEnd) → with_file table sum (Some bytes) rest ≡ behind_rows rows (rest (sum + n))
  goes_on rest =
      let test : nat_lt MAX_CSV_BYTES (sum + length bytes) ≡ false = subst (λ m. nat_lt MAX_CSV_BYTES (sum + m) ≡ false) size (within sum n less few) in
      rw (test, whole) (ap (λ m. behind_rows rows (rest (sum + m))) (sym size))
