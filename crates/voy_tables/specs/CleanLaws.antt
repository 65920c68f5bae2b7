-- A change that fits clean tables leaves them clean.
use Rattle.std.specs.Prelude.{◌≡◌, ◌≢◌, Bool, true, false, List, Option, Some, if◌then◌else◌}
use Rattle.std.proofs.Common.{ap, refl, subst, sym, ◌∙◌}
use Rattle.std.proofs.lemmas.Bool.{false≢true}
use Rattle.voy_schema.specs.declared.table.Table.{Table}
use Rattle.voy_schema.specs.declared.value.Value.{Value}
use Rattle.voy_tables.specs.Changes.{RowChange, RowId}
use Rattle.voy_tables.specs.SameLaws.{same_row_id-decides}
use Rattle.voy_tables.specs.Tables.{Fits, IsClean, Tables, do_change, same_row_id, tuple_in}

pub change_keeps_clean : (schema : List Table) (c : RowChange) (tables : Tables) → IsClean schema tables → Fits schema c tables → IsClean schema (do_change c tables)
change_keeps_clean schema c tables clean fits p q unique values same_table has_p has_q =
    by (same_row_id p c.row) refl (same_row_id q c.row) refl has_p has_q
  where
    at : Bool → RowId → Option (List Value)
    at b id = if b then c.after else tables id

    here : (id : RowId) → same_row_id id c.row ≡ true → id ≡ c.row
    here id h = (same_row_id-decides id c.row).0 h

    elsewhere : (id : RowId) → same_row_id id c.row ≡ false → id ≢ c.row
    elsewhere id h e = false≢true (sym h ∙ (same_row_id-decides id c.row).1 e)

    new_and_old : (new old : RowId) → same_row_id new c.row ≡ true → same_row_id old c.row ≡ false → old.table ≡ new.table
        → tuple_in schema new.table unique c.after ≡ Some values → tuple_in schema old.table unique (tables old) ≡ Some values → ⊥
    new_and_old new old is other same has_new has_old =
        let new_table : new.table ≡ c.row.table = ap (λ (r : RowId). r.table) (here new is) in
        fits.unique old unique values (same ∙ new_table) (elsewhere old other)
        (subst (λ t. tuple_in schema t unique c.after ≡ Some values) new_table has_new) has_old

    by : (bp : Bool) → same_row_id p c.row ≡ bp → (bq : Bool) → same_row_id q c.row ≡ bq
        → tuple_in schema p.table unique (at bp p) ≡ Some values → tuple_in schema q.table unique (at bq q) ≡ Some values → p ≡ q
    by true ip true iq hp hq = here p ip ∙ sym (here q iq)
    by true ip false iq hp hq = absurd (new_and_old p q ip iq (sym same_table) hp hq)
    by false ip true iq hp hq = absurd (new_and_old q p iq ip same_table hq hp)
    by false ip false iq hp hq = clean p q unique values same_table hp hq
