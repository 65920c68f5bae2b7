use Rattle.std.proofs.Common.{◌≡◌, true, rules}
use Rattle.std.specs.Str.{bytes_eq}
use Rattle.voy_schema.specs.Reading.{is_column, names_of}
use Rattle.voy_schema.proofs.ReadingLemmas.{passes_at, position-some}
use Rattle.voy_schema.proofs.building.places_of.Goals as goal

pub unwrap-requires : goal.unwrap-requires
unwrap-requires c =
    let columns = c.args.columns.now in
    let name = c.name-item.result in
    let named : is_column columns name ≡ true =
    passes_at (is_column columns) c.args.key.now c.loop-name.name-index name c.requires.keyed c.loop-name-test.true c.name-item.is in
    let found = position-some (bytes_eq name) (names_of columns) named in
    rw (c.place_in.ensures, c.as_str.ensures, found) (search rules)
