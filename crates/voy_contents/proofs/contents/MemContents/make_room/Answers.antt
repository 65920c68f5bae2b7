use Rattle.std.proofs.Common.{subst, sym, ◌∙◌}
use Rattle.voy_contents.proofs.ContentsLemmas.{room_for}
use Rattle.voy_contents.specs.Known.{known, schema_of}
use Rattle.voy_contents.specs.Tables.{lists_in, schema_in}
use Rattle.voy_txn.specs.TableNames.{NamesTables, is_in_channels, names_tables}
use Rattle.voy_contents.proofs.contents.MemContents.make_room.Goals as goal

pub make_room-requires-clause-names : goal.make_room-requires-clause-names
unfolding schema_of schema_in
make_room-requires-clause-names c = subst (λ n. NamesTables n c.args.txn.now) (sym c.args.self.now.sized) (names_tables c.args.self.now.tables.schema.tables c.args.txn.now c.requires)

pub make_room-requires-clause-channel : goal.make_room-requires-clause-channel
unfolding schema_of schema_in
make_room-requires-clause-channel c = is_in_channels c.args.self.now.tables.schema.tables c.args.txn.now c.requires

pub returns-clause-same : goal.returns-clause-same
unfolding known
returns-clause-same c = c.make_room.ensures.same (lists_in c.args.self.now.tables)

pub returns-clause-room : goal.returns-clause-room
unfolding schema_of schema_in
returns-clause-room c = room_for c.make_room.result c.args.txn.now _
    (subst (λ n. NamesTables n c.args.txn.now) (sym (c.make_room.ensures.sized ∙ c.args.self.now.sized)) (names_tables c.args.self.now.tables.schema.tables c.args.txn.now c.requires)) c.make_room.ensures.room
