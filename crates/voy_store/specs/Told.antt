-- What a told history says of the contents.
use Rattle.std.specs.Prelude.{List, Option, Some, None}
use Rattle.voy_schema.specs.declared.table.Table.{Table}
use Rattle.voy_txn.specs.Contents.{Contents, contents_of}
use Rattle.voy_txn.specs.History.{History}

-- the contents of the history where it is told, and else these
abbrev pub told_contents : List Table → Option History → Contents → Contents
told_contents schema None contents = contents
told_contents schema (Some history) contents = contents_of schema history
