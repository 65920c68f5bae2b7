use Rattle.voy_contents.proofs.TableListLemmas.{AreMadeTo}
use Rattle.voy_contents.proofs.changes.empty_tables.Given as goal

abbrev pub invariant-loop-table : goal.invariant-loop-table
invariant-loop-table l = AreMadeTo l.table-items l.table-index l.tables
