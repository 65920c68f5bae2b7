-- Why a change of tables in memory was refused.
use Rattle.std.specs.Prelude.{◌≡◌, Option, Some}
use Rattle.voy_tables.specs.declared.change.Misfit.{Misfit}
use Rattle.voy_tables.specs.declared.change.PlainError.{PlainError}
use Rattle.voy_tables.specs.declared.change.PlainError.TheVariants as refused

-- for its misfit, or for want of memory, which says nothing of the change
abbrev pub IsRefused : Option Misfit → PlainError → Type 0
IsRefused found (refused.Misfit misfit) = found ≡ Some misfit
IsRefused found refused.NoMemory = Unit {0}
