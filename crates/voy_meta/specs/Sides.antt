-- The fields of a state by side and by exporter. The source's exporter feeds the target's store, and the other way about.
use Rattle.std.specs.Prelude.{ℕ, ◌-◌, Bool, true, false, Option, length, slice_get}
use Rattle.voy_tables.specs.declared.change.Role.{Role}
use Rattle.voy_tables.specs.declared.change.Role.TheVariants as role
use Rattle.voy_tables.specs.declared.change.Side.{Side}
use Rattle.voy_tables.specs.declared.change.Side.TheVariants as side
use Rattle.voy_tables.specs.declared.change.Spot.{Spot}
use Rattle.voy_meta.specs.declared.state.MetaState.{MetaState}
use Rattle.voy_meta.specs.declared.state.SegmentState.{SegmentState}

-- the exporter whose events go into the store of this side
abbrev pub feeds : Side → Role
feeds side.Target = role.Source
feeds side.Source = role.Target

-- the side to which the cutover event of this exporter leads
abbrev pub leads_to : Role → Side
leads_to role.Source = side.Target
leads_to role.Target = side.Source

abbrev pub is_role : Role → Role → Bool
is_role role.Source role.Source = true
is_role role.Target role.Target = true
is_role a b = false

abbrev pub last_of : Role → MetaState → Option Spot
last_of role.Source state = state.last_source
last_of role.Target state = state.last_target

-- its part of the queue is ended: its cutover event is committed
abbrev pub is_ended : Role → MetaState → Bool
is_ended role.Source state = state.ended_source
is_ended role.Target state = state.ended_target

abbrev pub request_of : Side → MetaState → Option Bool
request_of side.Target state = state.request_target
request_of side.Source state = state.request_source

abbrev pub channels_of : Side → MetaState → Option ℕ
channels_of side.Target state = state.channels_target
channels_of side.Source state = state.channels_source

abbrev pub finished_of : Side → MetaState → Option ℕ
finished_of side.Target state = state.finished_target
finished_of side.Source state = state.finished_source

abbrev pub is_done : Side → MetaState → Bool
is_done side.Target state = state.done_target
is_done side.Source state = state.done_source

-- what is recorded of the last segment
abbrev pub last_segment : MetaState → Option SegmentState
last_segment state = slice_get state.segments (length state.segments - 1)
