-- Which events a writer takes, as tests.
use Rattle.std.specs.Prelude.{◌+◌, Bool, ◌&&◌, ◌||◌, ◌==◌, not, nat_le, nat_lt, Option, Some, None}
use Rattle.voy_event.specs.Events.{is_change}
use Rattle.voy_event.specs.declared.event.Event.{Event}
use Rattle.voy_meta.specs.Allowed.{spot_follows}
use Rattle.voy_meta.specs.Sides.{is_role}
use Rattle.voy_meta.specs.declared.limits.TheConstants.{MAX_SEGMENT, MAX_VSN}
use Rattle.voy_queue.specs.declared.end.End.{End}
use Rattle.voy_tables.specs.declared.change.Role.{Role}
use Rattle.voy_tables.specs.declared.change.Spot.{Spot}

-- the next event, by this exporter, whose part is not ended
abbrev pub is_next : Role → End → Event → Bool
is_next role end event = (event.vsn == end.last_vsn + 1) && (nat_le event.vsn MAX_VSN && (is_role event.role role && not end.ended))

-- a segment is left for it
abbrev pub has_room : End → Bool
has_room end = nat_le end.number MAX_SEGMENT && (not end.closed || nat_lt end.number MAX_SEGMENT)

-- a place stands just with a change, and not in front of the last one
abbrev pub has_place : End → Event → Option Spot → Bool
has_place end event None = not (is_change event.what)
has_place end event (Some spot) = is_change event.what && spot_follows end.spot (Some spot)

abbrev pub takes : Role → End → Event → Option Spot → Bool
takes role end event spot = is_next role end event && (has_room end && has_place end event spot)
