use Rattle.voy_queue.proofs.JoinedShelves.{puts_join, reads_alike, records_with, room_goes_on, room_is_there, stands_alike_with, stands_as_in_turn, stands_as_itself, stands_as_turned}
use Rattle.voy_queue.proofs.laws.puts_join.Goals as goal

pub returns : goal.returns
returns c = record {
  join = puts_join;
  alike = stands_alike_with;
  itself = stands_as_itself;
  turned = stands_as_turned;
  turn = stands_as_in_turn;
  reads = reads_alike;
  room = room_is_there;
  more_room = room_goes_on;
  records = records_with;
}
