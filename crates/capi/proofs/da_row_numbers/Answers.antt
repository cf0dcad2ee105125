use Rattle.capi.proofs.Room.{room_for_all}
use Rattle.capi.proofs.da_row_numbers.Goals as goal

pub returns-clause-room : goal.returns-clause-room
returns-clause-room c = room_for_all
