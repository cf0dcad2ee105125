use Rattle.std.proofs.Common.{sym, ◌∙◌}
use Rattle.load.proofs.Finishing.{no_room, has_room_lem}
use Rattle.load.proofs.finish.Goals as goal

pub clear_and_check-requires-clause-room : goal.clear_and_check-requires-clause-room
clear_and_check-requires-clause-room c = has_room_lem _ _ _ c.requires.record_bound.0 c.requires.record_bound.1 (sym c.has_room.ensures ∙ c.if-not-has_room.false)

pub returns-then-not-has_room-clause-value : goal.returns-then-not-has_room-clause-value
returns-then-not-has_room-clause-value c = no_room _ _ _ (sym c.has_room.ensures ∙ c.if-not-has_room.true)
