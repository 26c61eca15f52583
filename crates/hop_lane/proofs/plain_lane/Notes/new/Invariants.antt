use Rattle.hop_lane.proofs.plain_lane.Notes.new.Given as goal

abbrev pub ghosts-give_key : goal.ghosts-give_key
ghosts-give_key g a = record { key = record { mapper = a._mapper; reducer = a._reducer; board = g.S.Knowing.board a._seat.now } }
