-- What the seat of a lane knows.
use Rattle.hop_lane.specs.declared.plain_lane.Log.{Log}
use Rattle.hop_inner.specs.Lines.{Key}

-- the lane's key, by the parts that the seat has
abbrev pub key_in : {T : Type 0} → Log T → Key
key_in log = record { mapper = log.mapper; reducer = log.reducer; board = log.board }
