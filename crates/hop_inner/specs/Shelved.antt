-- A shelf as the value under a lock.
use Rattle.hop_shelf.specs.Sound.{ShelfValue}
use Rattle.hop_machine.specs.step.Steps.{Value}

-- its history, and the marks whose cuts are due
abbrev pub value_of : ShelfValue → Value
value_of s = record { events = s.journal.events; due = s.journal.due }
