-- The election has taken notice of the arrivals so far.
use Rattle.std.proofs.Common.{◌≡◌, take}
use Rattle.zk_server.specs.Elections.{after_arrivals}
use Rattle.zk_server.proofs.turn.note_all.Given as goal

abbrev pub invariant-loop-index : goal.invariant-loop-index
invariant-loop-index l = l.election ≡ after_arrivals (take l.index l.arrivals) l.fn.election
