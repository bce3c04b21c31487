-- The host has received the messages of the arrivals so far.
use Rattle.std.proofs.Common.{take}
use Rattle.zk_server.specs.Deeds.{HearsAll}
use Rattle.zk_server.specs.Mail.{mail_in}
use Rattle.zk_server.proofs.turn.receive_arrivals.Given as goal

abbrev pub invariant-loop-index : goal.invariant-loop-index
invariant-loop-index g l = HearsAll g.S.Storage.may_recover g.S.Storage.boots l.me (mail_in (take l.index l.arrivals)) l.fn.host l.host
