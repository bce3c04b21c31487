-- The host has received the messages so far.
use Rattle.std.proofs.Common.{take}
use Rattle.zk_server.specs.Deeds.{HearsAll}
use Rattle.zk_server.proofs.mail.receive_all.Given as goal

abbrev pub invariant-loop-index : goal.invariant-loop-index
invariant-loop-index g l = HearsAll g.S.Storage.may_recover g.S.Storage.boots l.me (take l.index l.messages) l.fn.host l.host
