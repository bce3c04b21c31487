-- The host has received the mail so far.
use Rattle.std.proofs.Common.{take}
use Rattle.zk_peers.specs.Hosts.{setting_for, HearsAll}
use Rattle.zk_peers.specs.Links.{mail_for}
use Rattle.zk_peers.proofs.mail.receive_all.Given as goal

abbrev pub invariant-loop-index : goal.invariant-loop-index
invariant-loop-index g l = HearsAll g.S.Storage.may_recover g.S.Storage.boots (setting_for l.quorums.servers) (mail_for l.cuts l.server (take l.index l.mail)) l.fn.host l.host
