-- No notice so far is the best leader's.
use Rattle.std.proofs.Common.{◌≡◌, drop}
use Rattle.std.specs.Prelude.{find}
use Rattle.zk_server.specs.Elections.{is_best}
use Rattle.zk_server.proofs.election.best_in.Given as goal

abbrev pub invariant-loop-notice : goal.invariant-loop-notice
invariant-loop-notice l = find (is_best l.heard) (drop l.notice-index l.heard) ≡ find (is_best l.heard) l.heard
