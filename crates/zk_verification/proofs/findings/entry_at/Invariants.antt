-- The entries so far have other zxids.
use Rattle.std.proofs.Common.{◌≡◌, drop, find, map}
use Rattle.zk_directory.specs.Chains.{told}
use Rattle.zk_verification.specs.Findings.{has_zxid}
use Rattle.zk_verification.proofs.findings.entry_at.Given as goal

abbrev pub invariant-loop-entry : goal.invariant-loop-entry
invariant-loop-entry l = find (has_zxid l.zxid) (map told (drop l.entry-index l.taken)) ≡ find (has_zxid l.zxid) (map told l.taken)
