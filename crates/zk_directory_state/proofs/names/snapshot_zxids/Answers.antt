use Rattle.std.proofs.Common.{subst}
use Rattle.std.specs.List.Sorted.{IsPermutation}
use Rattle.zk_directory_state.proofs.names.snapshot_zxids.Goals as goal

pub returns : goal.returns
returns c = record { same = subst (λ xs. IsPermutation xs c.sort_unstable.new.self.items) c.in_ok-zxids.ensures c.sort_unstable.ensures.permutation; rising = c.sort_unstable.ensures.sorted }
