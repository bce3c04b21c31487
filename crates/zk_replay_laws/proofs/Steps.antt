-- Replaying a change keeps a draft seen.
use Rattle.std.proofs.Common.{List, ◌∷◌}
use Rattle.zk_table.specs.States.{NodeMap}
use Rattle.zk_replay.specs.Drafts.{DraftMap}
use Rattle.zk_replay_laws.specs.Histories.{Closings}
use Rattle.zk_replay_laws.proofs.Changes.{Change, Makes, Deletes, Writes, Guards, applied, replayed}
use Rattle.zk_replay_laws.proofs.Timelines.{IsHistory}
use Rattle.zk_replay_laws.proofs.Removals.{IsDraftTree}
use Rattle.zk_replay_laws.proofs.Simulation.{AllSeen}
use Rattle.zk_replay_laws.proofs.Making.{makes_step}
use Rattle.zk_replay_laws.proofs.Deleting.{deletes_step}
use Rattle.zk_replay_laws.proofs.Writing.{writes_step}
use Rattle.zk_replay_laws.proofs.Guarding.{guards_step}

pub step_seen : (closings : Closings) (m : NodeMap) (c : Change) (cs : List Change) → IsHistory m (c ∷ cs) → (d : DraftMap) → IsDraftTree d → AllSeen closings m (c ∷ cs) d → AllSeen closings (applied m c) cs (replayed d c) × IsDraftTree (replayed d c)
step_seen closings m (Makes zxid path above node count) cs h d tree seen = makes_step closings m zxid path above node count cs h.taken.0 h d tree seen
step_seen closings m (Deletes zxid path above) cs h d tree seen = deletes_step closings m zxid path above cs h.taken.0 h d tree seen
step_seen closings m (Writes txn path content version) cs h d tree seen = writes_step closings m txn path content version cs h.taken.0 h d tree seen
step_seen closings m (Guards zxid path acl version) cs h d tree seen = guards_step closings m zxid path acl version cs h.taken.0 h d tree seen
