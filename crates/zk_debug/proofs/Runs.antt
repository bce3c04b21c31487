-- A run that has reached a place, without a match on the way.
use Rattle.std.proofs.Common.{◌≡◌, ℕ, ◌<◌, ◌≤◌, false, length, None}
use Rattle.zk_debug.specs.Debugging.{Debugging, hit_at, moved}
use Rattle.zk_debug.specs.declared.stop.Stop.{Stop}

pub record RunsOn (d : Debugging) (began : ℕ) (now : Debugging) (stop : Stop) : Type 0 where
  pub running : d.failed ≡ false
  pub from : began ≡ d.place
  pub moved : now ≡ moved d stop.place
  pub above : d.place < stop.place
  pub within : stop.place ≤ length d.txns
  pub hit : stop.hit ≡ hit_at d stop.place
  pub skips : (place : ℕ) → d.place < place → place < stop.place → hit_at d place ≡ None

pub record RunsDown (d : Debugging) (began : ℕ) (now : Debugging) (stop : Stop) : Type 0 where
  pub running : d.failed ≡ false
  pub from : began ≡ d.place
  pub moved : now ≡ moved d stop.place
  pub within : d.place ≤ length d.txns
  pub below : stop.place < d.place
  pub hit : stop.hit ≡ hit_at d stop.place
  pub skips : (place : ℕ) → stop.place < place → place < d.place → hit_at d place ≡ None
