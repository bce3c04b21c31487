-- The sessions that entries close.
use Rattle.std.proofs.Common.{◌≡◌, ◌≤◌, ◌<◌, ℕ, List, [], length, drop, ap, arith}
use Rattle.std.proofs.lemmas.List.{drop_all}
use Rattle.zab_epoch.specs.declared.history.Entry.{Entry}
use Rattle.zk_host.specs.Delivered.{closed_in}

-- a history of fewer entries has none after these
pub none_closed : (count : ℕ) (entries : List Entry) → length entries < count → closed_in (drop count entries) ≡ []
none_closed count entries fewer = ap closed_in (drop_all count entries (omega arith))
