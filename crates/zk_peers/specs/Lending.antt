-- What peers end as, where a place of theirs is borrowed.
use Rattle.std.specs.Prelude.{ℕ, ◌-◌, Option}
use Rattle.std.specs.Borrow.{LendsIf, Fml, RattleType, MutBor}
use Rattle.std.specs.Vec.{with_item}
use Rattle.zab_host.specs.declared.storage.Storage.{Ghosts}
use Rattle.zk_peers.specs.contracts.peers.Peers.{the_row}
use Rattle.zk_peers.specs.contracts.place.Place.{the_row as place_row}
use Rattle.zk_peers.specs.declared.peers.Peers.{Peers}
use Rattle.zk_peers.specs.declared.place.Place.{Place}

-- the peers with another place
abbrev pub with_place : {S : Type 0} → Peers S → ℕ → Place S → Peers S
with_place it server place = record it { places = with_item it.places (server - 1) place }

module _ (S : RattleType) (storage : Ghosts S.Denot) (it : MutBor (Peers S.Denot)) (server : ℕ) where
  -- the place ends as the last value that is written; without one, nothing is changed
  abbrev pub lends_place : Option (MutBor (Place S.Denot)) → Fml
  lends_place borrowed = LendsIf (the_row S storage) (place_row S storage) it borrowed (with_place it.now server) it.now
