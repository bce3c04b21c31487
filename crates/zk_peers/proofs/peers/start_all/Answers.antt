-- One more server has started.
use Rattle.std.proofs.Common.{rules, ◌≡◌, ◌∷◌, [], ℕ, List, length, subst}
use Rattle.std.specs.Vec.Iter.{into_iter_items}
use Rattle.std.proofs.lemmas.List.{nil_from_length}
use Rattle.zk_peers.specs.Peers.{StartsNext}
use Rattle.zk_peers.proofs.Starting.{next, as_many, last}
use Rattle.zk_peers.proofs.peers.start_all.Goals as goal

pub loop-storage-preserved : goal.loop-storage-preserved
loop-storage-preserved g c =
    let S = g.row.S.Denot in
    let may_recover = g.S.Storage.may_recover in
    let boots = g.S.Storage.boots in
    let clean = g.S.Storage.is_clean in
    let all : List S = c.args.storages.items in
    let storage : S = c.in-Some.storage in
    let pending : List S = into_iter_items c.loop-storage.storage-iterator in
    let rest : List S = into_iter_items c.next.new.self in
    let places = c.loop-storage.places.items in
    let new = c.start_next.new.places.items in
    let step : pending ≡ storage ∷ rest = search rules in
    let servers : c.len-servers.result ≡ length all = search rules in
    let it = subst (λ (n : ℕ). StartsNext clean may_recover boots n storage places new) servers c.in_ok-start_next.ensures in
    record {
      started = next clean may_recover boots (length all) all pending rest storage places new step c.loop-storage.invariant.started it;
      number = as_many clean may_recover boots (length all) storage places new pending rest (length all) it step c.loop-storage.invariant.number;
    }

pub returns : goal.returns
returns g c =
    let S = g.row.S.Denot in
    let all : List S = c.args.storages.items in
    let pending : List S = into_iter_items c.loop-storage.storage-iterator in
    let none : pending ≡ [] = nil_from_length pending (search (rules, c.in-None.ensures.steps.0)) in
    last g.S.Storage.is_clean g.S.Storage.may_recover g.S.Storage.boots (length all) all pending c.loop-storage.places.items none c.loop-storage.invariant.started
