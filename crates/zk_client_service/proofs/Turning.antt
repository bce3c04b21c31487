-- Servers in turn, and rounds.
use Rattle.std.proofs.Common.{◌≡◌, ◌∙◌, ◌+◌, ◌-◌, ◌<◌, ◌||◌, ℕ, ℤ, zero, suc, Bool, true, false, List, length, set, get_or, slice_get, Some, Result, Ok, Err, IfOk, OnOk, refl, sym, ap, subst}
use Rattle.zab_epoch.specs.declared.stable.Stable.{Stable}
use Rattle.zab_broadcast.specs.Calls.{Setting}
use Rattle.zk_client_port.specs.declared.admission.Admission.{Admission}
use Rattle.zk_client_port.specs.declared.client_port.ClientPort.{ClientPort}
use Rattle.zk_client_port.specs.declared.client_port.Turned.{Turned}
use Rattle.zk_client_port.specs.declared.execution.Moment.{Moment}
use Rattle.zk_client_service.proofs.Changing.{at_index, got, ports_set}
use Rattle.zk_client_service.proofs.Places.{still_up}
use Rattle.zk_client_service.specs.Ensembles.{Ensemble, moment_at}
use Rattle.zk_client_service.specs.Expiries.{touching, Closes, ClosesAt, ClosesUp}
use Rattle.zk_client_service.specs.Ports.{Port, at_server, port_of, ports_of}
use Rattle.zk_client_service.specs.Rounds.{served_by, FirstTurn, ReceivesTo, Round, Rounds, TurnsHostTo, TurnsPlace, TurnsPort, TurnsTo}
use Rattle.zk_host.specs.declared.host_fault.ReleaseFault.{ReleaseFault}
use Rattle.zk_host.specs.declared.replica_host.ReplicaHost.{ReplicaHost}
use Rattle.zk_peers.specs.Hosts.{setting_for}
use Rattle.zk_peers.specs.Peers.{place_at, SameAround}
use Rattle.zk_peers.specs.Places.{is_up, ChangesAt}
use Rattle.zk_peers.specs.declared.place.Place.{Place}
use Rattle.zk_peers.specs.declared.place.Place.TheVariants.{Up}
use Rattle.zk_requests.specs.declared.call.Call.{Call}

module _ {S : Type 0} (may_recover : S → Stable → Type 0) (boots : S → ℕ) (now : ℤ) where
  pub none_turned : (it : Ensemble S) → FirstTurn may_recover boots zero now it it false
  none_turned it = (refl, refl)

  pub one_more : (servers : ℕ) (old between middle new : Ensemble S) (before one : Bool) → FirstTurn may_recover boots servers now old between before
      → ReceivesTo may_recover boots (servers + 1) between middle → TurnsTo may_recover boots (servers + 1) now middle new one
      → FirstTurn may_recover boots (suc servers) now old new (one || before)
  one_more servers old between middle new before one first receives turns = (between, middle, before, one, first, receives, turns, refl)

  pub no_round : (it : Ensemble S) → Rounds may_recover boots zero now it it
  no_round it = refl

  pub round_more : (rounds : ℕ) (old between new : Ensemble S) → Rounds may_recover boots rounds now old between → Round may_recover boots now between new true
      → Rounds may_recover boots (suc rounds) now old new
  round_more rounds old between new first next = (between, first, next)

-- ---- a host in its place

-- of a server whose place and port are these
module _ {S : Type 0} (server index : ℕ) (now : ℤ) (old new : Ensemble S) (place after : Place S) (ports : List ClientPort) (port next : ClientPort) (moment : Moment) (servers : ℕ)
    (is : Some place ≡ place_at old.peers.places.items server) (moment_is : moment ≡ moment_at server now old) (servers_are : servers ≡ length old.peers.places.items)
    (ports_are : old.ports ≡ ports_of ports) (inside : index < length ports) (above : 0 < server) (index_is : index ≡ server - 1) (read : port ≡ get_or ports index port)
    (places_then : new.peers.places.items ≡ set old.peers.places.items (server - 1) after) (ports_then : new.ports ≡ ports_of (set ports index next))
    (leader : new.peers.leader ≡ old.peers.leader) (around : SameAround old.peers new.peers) (rest : (new.opened ≡ old.opened) × (new.stops ≡ old.stops)) where
  port_is : at_server old.ports server ≡ Some (port_of port)
  port_is = sym (at_index old.ports index server above index_is) ∙ (ap (λ (its : List Port). slice_get its index) ports_are ∙ got ports index port inside read)

  ports_set_at : new.ports ≡ set old.ports (server - 1) (port_of next)
  ports_set_at =
      ports_then ∙ (ports_set ports index next ∙ (ap (λ (at : ℕ). set (ports_of ports) at (port_of next)) index_is
      ∙ ap (λ (its : List Port). set its (server - 1) (port_of next)) (sym ports_are)))

  pub turns_host : (result : Result Turned ReleaseFault) → TurnsPlace (setting_for servers) moment place (port_of port) old.admission after (port_of next) new.admission result
      → TurnsHostTo server now old new result
  turns_host (Ok turned) it =
      let counted = subst (λ (n : ℕ). TurnsPort (setting_for n) moment (served_by it.host (port_of port) old.admission) (served_by it.host_then (port_of next) new.admission) turned.displaced.items) servers_are it.turns in
      record {
        host = it.host;
        host_then = it.host_then;
        port = port_of port;
        port_then = port_of next;
        host_is = ap (λ (found : Place S). Some found) (sym it.was) ∙ is;
        port_is = port_is;
        turns = subst (λ (at : Moment). TurnsPort (setting_for (length old.peers.places.items)) at (served_by it.host (port_of port) old.admission) (served_by it.host_then (port_of next) new.admission) turned.displaced.items) moment_is counted;
        sent = it.sent;
        places = places_then ∙ ap (λ (found : Place S). set old.peers.places.items (server - 1) found) it.is;
        leader_is = leader;
        around = around;
        ports = ports_set_at;
        rest = rest;
      }
  turns_host (Err fault) it = record {
    fails = record {
      fails = subst (λ (its : List (Place S)). ChangesAt server (λ before found. is_up found ≡ true) old.peers.places.items its) (sym places_then) (still_up old.peers.places.items server place after is (ap is_up it.1));
      leader_is = leader;
      around = around;
    };
    port = port_of next;
    ports = ports_set_at;
    rest = rest;
  }

pub closes_at : {S : Type 0} (server : ℕ) (now : ℤ) (sessions : List ℤ) (old new : Ensemble S) (place after : Place S) (servers : ℕ) → Some place ≡ place_at old.peers.places.items server
    → servers ≡ length old.peers.places.items → ClosesUp (setting_for servers) now sessions place after → new.peers.places.items ≡ set old.peers.places.items (server - 1) after
    → new.peers.leader ≡ old.peers.leader → SameAround old.peers new.peers → new.admission ≡ touching now sessions old.admission → (new.ports ≡ old.ports) × ((new.opened ≡ old.opened) × (new.stops ≡ old.stops))
    → ClosesAt server now sessions old new
closes_at {S} server now sessions old new place after servers is servers_are closes places leader around admission rest = record {
  host = closes.host;
  host_then = closes.host_then;
  host_is = ap (λ (found : Place S). Some found) (sym closes.was) ∙ is;
  closes = subst (λ (n : ℕ). Closes (setting_for n) now sessions closes.host closes.host_then) servers_are closes.closes;
  places = places ∙ ap (λ (found : Place S). set old.peers.places.items (server - 1) found) closes.is;
  leader_is = leader;
  around = around;
  admission = admission;
  rest = rest;
}

-- ---- a place's turn

pub turns_place : {S : Type 0} (setting : Setting Call) (moment : Moment) (old new : Place S) (host host_then : ReplicaHost S) (port next : Port) (admission after : Admission) → old ≡ Up host → new ≡ Up host_then
    → (result : Result Turned ReleaseFault) → IfOk result (λ it. TurnsPort setting moment (served_by host port admission) (served_by host_then next after) it.displaced.items)
    → IfOk result (λ it. it.messages ≡ host.host.outbox) → TurnsPlace setting moment old port admission new next after result
turns_place setting moment old new host host_then port next admission after was is (Ok turned) turns sent = record { host = host; was = was; host_then = host_then; is = is; turns = turns; sent = sent }
turns_place setting moment old new host host_then port next admission after was is (Err fault) turns sent = (host_then, is)

-- ---- results

pub if_ok : {X E P : Type 0} (Q R : X → Type 0) (result : Result X E) → OnOk result P → IfOk result Q → ((x : X) → P → Q x → R x) → IfOk result R
if_ok Q R (Ok x) first second then = then x first second
if_ok Q R (Err e) first second then = tt
