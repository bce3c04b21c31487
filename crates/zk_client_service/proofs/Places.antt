-- The places of servers that are up.
use Rattle.std.proofs.Common.{◌≡◌, ◌∙◌, ◌<◌, ◌+◌, ◌-◌, ◌==◌, ◌&&◌, ℕ, zero, suc, Bool, true, false, List, [], ◌∷◌, length, set, get_or, slice_get, Option, Some, None, Result, Ok, Err, if◌then◌else◌, refl, sym, ap, arith}
use Rattle.std.proofs.lemmas.Bool.{false≢true}
use Rattle.zab_host.specs.declared.storage.StoreFault.{StoreFault}
use Rattle.zk_host.specs.declared.replica_host.ReplicaHost.{ReplicaHost}
use Rattle.zk_peers.specs.Peers.{has_quorum, host_at, host_of, is_led, is_leading_host, is_some_host, is_up_at, place_at}
use Rattle.zk_peers.specs.Places.{host_in, is_up, ChangesAt}
use Rattle.zk_peers.specs.declared.cut.Cut.{Cut}
use Rattle.zk_peers.specs.declared.fault.PeersFault.{PeersFault}
use Rattle.zk_peers.specs.declared.fault.PeersFault.TheVariants.{NoServer, Store}
use Rattle.zk_peers.specs.declared.place.Place.{Place}
use Rattle.zk_peers.specs.declared.place.Place.TheVariants.{Up, Down, Failed}

both_left : (a b : Bool) → (a && b) ≡ true → a ≡ true
both_left true b both = refl
both_left false b both = both

-- ---- lists

within : {X : Type 0} (xs : List X) (i : ℕ) (x : X) → Some x ≡ slice_get xs i → i < length xs
within [] zero x is = absurd cc
within [] (suc i) x is = absurd cc
within (y ∷ xs) zero x is = omega arith
within (y ∷ xs) (suc i) x is = let rest : i < length xs = within xs i x is in omega arith

read : {X : Type 0} (xs : List X) (i : ℕ) (x : X) → Some x ≡ slice_get xs i → x ≡ get_or xs i x
read [] zero x is = absurd cc
read [] (suc i) x is = absurd cc
read (y ∷ xs) zero x is = cc
read (y ∷ xs) (suc i) x is = read xs i x is

-- ---- one server

module _ {S : Type 0} where
  host_if : (zero : Bool) (found : Option (Place S)) → (if zero then None else host_of found) ≡ host_of (if zero then None else found)
  host_if true found = refl
  host_if false found = refl

  found_if : (zero : Bool) (found : Option (Place S)) (place : Place S) → Some place ≡ (if zero then None else found) → Some place ≡ found
  found_if true found place is = absurd cc
  found_if false found place is = is

  up_is : (place : Place S) → is_some_host (host_in place) ≡ is_up place
  up_is (Up host) = refl
  up_is (Down storage) = refl
  up_is Failed = refl

  module _ (places : List (Place S)) (server : ℕ) where
    host_is_of : host_at places server ≡ host_of (place_at places server)
    host_is_of = host_if (server == 0) (slice_get places (server - 1))

    -- a server that is up has a place
    pub up_has_place : is_up_at places server ≡ true → None ≡ place_at places server → ⊥
    up_has_place up none = false≢true (ap (λ (found : Option (Place S)). is_some_host (host_of found)) none ∙ (sym (ap is_some_host host_is_of) ∙ up))

    pub up_has_host : is_up_at places server ≡ true → None ≡ host_at places server → ⊥
    up_has_host up none = false≢true (ap is_some_host none ∙ up)

    -- which is up
    pub place_up : (place : Place S) → is_up_at places server ≡ true → Some place ≡ place_at places server → is_up place ≡ true
    place_up place up is =
        sym (up_is place) ∙ (ap (λ (found : Option (Place S)). is_some_host (host_of found)) is ∙ (sym (ap is_some_host host_is_of) ∙ up))

    -- another host in its place
    pub still_up : (place after : Place S) → Some place ≡ place_at places server → is_up after ≡ true → ChangesAt server (λ before it. is_up it ≡ true) places (set places (server - 1) after)
    still_up place after is up =
        let found : Some place ≡ slice_get places (server - 1) = found_if (server == 0) (slice_get places (server - 1)) place is in
        record { before = place; after = after; within = within places (server - 1) place found; is = read places (server - 1) place found; changes = up; others = refl }

  -- ---- the leader

  pub led_up : (cuts : List Cut) (places : List (Place S)) (leader : Option ℕ) (server : ℕ) → is_led cuts places leader ≡ true → leader ≡ Some server → is_up_at places server ≡ true
  led_up cuts places leader server led is =
      let by : is_led cuts places (Some server) ≡ true = sym (ap (is_led cuts places) is) ∙ led in
      both_left (is_up_at places server) _ (both_left (has_quorum cuts places server) (is_leading_host (host_at places server)) by)

  pub none_led : (cuts : List Cut) (places : List (Place S)) (leader : Option ℕ) → is_led cuts places leader ≡ true → leader ≡ None → ⊥
  none_led cuts places leader led is = false≢true (sym (ap (is_led cuts places) is) ∙ led)

-- ---- a server's number

pub known_server : (known : Bool) (given : PeersFault) (fault : StoreFault) → given ≡ Store fault → (known ≡ false → ◌≡◌ {A = Result (Unit {0}) PeersFault} (Err given) (Err NoServer)) → known ≡ true
known_server true given fault is unknown = refl
known_server false given fault is unknown = let not : ◌≡◌ {A = Result (Unit {0}) PeersFault} (Err given) (Err NoServer) = unknown refl in absurd cc
