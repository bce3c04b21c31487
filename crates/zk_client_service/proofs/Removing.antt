-- The watches of connections that have ended, and the stores of servers that do not run.
use Rattle.std.proofs.Common.{◌≡◌, ◌∙◌, ◌-◌, ℕ, List, [], set, Option, Some, None, ap}
use Rattle.zk_client_port.specs.Ports.{numbers_over}
use Rattle.zk_client_service.specs.Ports.{Port, at_server, connections_in, over_at}
use Rattle.zk_client_service.specs.Services.{place_after, place_put, place_set, place_with, places_after, places_with}
use Rattle.zk_peers.specs.Peers.{place_at}
use Rattle.zk_peers.specs.declared.place.Place.{Place}

module _ {S : Type 0} (numbers : List ℕ) (server : ℕ) (places : List (Place S)) where
  pub closed : (place after : Place S) → Some place ≡ place_at places server → after ≡ place_after numbers place → set places (server - 1) after ≡ places_after numbers server places
  closed place after is closes =
      ap (λ (p : Place S). set places (server - 1) p) closes ∙ ap (λ (p : Option (Place S)). place_set numbers (server - 1) p places) is

  pub none_closed : None ≡ place_at places server → places ≡ places_after numbers server places
  none_closed is = ap (λ (p : Option (Place S)). place_set numbers (server - 1) p places) is

module _ {S : Type 0} (storage : Option S) (server : ℕ) (places : List (Place S)) where
  pub placed : (place after : Place S) → Some place ≡ place_at places server → after ≡ place_with storage place → set places (server - 1) after ≡ places_with storage server places
  placed place after is puts =
      ap (λ (p : Place S). set places (server - 1) p) puts ∙ ap (λ (p : Option (Place S)). place_put storage (server - 1) p places) is

  pub none_placed : None ≡ place_at places server → places ≡ places_with storage server places
  none_placed is = ap (λ (p : Option (Place S)). place_put storage (server - 1) p places) is

-- ---- a server without a port has no connections

pub none_over : (server : ℕ) (ports : List Port) → at_server ports server ≡ None → over_at ports server ≡ []
none_over server ports none = ap (λ (port : Option Port). numbers_over (connections_in port)) none
