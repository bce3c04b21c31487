-- No mail is left, and unserved clients are cut off.
use Rattle.std.proofs.Common.{◌≡◌, ◌∙◌, ◌||◌, Bool, true, false, nat_lt, List, [], length, sym, subst, arith}
use Rattle.std.proofs.lemmas.Bool.Decides.{nat_tests}
use Rattle.std.proofs.lemmas.List.{nil_from_length}
use Rattle.std.proofs.lemmas.Bool.{false≢true}
use Rattle.zk_client_service.specs.Ports.{Port}
use Rattle.zk_client_service.specs.Services.{unserved_cut_off, IsSettled}
use Rattle.zk_peers.specs.declared.peers.Peers.{Peers}

empty : {X : Type 0} (xs : List X) → nat_lt 0 (length xs) ≡ false → xs ≡ []
empty xs e = let none : length xs ≡ 0 = grind (arith, nat_tests) in nil_from_length xs none

or_right : (a b : Bool) → (a || b) ≡ false → b ≡ false
or_right false b neither = neither
or_right true b neither = absurd (false≢true (sym neither))

pub none_left : {X : Type 0} (waits has : Bool) (posted : List X) → has ≡ nat_lt 0 (length posted) → (waits || has) ≡ false → posted ≡ []
none_left waits has posted is neither = empty posted (sym is ∙ or_right waits has neither)

pub settles : {S : Type 0} (between new : Peers S) (before ports : List Port) → between.posted ≡ [] → new ≡ between → ports ≡ unserved_cut_off between.cuts.items between.places.items between.leader before → IsSettled new ports
settles between new before ports mail same cut = subst (λ (p : Peers _). IsSettled p ports) (sym same) (record { mail = mail; before = before; cut = cut })
