-- Links between servers, and the messages that arrive over them.
use Rattle.std.specs.Prelude.{ℕ, ◌==◌, ◌&&◌, ◌||◌, ◌++◌, if◌then◌else◌, Bool, not, List, [], ◌∷◌, filter, Option, Some, None}
use Rattle.std.specs.List.{list_any}
use Rattle.zab_epoch.specs.declared.message.Message.{Message}
use Rattle.zk_peers.specs.declared.cut.Cut.{Cut}
use Rattle.zk_requests.specs.declared.call.Call.{Call}

-- the link between these servers, in either direction
abbrev pub joins : ℕ → ℕ → Cut → Bool
joins one other cut =
    ((cut.one == one) && (cut.other == other)) || ((cut.one == other) && (cut.other == one))

abbrev pub is_cut : List Cut → ℕ → ℕ → Bool
is_cut cuts one other = list_any (joins one other) cuts

-- with the link cut, once
abbrev pub with_cut : ℕ → ℕ → List Cut → List Cut
with_cut one other cuts =
    if is_cut cuts one other then cuts else cuts ++ record { one = one; other = other } ∷ []

-- a message is addressed to this server, and its link is not cut
abbrev pub arrives : List Cut → ℕ → Message Call → Bool
arrives cuts server message = (message.addressee == server) && not (is_cut cuts message.sender server)

-- the messages that a server receives, in the order in which they were sent
abbrev pub mail_for : List Cut → ℕ → List (Message Call) → List (Message Call)
mail_for cuts server mail = filter (arrives cuts server) mail

abbrev pub listed : {A : Type 0} → Option A → List A
listed None = []
listed (Some x) = x ∷ []
