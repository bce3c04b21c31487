-- A server's links, by place: the one to server 1 is first. What arrives on them in a turn.
use Rattle.std.specs.Prelude.{◌≡◌, ◌⊎◌, ℕ, ◌+◌, ◌-◌, ◌<◌, ◌==◌, ◌&&◌, not, nat_lt, nat_le, Bool, true, false, List, [], ◌∷◌, ◌++◌, length, map, set, get_or, Option, Some, None, if◌then◌else◌}
use Rattle.zab_frames.specs.Streams.{IsPartial}
use Rattle.zk_peer_links.specs.Packets.{Decodes, IsWrong}
use Rattle.zk_peer_links.specs.declared.arrival.Arrival.{Arrival}
use Rattle.zk_peer_links.specs.declared.arrival.Arrival.TheVariants as arrivals
use Rattle.zk_peer_links.specs.declared.link_input.LinkInput.{LinkInput}
use Rattle.zk_peer_links.specs.declared.link_input.LinkInput.TheVariants as inputs
use Rattle.zk_peer_links.specs.declared.notice.Notice.{Notice}
use Rattle.zk_peer_links.specs.declared.packet.Packet.{Packet}
use Rattle.zk_peer_links.specs.declared.packet.Packet.TheVariants as packets

-- a connection to a peer: its number, the bytes of a frame that is not whole, and the last notice that
-- was written
pub record LinkView : Type 0 where
  pub number : ℕ
  pub rest : List ℕ
  pub told : Option Notice

abbrev pub new_link : ℕ → LinkView
new_link number = record { number = number; rest = []; told = None }

abbrev pub link_at : List (Option LinkView) → ℕ → Option LinkView
link_at links place = get_or links place None

abbrev pub has_number : ℕ → Option LinkView → Bool
has_number number None = false
has_number number (Some link) = link.number == number

-- the first link with the number is at the place
pub record IsAt (number : ℕ) (links : List (Option LinkView)) (place : ℕ) : Type 0 where
  pub within : place < length links
  pub has : has_number number (link_at links place) ≡ true
  pub first : (k : ℕ) → k < place → has_number number (link_at links k) ≡ false

abbrev pub IsNowhere : ℕ → List (Option LinkView) → Type 0
IsNowhere number links = (k : ℕ) → k < length links → has_number number (link_at links k) ≡ false

-- ---- what is heard

-- the links, what has arrived on them so far, and the connections that are to be ended
pub record Hearing : Type 0 where
  pub links : List (Option LinkView)
  pub arrivals : List Arrival
  pub ended : List ℕ

abbrev pub hearing : List (Option LinkView) → List Arrival → List ℕ → Hearing
hearing links arrived ended = record { links = links; arrivals = arrived; ended = ended }

abbrev pub number_of : Option LinkView → List ℕ
number_of None = []
number_of (Some link) = link.number ∷ []

-- a new connection ends the earlier one of its place
abbrev pub opened : ℕ → ℕ → Hearing → Hearing
opened place line it =
    hearing (set it.links place (Some (new_link line))) (it.arrivals ++ arrivals.Closed (place + 1) ∷ [])
    (it.ended ++ number_of (link_at it.links place))

abbrev pub unwanted : ℕ → Hearing → Hearing
unwanted line it = hearing it.links it.arrivals (it.ended ++ line ∷ [])

-- no connection is left
abbrev pub none_of : List (Option LinkView) → List (Option LinkView)
none_of links = map (λ link. None) links

-- the number of another server
abbrev pub is_peer : ℕ → ℕ → ℕ → Bool
is_peer me servers peer = nat_lt 0 peer && (nat_le peer servers && not (peer == me))

abbrev pub opens : ℕ → ℕ → ℕ → Hearing → Hearing
opens me peer line it = if is_peer me (length it.links) peer then opened (peer - 1) line it else unwanted line it

abbrev pub closed : ℕ → Hearing → Hearing
closed place it = hearing (set it.links place None) (it.arrivals ++ arrivals.Closed (place + 1) ∷ []) it.ended

abbrev pub arrival_of : ℕ → Packet → Arrival
arrival_of line (packets.Message message) = arrivals.Mail line (message ∷ [])
arrival_of line (packets.Notice notice) = arrivals.Notice notice
arrival_of line (packets.Session notice) = arrivals.Session notice

-- what waits after these frames: no whole frame; or the first one is wrong
abbrev pub Ends : Bool → List ℕ → List ℕ → Type 0
Ends true next left = IsPartial next × (left ≡ next)
Ends false next left = IsWrong next

-- all whole frames that wait are taken, up to a wrong one
pub record TakesAll (line : ℕ) (rest : List ℕ) (before : List Arrival) (right : Bool) (left : List ℕ) (after : List Arrival) : Type 0 where
  pub its : List Packet
  pub next : List ℕ
  pub decodes : Decodes rest [] its next
  pub arrives : after ≡ before ++ map (arrival_of line) its
  pub ends : Ends right next left

-- a connection takes bytes
pub record TakesFrom (line : ℕ) (bytes : List ℕ) (link : LinkView) (before : List Arrival) (right : Bool) (left : LinkView) (after : List Arrival) : Type 0 where
  pub its : List Packet
  pub next : List ℕ
  pub decodes : Decodes link.rest bytes its next
  pub arrives : after ≡ before ++ map (arrival_of line) its
  pub ends : Ends right next left.rest
  pub same : left ≡ record link { rest = left.rest }

-- the connection after bytes, what arrives, and whether it is to be ended: a wrong frame ends it
abbrev pub Leaves : ℕ → ℕ → LinkView → List Packet → List ℕ → Option LinkView → List Arrival → List ℕ → Type 0
Leaves place line link its rest left arrived ended =
    (IsPartial rest × ((left ≡ Some (record link { rest = rest })) × ((arrived ≡ map (arrival_of line) its) × (ended ≡ []))))
    ⊎ (IsWrong rest × ((left ≡ None) × ((arrived ≡ map (arrival_of line) its ++ arrivals.Closed (place + 1) ∷ []) × (ended ≡ line ∷ []))))

pub record BringsTo (place line : ℕ) (bytes : List ℕ) (link : LinkView) (left : Option LinkView) (arrived : List Arrival) (ended : List ℕ) : Type 0 where
  pub its : List Packet
  pub rest : List ℕ
  pub decodes : Decodes link.rest bytes its rest
  pub leaves : Leaves place line link its rest left arrived ended

-- the connection at a place has brought bytes
pub record Brings (place line : ℕ) (bytes : List ℕ) (old new : Hearing) : Type 0 where
  pub link : LinkView
  pub is : link_at old.links place ≡ Some link
  pub left : Option LinkView
  pub arrived : List Arrival
  pub ended : List ℕ
  pub brings : BringsTo place line bytes link left arrived ended
  pub now : new ≡ hearing (set old.links place left) (old.arrivals ++ arrived) (old.ended ++ ended)

pub record Adds (place line : ℕ) (bytes : List ℕ) (left : Option LinkView) (before after : List Arrival) (ended_before ended_after : List ℕ) (link : LinkView) : Type 0 where
  pub arrived : List Arrival
  pub ended : List ℕ
  pub brings : BringsTo place line bytes link left arrived ended
  pub arrives : after ≡ before ++ arrived
  pub ends : ended_after ≡ ended_before ++ ended

-- one input; what comes on a connection that is not open is dropped
abbrev pub Hears : ℕ → LinkInput → Hearing → Hearing → Type 0
Hears me (inputs.Opened peer line) old new = new ≡ opens me peer line old
Hears me (inputs.Brought line bytes) old new =
    ((place : ℕ) × (IsAt line old.links place × Brings place line bytes old new))
    ⊎ (IsNowhere line old.links × (new ≡ old))
Hears me (inputs.Closed line) old new =
    ((place : ℕ) × (IsAt line old.links place × (new ≡ closed place old)))
    ⊎ (IsNowhere line old.links × (new ≡ old))
Hears me inputs.Lead old new = new ≡ hearing old.links (old.arrivals ++ arrivals.Lead ∷ []) old.ended

abbrev pub HearsAll : ℕ → List LinkInput → Hearing → Hearing → Type 0
HearsAll me [] old new = new ≡ old
HearsAll me (input ∷ its) old new = (mid : Hearing) × (Hears me input old mid × HearsAll me its mid new)
