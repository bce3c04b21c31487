-- All whole frames that wait are taken.
use Rattle.std.proofs.Common.{◌≡◌, ◌+◌, ◌≤◌, ℕ, Bool, true, false, List, [], ◌∷◌, ◌++◌, length, map, Ok, Some, None, inl, inr, refl, sym, ap, ◌∙◌, append-nil, append_assoc, subst, arith, length-append}
use Rattle.std.proofs.lemmas.List.{map-append}
use Rattle.zab_frames.specs.Frames.{first_in, framed}
use Rattle.zab_frames.specs.Streams.{IsPartial}
use Rattle.zab_frames.proofs.FrameLaws.{length-framed}
use Rattle.zk_peer_links.specs.Links.{Adds, LinkView, TakesAll, TakesFrom, arrival_of}
use Rattle.zk_peer_links.specs.Packets.{Decodes, IsWrong, TakesFirst, contents_in, frame_in}
use Rattle.zk_peer_links.specs.declared.arrival.Arrival.{Arrival}
use Rattle.zk_peer_links.specs.declared.arrival.Arrival.TheVariants as arrivals
use Rattle.zk_peer_links.specs.declared.packet.Packet.{Packet}
use Rattle.zk_peer_links.proofs.Streams.{one_more}

-- `taken` frames are taken so far
pub record IsSoFar (line : ℕ) (rest : List ℕ) (before : List Arrival) (taken : ℕ) (next : List ℕ) (after : List Arrival) : Type 0 where
  pub its : List Packet
  pub decodes : Decodes rest [] its next
  pub arrives : after ≡ before ++ map (arrival_of line) its
  pub count : taken + length next ≤ length rest

pub takes_none : (line : ℕ) (rest : List ℕ) (before : List Arrival) → IsSoFar line rest before 0 rest before
takes_none line rest before = record {
  its = [];
  decodes = record { whole = append-nil rest; each = tt };
  arrives = sym (append-nil before);
  count = omega arith;
}

shorter : (rest next : List ℕ) (packet : Packet) → rest ≡ frame_in packet ++ next → length next + 1 ≤ length rest
shorter rest next packet whole = omega (arith, ap length whole, length-append (frame_in packet) next, length-framed (contents_in packet))

pub takes_more : (line : ℕ) (rest : List ℕ) (before : List Arrival) (taken : ℕ) (between next : List ℕ) (so_far after : List Arrival) (packet : Packet) → IsSoFar line rest before taken between so_far
    → TakesFirst between packet next → after ≡ so_far ++ arrival_of line packet ∷ [] → IsSoFar line rest before (taken + 1) next after
takes_more line rest before taken between next so_far after packet is first pushed = record {
  its = is.its ++ packet ∷ [];
  decodes = one_more rest [] is.its between packet next is.decodes first.whole first.has;
  arrives = pushed ∙ ap (λ (l : List Arrival). l ++ arrival_of line packet ∷ []) is.arrives ∙ append_assoc before (map (arrival_of line) is.its) (arrival_of line packet ∷ [])
      ∙ ap (λ (l : List Arrival). before ++ l) (sym (map-append (arrival_of line) is.its (packet ∷ [])));
  count = (let less = shorter between next packet first.whole in let sum = is.count in omega arith);
}

pub ends_waiting : (line : ℕ) (rest : List ℕ) (before : List Arrival) (taken : ℕ) (between left : List ℕ) (after : List Arrival) → IsSoFar line rest before taken between after → IsPartial between → left ≡ between
    → TakesAll line rest before true left after
ends_waiting line rest before taken between left after is partial same = record { its = is.its; next = between; decodes = is.decodes; arrives = is.arrives; ends = (partial, same) }

pub ends_wrong : (line : ℕ) (rest : List ℕ) (before : List Arrival) (taken : ℕ) (between left : List ℕ) (after : List Arrival) → IsSoFar line rest before taken between after → IsWrong between
    → TakesAll line rest before false left after
ends_wrong line rest before taken between left after is wrong = record { its = is.its; next = between; decodes = is.decodes; arrives = is.arrives; ends = wrong }

empty_waits : first_in [] ≡ Ok None
unfolding first_in
empty_waits = refl

no_bytes : (next : List ℕ) → length next ≡ 0 → next ≡ []
no_bytes [] is = refl
no_bytes (b ∷ next) is = absurd (omega arith)

-- each frame has a byte, so nothing is left
pub ends_whole : (line : ℕ) (rest : List ℕ) (before : List Arrival) (taken : ℕ) (next : List ℕ) (after : List Arrival) → IsSoFar line rest before taken next after → length rest ≤ taken
    → TakesAll line rest before true next after
ends_whole line rest before taken next after is whole =
    let none : length next ≡ 0 = (let sum = is.count in omega arith) in
    ends_waiting line rest before taken next next after is (ap first_in (no_bytes next none) ∙ empty_waits) refl

-- ---- bytes come, and then the frames are taken

pub takes_from : (line : ℕ) (bytes pushed : List ℕ) (link left : LinkView) (before after : List Arrival) (right : Bool) → pushed ≡ link.rest ++ bytes → left ≡ record link { rest = left.rest }
    → TakesAll line pushed before right left.rest after → TakesFrom line bytes link before right left after
takes_from line bytes pushed link left before after right came same takes = record {
  its = takes.its;
  next = takes.next;
  decodes = record { whole = sym came ∙ sym (append-nil pushed) ∙ takes.decodes.whole; each = takes.decodes.each };
  arrives = takes.arrives;
  ends = takes.ends;
  same = same;
}

-- ---- the connection afterwards

pub adds_right : (place line : ℕ) (bytes : List ℕ) (link left : LinkView) (before after : List Arrival) (ended : List ℕ) → TakesFrom line bytes link before true left after
    → Adds place line bytes (Some left) before after ended ended link
adds_right place line bytes link left before after ended takes = record {
  arrived = map (arrival_of line) takes.its;
  ended = [];
  brings = record {
    its = takes.its;
    rest = takes.next;
    decodes = takes.decodes;
    leaves = inl (takes.ends.0, (ap Some (takes.same ∙ ap (λ (l : List ℕ). record link { rest = l }) takes.ends.1), (refl, refl)));
  };
  arrives = takes.arrives;
  ends = sym (append-nil ended);
}

pub adds_wrong : (place line : ℕ) (bytes : List ℕ) (link left : LinkView) (before mid after : List Arrival) (ended ends : List ℕ) → TakesFrom line bytes link before false left mid
    → after ≡ mid ++ arrivals.Closed (place + 1) ∷ [] → ends ≡ ended ++ line ∷ [] → Adds place line bytes None before after ended ends link
adds_wrong place line bytes link left before mid after ended ends takes closes said = record {
  arrived = map (arrival_of line) takes.its ++ arrivals.Closed (place + 1) ∷ [];
  ended = line ∷ [];
  brings = record {
    its = takes.its;
    rest = takes.next;
    decodes = takes.decodes;
    leaves = inr (takes.ends, (refl, (refl, refl)));
  };
  arrives = closes ∙ ap (λ (l : List Arrival). l ++ arrivals.Closed (place + 1) ∷ []) takes.arrives ∙ append_assoc before (map (arrival_of line) takes.its) (arrivals.Closed (place + 1) ∷ []);
  ends = said;
}
