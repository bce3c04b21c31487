-- What comes on a server's connections as bytes is what comes on them as messages.
use Rattle.std.proofs.Common.{◌≡◌, ◌≢◌, ◌⊎◌, ◌<◌, ◌==◌, inl, inr, ℕ, zero, suc, ◌+◌, ◌-◌, Bool, true, false, if◌then◌else◌, List, [], ◌∷◌, ◌++◌, length, map, drop, set, get_or, Option, Some, None, refl, sym, ap, ◌∙◌, append-nil, append_assoc, subst, arith}
use Rattle.std.specs.List.{AllByRecursion}
use Rattle.std.proofs.lemmas.Bool.Decides.{nat_tests}
use Rattle.std.proofs.lemmas.Grind.{flat_map-append}
use Rattle.std.proofs.lemmas.List.{get_or-set_same, get_or-set_other, drop_at}
use Rattle.zab_epoch.specs.declared.message.Message.{Message}
use Rattle.zab_laws.specs.Prefixes.{IsPrefix}
use Rattle.zk_peer_links.specs.Links.{Brings, Hearing, HearsAll, IsAt, IsNowhere, Leaves, LinkView, arrival_of, closed, has_number, hearing, is_peer, link_at, new_link, opened, opens, unwanted}
use Rattle.zk_peer_links.specs.Packets.{Decodes, HasFrameIn, IsExact, IsWrong, frames_in, message_in, messages_in}
use Rattle.zk_peer_links.specs.declared.arrival.Arrival.{Arrival}
use Rattle.zk_peer_links.specs.declared.arrival.Arrival.TheVariants as arrivals
use Rattle.zk_peer_links.specs.declared.link_input.LinkInput.{LinkInput}
use Rattle.zk_peer_links.specs.declared.link_input.LinkInput.TheVariants as inputs
use Rattle.zk_peer_links.specs.declared.packet.Packet.{Packet}
use Rattle.zk_peer_links.specs.declared.packet.Packet.TheVariants as packets
use Rattle.zk_peer_links.proofs.Streams.{exact}
use Rattle.zk_requests.specs.declared.call.Call.{Call}
use Rattle.zk_server.specs.LinkedEnsembles.{MayCome, at_line, flight_after, used_after}
use Rattle.zk_server.specs.Mail.{brought_by, brought_on}

-- the bytes that wait and those that are under way are frames, of these messages and of notices
pub record Carries (rest bytes : List ℕ) (messages : List (Message Call)) : Type 0 where
  pub its : List Packet
  pub each : AllByRecursion HasFrameIn its
  pub whole : rest ++ bytes ≡ frames_in its
  pub said : messages ≡ messages_in its

-- ---- lines

module _ {A : Type 0} (line : ℕ) (it : A) (its : ℕ → A) where
  pub at_same : (other : ℕ) → other ≡ line → at_line line it its other ≡ it
  at_same other is = (let yes : (other == line) ≡ true = grind (arith, nat_tests) in ap (λ (b : Bool). if b then it else its other) yes)

  pub at_other : (other : ℕ) → other ≢ line → at_line line it its other ≡ its other
  at_other other is = (let no : (other == line) ≡ false = grind (arith, nat_tests) in ap (λ (b : Bool). if b then it else its other) no)

pub same_or_not : (m n : ℕ) → (m ≡ n) ⊎ (m ≢ n)
same_or_not m n = by_test (m == n) refl
  where
    by_test : (b : Bool) → (m == n) ≡ b → (m ≡ n) ⊎ (m ≢ n)
    by_test true is = inl (grind (arith, nat_tests))
    by_test false is = inr (grind (arith, nat_tests))

marked : (line : ℕ) (used : ℕ → Bool) (other : ℕ) → used other ≡ true → at_line line true used other ≡ true
marked line used other is = elim (same_or_not other line) [ inl same ↦ at_same line true used other same | inr differs ↦ at_other line true used other differs ∙ is ]

unmarked : (line : ℕ) (used : ℕ → Bool) (other : ℕ) → at_line line true used other ≡ false → (other ≢ line) × (used other ≡ false)
unmarked line used other is = elim (same_or_not other line) [
  | inl same ↦ (let no : true ≡ false = sym (at_same line true used other same) ∙ is in absurd cc)
  | inr differs ↦ (differs, sym (at_other line true used other differs) ∙ is)
]

-- ---- places

found : (links : List (Option LinkView)) (place : ℕ) (slot : Option LinkView) (k : ℕ) (link : LinkView) → place < length links → link_at (set links place slot) k ≡ Some link
    → ((slot ≡ Some link) × (k ≡ place)) ⊎ ((k ≢ place) × (link_at links k ≡ Some link))
found links place slot k link within at = elim (same_or_not k place) [
  | inl same ↦ inl (sym (get_or-set_same links place slot None within) ∙ ap (λ (n : ℕ). get_or (set links place slot) n None) (sym same) ∙ at, same)
  | inr differs ↦ inr (differs, sym (get_or-set_other links place k slot None differs) ∙ at)
]

within_of : (links : List (Option LinkView)) (k : ℕ) (link : LinkView) → link_at links k ≡ Some link → k < length links
within_of [] k link at = absurd cc
within_of (slot ∷ links) zero link at = omega arith
within_of (slot ∷ links) (suc k) link at = (let less = within_of links k link at in omega arith)

back_all : (a b : List Packet) → AllByRecursion HasFrameIn (a ++ b) → AllByRecursion HasFrameIn b
back_all [] b each = each
back_all (p ∷ a) b each = back_all a b each.1

rest_all : (all a b : List Packet) → all ≡ a ++ b → AllByRecursion HasFrameIn all → AllByRecursion HasFrameIn b
rest_all all a b is each = back_all a b (subst (AllByRecursion HasFrameIn) is each)

some_is : (one other : LinkView) → (let slot : Option LinkView = Some one in slot ≡ Some other) → one ≡ other
some_is one other is = cc

-- what a server's connections carry
pub record Links (reader : ℕ → ℕ) (number : ℕ) (links : List (Option LinkView)) (flight : ℕ → List ℕ) (used : ℕ → Bool) (left : ℕ → List (Message Call)) : Type 0 where
  pub known : (place : ℕ) (link : LinkView) → link_at links place ≡ Some link → (used link.number ≡ true) × ((reader link.number ≡ number) × (link.number ≢ 0))
  pub unique : (p q : ℕ) (one other : LinkView) → link_at links p ≡ Some one → link_at links q ≡ Some other → one.number ≡ other.number → p ≡ q
  pub carry : (place : ℕ) (link : LinkView) → link_at links place ≡ Some link → Carries link.rest (flight link.number) (left link.number)

module _ (reader : ℕ → ℕ) (number : ℕ) where
  -- a connection is opened
  opened_links : (links : List (Option LinkView)) (flight : ℕ → List ℕ) (used : ℕ → Bool) (left : ℕ → List (Message Call)) (place line : ℕ) → Links reader number links flight used left → place < length links
      → reader line ≡ number → used line ≡ false → line ≢ 0 → Carries [] (flight line) (left line) → Links reader number (set links place (Some (new_link line))) flight (at_line line true used) left
  opened_links links flight used left place line is within mine unused some fresh = record {
    known = λ k link at. elim (found links place (Some (new_link line)) k link within at) [
      | inl new ↦
          (let e : line ≡ link.number = ap (λ (l : LinkView). l.number) (some_is (new_link line) link new.0) in
          (at_same line true used link.number (sym e), (ap reader (sym e) ∙ mine, λ is_zero. some (e ∙ is_zero))))
      | inr old ↦ (let was = is.known k link old.1 in (marked line used link.number was.0, was.1))
    ];
    unique = λ p q one other at_p at_q same. elim (found links place (Some (new_link line)) p one within at_p) [
      | inl new ↦ elim (found links place (Some (new_link line)) q other within at_q) [
        | inl again ↦ new.1 ∙ sym again.1
        | inr old ↦ absurd (twice q one other new.0 old.1 same)
      ]
      | inr old ↦ elim (found links place (Some (new_link line)) q other within at_q) [
        | inl new ↦ absurd (twice p other one new.0 old.1 (sym same))
        | inr again ↦ is.unique p q one other old.1 again.1 same
      ]
    ];
    carry = λ k link at. elim (found links place (Some (new_link line)) k link within at) [
      | inl new ↦ subst (λ (l : LinkView). Carries l.rest (flight l.number) (left l.number)) (some_is (new_link line) link new.0) fresh
      | inr old ↦ is.carry k link old.1
    ];
  }
    where
      twice : (k : ℕ) (new old : LinkView) → (let slot : Option LinkView = Some (new_link line) in slot ≡ Some new) → link_at links k ≡ Some old → new.number ≡ old.number → ⊥
      twice k new old is_new at same =
          let e : line ≡ old.number = ap (λ (l : LinkView). l.number) (some_is (new_link line) new is_new) ∙ same in
          let no : true ≡ false = sym (is.known k old at).0 ∙ ap used (sym e) ∙ unused in
          absurd cc

  -- a connection is closed
  closed_links : (links : List (Option LinkView)) (flight : ℕ → List ℕ) (used : ℕ → Bool) (left : ℕ → List (Message Call)) (place : ℕ) → Links reader number links flight used left → place < length links
      → Links reader number (set links place None) flight used left
  closed_links links flight used left place is within = record {
    known = λ k link at. is.known k link (still k link at);
    unique = λ p q one other at_p at_q same. is.unique p q one other (still p one at_p) (still q other at_q) same;
    carry = λ k link at. is.carry k link (still k link at);
  }
    where
      still : (k : ℕ) (link : LinkView) → link_at (set links place None) k ≡ Some link → link_at links k ≡ Some link
      still k link at = elim (found links place None k link within at) [
        | inl new ↦ (let e = new.0 in absurd cc)
        | inr old ↦ old.1
      ]

  -- a connection has brought bytes, and all whole frames are taken
  fed_links : (links : List (Option LinkView)) (flight : ℕ → List ℕ) (used : ℕ → Bool) (left : ℕ → List (Message Call)) (place line : ℕ) (link : LinkView) (rest more : List ℕ) (later : List (Message Call))
      → Links reader number links flight used left → place < length links → link_at links place ≡ Some link → link.number ≡ line → Carries rest more later
      → Links reader number (set links place (Some (record link { rest = rest }))) (at_line line more flight) used (at_line line later left)
  fed_links links flight used left place line link rest more later is within here mine carries = record {
    known = λ k it at. elim (found links place (Some fed) k it within at) [
      | inl new ↦ (let e : link.number ≡ it.number = ap (λ (l : LinkView). l.number) (some_is fed it new.0) in subst (λ (n : ℕ). (used n ≡ true) × ((reader n ≡ number) × (n ≢ 0))) e (is.known place link here))
      | inr old ↦ is.known k it old.1
    ];
    unique = λ p q one other at_p at_q same. elim (found links place (Some fed) p one within at_p) [
      | inl new ↦ elim (found links place (Some fed) q other within at_q) [
        | inl again ↦ new.1 ∙ sym again.1
        | inr old ↦ new.1 ∙ is.unique place q link other here old.1 (ap (λ (l : LinkView). l.number) (some_is fed one new.0) ∙ same)
      ]
      | inr old ↦ elim (found links place (Some fed) q other within at_q) [
        | inl new ↦ is.unique p place one link old.1 here (same ∙ sym (ap (λ (l : LinkView). l.number) (some_is fed other new.0))) ∙ sym new.1
        | inr again ↦ is.unique p q one other old.1 again.1 same
      ]
    ];
    carry = λ k it at. elim (found links place (Some fed) k it within at) [
      | inl new ↦
          subst (λ (l : LinkView). Carries l.rest (at_line line more flight l.number) (at_line line later left l.number)) (some_is fed it new.0)
          (as_lines rest link.number more later (at_same line more flight link.number mine) (at_same line later left link.number mine) carries)
      | inr old ↦
          (let differs : it.number ≢ line = λ same. old.0 (is.unique k place it link old.1 here (same ∙ sym mine)) in
          as_lines it.rest it.number (flight it.number) (left it.number) (at_other line more flight it.number differs) (at_other line later left it.number differs) (is.carry k it old.1))
    ];
  }
    where
      fed : LinkView
      fed = record link { rest = rest }

      as_lines : (r : List ℕ) (n : ℕ) (b : List ℕ) (m : List (Message Call)) → at_line line more flight n ≡ b → at_line line later left n ≡ m → Carries r b m → Carries r (at_line line more flight n) (at_line line later left n)
      as_lines r n b m flown said c = subst (λ (l : List ℕ). Carries r l (at_line line later left n)) (sym flown) (subst (λ (l : List (Message Call)). Carries r b l) (sym said) c)

-- ---- arrivals

pub brought_both : (a b : List Arrival) (line : ℕ) → brought_on (a ++ b) line ≡ brought_on a line ++ brought_on b line
brought_both [] b line = refl
brought_both (arrival ∷ a) b line = ap (λ l. brought_by line arrival ++ l) (brought_both a b line) ∙ sym (append_assoc (brought_by line arrival) (brought_on a line) (brought_on b line))

nothing_brought : (b : Bool) → (let none : List (Message Call) = [] in none ≡ (if b then [] else []))
nothing_brought true = refl
nothing_brought false = refl

brought_one : (line other : ℕ) (packet : Packet) → brought_by other (arrival_of line packet) ≡ (if line == other then message_in packet else [])
brought_one line other (packets.Message message) = refl
brought_one line other (packets.Notice notice) = nothing_brought (line == other)
brought_one line other (packets.Session notice) = nothing_brought (line == other)

-- what packets bring on their own connection, and on others
brought_all : (line : ℕ) (its : List Packet) → brought_on (map (arrival_of line) its) line ≡ messages_in its
brought_all line [] = refl
brought_all line (packet ∷ its) =
    let yes : (line == line) ≡ true = grind (arith, nat_tests) in
    ap (λ l. l ++ brought_on (map (arrival_of line) its) line) (brought_one line line packet ∙ ap (λ (b : Bool). if b then message_in packet else []) yes)
    ∙ ap (λ l. message_in packet ++ l) (brought_all line its)

brought_elsewhere : (line other : ℕ) (its : List Packet) → other ≢ line → brought_on (map (arrival_of line) its) other ≡ []
brought_elsewhere line other [] differs = refl
brought_elsewhere line other (packet ∷ its) differs =
    let no : (line == other) ≡ false = grind (arith, nat_tests) in
    ap (λ l. l ++ brought_on (map (arrival_of line) its) other) (brought_one line other packet ∙ ap (λ (b : Bool). if b then message_in packet else []) no)
    ∙ brought_elsewhere line other its differs

messages_both : (a b : List Packet) → messages_in (a ++ b) ≡ messages_in a ++ messages_in b
messages_both a b = flat_map-append message_in a b

-- ---- what a server hears in a turn

module _ (reader : ℕ → ℕ) (number : ℕ) (flight : ℕ → List ℕ) (used : ℕ → Bool) (sent : ℕ → List (Message Call)) where
  -- so far, of what was under way when the turn began
  pub record Heard (h : Hearing) (now : ℕ → List ℕ) (known : ℕ → Bool) : Type 0 where
    pub left : ℕ → List (Message Call)
    pub splits : (line : ℕ) → brought_on h.arrivals line ++ left line ≡ sent line
    pub links : Links reader number h.links now known left
    pub fresh : (line : ℕ) → known line ≡ false → Carries [] (now line) (left line)
    pub others : (line : ℕ) → (reader line ≢ number) → (now line ≡ flight line) × ((left line ≡ sent line) × (known line ≡ used line))
    pub none : known 0 ≡ true

  quietly : (before : List Arrival) (arrival : Arrival) (left : ℕ → List (Message Call)) → ((line : ℕ) → brought_by line arrival ≡ []) → ((line : ℕ) → brought_on before line ++ left line ≡ sent line)
      → (line : ℕ) → brought_on (before ++ arrival ∷ []) line ++ left line ≡ sent line
  quietly before arrival left quiet splits line =
      ap (λ l. l ++ left line) (brought_both before (arrival ∷ []) line ∙ ap (λ l. brought_on before line ++ (l ++ [])) (quiet line) ∙ append-nil (brought_on before line)) ∙ splits line

  not_none : (known : ℕ → Bool) (line : ℕ) → known 0 ≡ true → known line ≡ false → line ≢ 0
  not_none known line some unused is_zero = (let no : true ≡ false = sym some ∙ ap known (sym is_zero) ∙ unused in absurd cc)

  -- its marks, once a connection is opened
  module _ (known : ℕ → Bool) (line : ℕ) (now : ℕ → List ℕ) (left : ℕ → List (Message Call)) (mine : reader line ≡ number) where
    fresh_still : ((it : ℕ) → known it ≡ false → Carries [] (now it) (left it)) → (it : ℕ) → at_line line true known it ≡ false → Carries [] (now it) (left it)
    fresh_still fresh it unused = fresh it (unmarked line known it unused).1

    others_still : ((it : ℕ) → (reader it ≢ number) → (now it ≡ flight it) × ((left it ≡ sent it) × (known it ≡ used it)))
        → (it : ℕ) → (reader it ≢ number) → (now it ≡ flight it) × ((left it ≡ sent it) × (at_line line true known it ≡ used it))
    others_still others it foreign =
        let was = others it foreign in
        (was.0, (was.1.0, at_other line true known it (λ same. foreign (ap reader same ∙ mine)) ∙ was.1.1))

  opened_at : (h : Hearing) (now : ℕ → List ℕ) (known : ℕ → Bool) (place line : ℕ) → reader line ≡ number → known line ≡ false → place < length h.links → Heard h now known → Heard (opened place line h) now (at_line line true known)
  opened_at h now known place line mine unused within heard = record {
    left = heard.left;
    splits = quietly h.arrivals (arrivals.Closed (place + 1)) heard.left (λ it. refl) heard.splits;
    links = opened_links reader number h.links now known heard.left place line heard.links within mine unused (not_none known line heard.none unused) (heard.fresh line unused);
    fresh = fresh_still known line now heard.left mine heard.fresh;
    others = others_still known line now heard.left mine heard.others;
    none = marked line known 0 heard.none;
  }

  unwanted_at : (h : Hearing) (now : ℕ → List ℕ) (known : ℕ → Bool) (line : ℕ) → reader line ≡ number → Heard h now known → Heard (unwanted line h) now (at_line line true known)
  unwanted_at h now known line mine heard = record {
    left = heard.left;
    splits = heard.splits;
    links = record {
      known = λ k link at. (let was = heard.links.known k link at in (marked line known link.number was.0, was.1));
      unique = heard.links.unique;
      carry = heard.links.carry;
    };
    fresh = fresh_still known line now heard.left mine heard.fresh;
    others = others_still known line now heard.left mine heard.others;
    none = marked line known 0 heard.none;
  }

  opens_at : (h : Hearing) (now : ℕ → List ℕ) (known : ℕ → Bool) (me peer line : ℕ) → reader line ≡ number → known line ≡ false → Heard h now known → Heard (opens me peer line h) now (at_line line true known)
  opens_at h now known me peer line mine unused heard = by_test (is_peer me (length h.links) peer) refl
    where
      by_test : (b : Bool) → is_peer me (length h.links) peer ≡ b → Heard (if b then opened (peer - 1) line h else unwanted line h) now (at_line line true known)
      by_test true is = (let within : peer - 1 < length h.links = grind (arith, nat_tests) in opened_at h now known (peer - 1) line mine unused within heard)
      by_test false is = unwanted_at h now known line mine heard

  closed_at : (h : Hearing) (now : ℕ → List ℕ) (known : ℕ → Bool) (place : ℕ) → place < length h.links → Heard h now known → Heard (closed place h) now known
  closed_at h now known place within heard = record {
    left = heard.left;
    splits = quietly h.arrivals (arrivals.Closed (place + 1)) heard.left (λ it. refl) heard.splits;
    links = closed_links reader number h.links now known heard.left place heard.links within;
    fresh = heard.fresh;
    others = heard.others;
    none = heard.none;
  }

  led_at : (h : Hearing) (now : ℕ → List ℕ) (known : ℕ → Bool) → Heard h now known → Heard (hearing h.links (h.arrivals ++ arrivals.Lead ∷ []) h.ended) now known
  led_at h now known heard = record {
    left = heard.left;
    splits = quietly h.arrivals arrivals.Lead heard.left (λ it. refl) heard.splits;
    links = heard.links;
    fresh = heard.fresh;
    others = heard.others;
    none = heard.none;
  }

  -- ---- bytes

  number_is : (line : ℕ) (links : List (Option LinkView)) (place : ℕ) (link : LinkView) → IsAt line links place → link_at links place ≡ Some link → link.number ≡ line
  number_is line links place link at is = (let yes : (link.number == line) ≡ true = sym (ap (has_number line) is) ∙ at.has in grind (arith, nat_tests))

  -- what follows the bytes that come
  after_bytes : (bytes more whole : List ℕ) → bytes ++ more ≡ whole → drop (length bytes) whole ≡ more
  after_bytes bytes more whole is = ap (drop (length bytes)) (sym is) ∙ drop_at bytes more (length bytes) refl

  module _ (h : Hearing) (now : ℕ → List ℕ) (known : ℕ → Bool) (line : ℕ) (bytes : List ℕ) (mine : reader line ≡ number) (marked_line : known line ≡ true) (came : IsPrefix bytes (now line)) (heard : Heard h now known) where
    abbrev gone : List ℕ
    gone = drop (length bytes) (now line)

    differs_if_fresh : (it : ℕ) → known it ≡ false → it ≢ line
    differs_if_fresh it unused same = (let no : true ≡ false = sym marked_line ∙ ap known (sym same) ∙ unused in absurd cc)

    differs_if_foreign : (it : ℕ) → (reader it ≢ number) → it ≢ line
    differs_if_foreign it foreign same = foreign (ap reader same ∙ mine)

    module _ (place : ℕ) (link : LinkView) (its : List Packet) (rest : List ℕ) (at : IsAt line h.links place) (here : link_at h.links place ≡ Some link) (decodes : Decodes link.rest bytes its rest) where
      is_number : link.number ≡ line
      is_number = number_is line h.links place link at here

      whole : Carries link.rest (now line) (heard.left line)
      whole = subst (λ (n : ℕ). Carries link.rest (now n) (heard.left n)) is_number (heard.links.carry place link here)

      rest_is : bytes ++ gone ≡ now line
      rest_is = ap (λ (l : List ℕ). bytes ++ l) (after_bytes bytes came.rest (now line) came.is) ∙ came.is

      is_exact : IsExact whole.its gone its rest
      is_exact =
          exact whole.its its link.rest bytes gone rest whole.each
          (sym whole.whole ∙ ap (λ (l : List ℕ). link.rest ++ l) (sym rest_is) ∙ sym (append_assoc link.rest bytes gone)) decodes

      never_wrong : IsWrong rest → ⊥
      never_wrong = is_exact.right

      abbrev later : List (Message Call)
      later = messages_in is_exact.left

      carries : Carries rest gone later
      carries = record { its = is_exact.left; each = rest_all whole.its its is_exact.left is_exact.sent_is whole.each; whole = is_exact.waits; said = refl }

      own : brought_on (h.arrivals ++ map (arrival_of line) its) line ++ at_line line later heard.left line ≡ sent line
      own =
          ap (λ l. l ++ at_line line later heard.left line) (brought_both h.arrivals (map (arrival_of line) its) line ∙ ap (λ l. brought_on h.arrivals line ++ l) (brought_all line its))
          ∙ ap (λ l. (brought_on h.arrivals line ++ messages_in its) ++ l) (at_same line later heard.left line refl)
          ∙ append_assoc (brought_on h.arrivals line) (messages_in its) later
          ∙ ap (λ l. brought_on h.arrivals line ++ l) (sym (messages_both its is_exact.left) ∙ ap messages_in (sym is_exact.sent_is) ∙ sym whole.said)
          ∙ heard.splits line

      elsewhere : (other : ℕ) → other ≢ line → brought_on (h.arrivals ++ map (arrival_of line) its) other ++ at_line line later heard.left other ≡ sent other
      elsewhere other differs =
          ap (λ l. l ++ at_line line later heard.left other)
          (brought_both h.arrivals (map (arrival_of line) its) other ∙ ap (λ l. brought_on h.arrivals other ++ l) (brought_elsewhere line other its differs) ∙ append-nil (brought_on h.arrivals other))
          ∙ ap (λ l. brought_on h.arrivals other ++ l) (at_other line later heard.left other differs) ∙ heard.splits other

      fed_at : Heard (hearing (set h.links place (Some (record link { rest = rest }))) (h.arrivals ++ map (arrival_of line) its) h.ended) (at_line line gone now) known
      fed_at = record {
        left = at_line line later heard.left;
        splits = λ other. elim (same_or_not other line) [
          | inl same ↦ subst (λ (n : ℕ). brought_on (h.arrivals ++ map (arrival_of line) its) n ++ at_line line later heard.left n ≡ sent n) (sym same) own
          | inr differs ↦ elsewhere other differs
        ];
        links = fed_links reader number h.links now known heard.left place line link rest gone later heard.links at.within here is_number carries;
        fresh = λ it unused.
            subst (λ (l : List ℕ). Carries [] l (at_line line later heard.left it)) (sym (at_other line gone now it (differs_if_fresh it unused)))
            (subst (λ (l : List (Message Call)). Carries [] (now it) l) (sym (at_other line later heard.left it (differs_if_fresh it unused))) (heard.fresh it unused));
        others = λ it foreign. (let was = heard.others it foreign in
            let differs = differs_if_foreign it foreign in
            (at_other line gone now it differs ∙ was.0, (at_other line later heard.left it differs ∙ was.1.0, was.1.1)));
        none = heard.none;
      }

      left_at : (h2 : Hearing) (slot : Option LinkView) (arrived : List Arrival) (ended : List ℕ) → Leaves place line link its rest slot arrived ended → h2 ≡ hearing (set h.links place slot) (h.arrivals ++ arrived) (h.ended ++ ended)
          → Heard h2 (at_line line gone now) known
      left_at h2 slot arrived ended (inr wrong) is = absurd (never_wrong wrong.0)
      left_at h2 slot arrived ended (inl goes_on) is =
          subst (λ (it : Hearing). Heard it (at_line line gone now) known)
          (sym (is ∙ ap (λ (o : Option LinkView). hearing (set h.links place o) (h.arrivals ++ arrived) (h.ended ++ ended)) goes_on.1.0
          ∙ ap (λ (l : List Arrival). hearing (set h.links place (Some (record link { rest = rest }))) (h.arrivals ++ l) (h.ended ++ ended)) goes_on.1.1.0
          ∙ ap (λ (l : List ℕ). hearing (set h.links place (Some (record link { rest = rest }))) (h.arrivals ++ map (arrival_of line) its) l) (ap (λ (l : List ℕ). h.ended ++ l) goes_on.1.1.1 ∙ append-nil h.ended)))
          fed_at

    -- no connection has the number: it was closed
    dropped_at : IsNowhere line h.links → Heard h (at_line line gone now) known
    dropped_at nowhere = record {
      left = heard.left;
      splits = heard.splits;
      links = record {
        known = heard.links.known;
        unique = heard.links.unique;
        carry = λ k link at. subst (λ (l : List ℕ). Carries link.rest l (heard.left link.number)) (sym (at_other line gone now link.number (other_number k link at))) (heard.links.carry k link at);
      };
      fresh = λ it unused. subst (λ (l : List ℕ). Carries [] l (heard.left it)) (sym (at_other line gone now it (differs_if_fresh it unused))) (heard.fresh it unused);
      others = λ it foreign. (let was = heard.others it foreign in (at_other line gone now it (differs_if_foreign it foreign) ∙ was.0, was.1));
      none = heard.none;
    }
      where
        other_number : (k : ℕ) (link : LinkView) → link_at h.links k ≡ Some link → link.number ≢ line
        other_number k link at same =
            let within : k < length h.links = within_of h.links k link at in
            let no : (link.number == line) ≡ false = sym (ap (has_number line) at) ∙ nowhere k within in
            absurd (grind (arith, nat_tests))

    brought_at : (h2 : Hearing) → ((place : ℕ) × (IsAt line h.links place × Brings place line bytes h h2)) ⊎ (IsNowhere line h.links × (h2 ≡ h)) → Heard h2 (at_line line gone now) known
    brought_at h2 (inl some) =
        (let b = some.1.1 in
        left_at some.0 b.link b.brings.its b.brings.rest some.1.0 b.is b.brings.decodes h2 b.left b.arrived b.ended b.brings.leaves b.now)
    brought_at h2 (inr nowhere) = subst (λ (it : Hearing). Heard it (at_line line gone now) known) (sym nowhere.1) (dropped_at nowhere.0)

  shut_at : (h h2 : Hearing) (now : ℕ → List ℕ) (known : ℕ → Bool) (line : ℕ) → Heard h now known → ((place : ℕ) × (IsAt line h.links place × (h2 ≡ closed place h))) ⊎ (IsNowhere line h.links × (h2 ≡ h)) → Heard h2 now known
  shut_at h h2 now known line heard (inl some) = subst (λ (it : Hearing). Heard it now known) (sym some.1.1) (closed_at h now known some.0 some.1.0.within heard)
  shut_at h h2 now known line heard (inr nowhere) = subst (λ (it : Hearing). Heard it now known) (sym nowhere.1) heard

  -- ---- all of a turn

  pub hears_all : (me : ℕ) (its : List LinkInput) (h h2 : Hearing) (now : ℕ → List ℕ) (known : ℕ → Bool) → MayCome reader number its now known → HearsAll me its h h2 → Heard h now known
      → Heard h2 (flight_after its now) (used_after its known)
  hears_all me [] h h2 now known may hears heard = subst (λ (it : Hearing). Heard it now known) (sym hears) heard
  hears_all me (inputs.Opened peer line ∷ its) h h2 now known may hears heard =
      hears_all me its hears.0 h2 now (at_line line true known) may.1.1 hears.1.1
      (subst (λ (it : Hearing). Heard it now (at_line line true known)) (sym hears.1.0) (opens_at h now known me peer line may.0 may.1.0 heard))
  hears_all me (inputs.Brought line bytes ∷ its) h h2 now known may hears heard =
      hears_all me its hears.0 h2 (at_line line (drop (length bytes) (now line)) now) known may.1.1.1 hears.1.1
      (brought_at h now known line bytes may.0 may.1.0 may.1.1.0 heard hears.0 hears.1.0)
  hears_all me (inputs.Closed line ∷ its) h h2 now known may hears heard =
      hears_all me its hears.0 h2 now known may hears.1.1 (shut_at h hears.0 now known line heard hears.1.0)
  hears_all me (inputs.Lead ∷ its) h h2 now known may hears heard =
      hears_all me its hears.0 h2 now known may hears.1.1 (subst (λ (it : Hearing). Heard it now known) (sym hears.1.0) (led_at h now known heard))

  -- ---- what comes to a server that does not hear it

  pub record Unmoved (now : ℕ → List ℕ) (known : ℕ → Bool) : Type 0 where
    pub others : (line : ℕ) → (reader line ≢ number) → (now line ≡ flight line) × (known line ≡ used line)
    pub fresh : (line : ℕ) → known line ≡ false → (now line ≡ flight line) × (used line ≡ false)
    pub none : known 0 ≡ true

  pub unmoved : (its : List LinkInput) (now : ℕ → List ℕ) (known : ℕ → Bool) → MayCome reader number its now known → Unmoved now known → Unmoved (flight_after its now) (used_after its known)
  unmoved [] now known may is = is
  unmoved (inputs.Opened peer line ∷ its) now known may is =
      unmoved its now (at_line line true known) may.1.1
      record {
        others = λ it foreign. (let was = is.others it foreign in (was.0, at_other line true known it (λ same. foreign (ap reader same ∙ may.0)) ∙ was.1));
        fresh = λ it unused. is.fresh it (unmarked line known it unused).1;
        none = marked line known 0 is.none;
      }
  unmoved (inputs.Brought line bytes ∷ its) now known may is =
      unmoved its (at_line line (drop (length bytes) (now line)) now) known may.1.1.1
      record {
        others = λ it foreign. (let was = is.others it foreign in (at_other line (drop (length bytes) (now line)) now it (λ same. foreign (ap reader same ∙ may.0)) ∙ was.0, was.1));
        fresh = λ it unused.
            (let was = is.fresh it unused in
            let differs : it ≢ line = λ same. (let no : true ≡ false = sym may.1.0 ∙ ap known (sym same) ∙ unused in absurd cc) in
            (at_other line (drop (length bytes) (now line)) now it differs ∙ was.0, was.1));
        none = is.none;
      }
  unmoved (inputs.Closed line ∷ its) now known may is = unmoved its now known may is
  unmoved (inputs.Lead ∷ its) now known may is = unmoved its now known may is
