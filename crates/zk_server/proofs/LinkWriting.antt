-- What a turn writes to connections is the frames of what it sends.
use Rattle.std.proofs.Common.{◌≡◌, ◌≢◌, ◌⊎◌, ◌<◌, ◌==◌, inl, inr, ℕ, suc, ◌+◌, Bool, true, false, if◌then◌else◌, List, [], ◌∷◌, ◌++◌, length, map, filter, get_or, Option, Some, None, refl, sym, ap, ◌∙◌, append-nil, append_assoc, subst, arith}
use Rattle.std.specs.Prelude.{is_some}
use Rattle.std.specs.List.{AllByRecursion}
use Rattle.std.proofs.lemmas.Bool.Decides.{nat_tests}
use Rattle.std.proofs.lemmas.Grind.{flat_map-append}
use Rattle.zab_epoch.specs.declared.message.Message.{Message}
use Rattle.zk_peer_links.specs.Links.{LinkView, link_at}
use Rattle.zk_peer_links.specs.Notices.{is_same}
use Rattle.zk_peer_links.specs.Outputs.{IsWritten, Writes, is_for, is_to, news_for, packets_for, sessions_for, those_for}
use Rattle.zk_peer_links.specs.Packets.{HasFrameIn, frames_in, message_in, messages_in}
use Rattle.zk_peer_links.specs.declared.notice.Notice.{Notice}
use Rattle.zk_peer_links.specs.declared.packet.Packet.{Packet}
use Rattle.zk_peer_links.specs.declared.packet.Packet.TheVariants as packets
use Rattle.zk_peer_links.specs.declared.session_notice.SessionNotice.{SessionNotice}
use Rattle.zk_peer_links.proofs.Streams.{both_all, frames-append}
use Rattle.zk_requests.specs.declared.call.Call.{Call}
use Rattle.zk_server.specs.LinkedEnsembles.{Differ, written_from}
use Rattle.zk_server.proofs.Linking.{Carries, same_or_not}

-- bytes that are written are the frames of these messages, and of notices
pub record Wrote (bytes : List ℕ) (messages : List (Message Call)) : Type 0 where
  pub its : List Packet
  pub each : AllByRecursion HasFrameIn its
  pub whole : bytes ≡ frames_in its
  pub said : messages ≡ messages_in its

messages_both : (a b : List Packet) → messages_in (a ++ b) ≡ messages_in a ++ messages_in b
messages_both a b = flat_map-append message_in a b

pub carries_more : (rest bytes more : List ℕ) (messages others : List (Message Call)) → Carries rest bytes messages → Wrote more others → Carries rest (bytes ++ more) (messages ++ others)
carries_more rest bytes more messages others carries wrote = record {
  its = carries.its ++ wrote.its;
  each = both_all HasFrameIn carries.its wrote.its carries.each wrote.each;
  whole = sym (append_assoc rest bytes more) ∙ ap (λ (l : List ℕ). l ++ more) carries.whole ∙ ap (λ (l : List ℕ). frames_in carries.its ++ l) wrote.whole ∙ sym (frames-append carries.its wrote.its);
  said = ap (λ l. l ++ others) carries.said ∙ ap (λ l. messages_in carries.its ++ l) wrote.said ∙ sym (messages_both carries.its wrote.its);
}

-- ---- tests of messages

filter_none : {A : Type 0} (p : A → Bool) (xs : List A) → ((x : A) → p x ≡ false) → filter p xs ≡ []
filter_none p [] none = refl
filter_none p (x ∷ xs) none = rw (none x) (filter_none p xs none)

filter_same : {A : Type 0} (p q : A → Bool) (xs : List A) → ((x : A) → p x ≡ q x) → filter p xs ≡ filter q xs
filter_same p q [] same = refl
filter_same {A} p q (x ∷ xs) same =
    ap (λ (b : Bool). if b then x ∷ filter p xs else filter p xs) (same x) ∙ ap (λ (l : List A). if q x then x ∷ l else l) (filter_same p q xs same)

those_are : (messages : List (Message Call)) → messages_in (map packets.Message messages) ≡ messages
those_are [] = refl
those_are (message ∷ messages) = ap (λ (l : List (Message Call)). message ∷ l) (those_are messages)

sessions_silent : (notices : List SessionNotice) → messages_in (map packets.Session notices) ≡ []
sessions_silent [] = refl
sessions_silent (notice ∷ notices) = sessions_silent notices

news_silent : (told : Option Notice) (notice : Notice) → messages_in (news_for told notice) ≡ []
news_silent None notice = refl
news_silent (Some told) notice = by_test (is_same told notice)
  where
    by_test : (b : Bool) → messages_in (if b then [] else packets.Notice notice ∷ []) ≡ []
    by_test true = refl
    by_test false = refl

-- a link to the server is opens; the first of these is that of server `at`
abbrev pub open_from : ℕ → List (Option LinkView) → ℕ → Bool
open_from at [] peer = false
open_from at (slot ∷ slots) peer = if peer == at then is_some slot else open_from (at + 1) slots peer

not_below : (at : ℕ) (slots : List (Option LinkView)) (peer : ℕ) → peer < at → open_from at slots peer ≡ false
not_below at [] peer below = refl
not_below at (slot ∷ slots) peer below =
    let no : (peer == at) ≡ false = grind (arith, nat_tests) in
    ap (λ (b : Bool). if b then is_some slot else open_from (at + 1) slots peer) no ∙ not_below (at + 1) slots peer (omega arith)

open_here : (at : ℕ) (slot : Option LinkView) (slots : List (Option LinkView)) (peer : ℕ) → peer ≡ at → open_from at (slot ∷ slots) peer ≡ is_some slot
open_here at slot slots peer same = (let yes : (peer == at) ≡ true = grind (arith, nat_tests) in ap (λ (b : Bool). if b then is_some slot else open_from (at + 1) slots peer) yes)

open_later : (at : ℕ) (slot : Option LinkView) (slots : List (Option LinkView)) (peer : ℕ) → peer ≢ at → open_from at (slot ∷ slots) peer ≡ open_from (at + 1) slots peer
open_later at slot slots peer differs = (let no : (peer == at) ≡ false = grind (arith, nat_tests) in ap (λ (b : Bool). if b then is_some slot else open_from (at + 1) slots peer) no)

module _ (notice : Notice) (sessions : List SessionNotice) (messages : List (Message Call)) (line_to : ℕ → ℕ) (differ : Differ line_to) (line : ℕ) where
  -- no open link goes on the connection; or one does, and its server's messages are written
  abbrev Says : ℕ → List (Option LinkView) → List Packet → Type 0
  Says at slots its =
      ((messages_in its ≡ []) × ((peer : ℕ) → open_from at slots peer ≡ true → line_to peer ≢ line))
      ⊎ ((peer : ℕ) × ((line_to peer ≡ line) × ((open_from at slots peer ≡ true) × (messages_in its ≡ filter (is_for peer) messages))))

  record Pieces (at : ℕ) (slots : List (Option LinkView)) (bytes : List ℕ) : Type 0 where
    its : List Packet
    each : AllByRecursion HasFrameIn its
    whole : bytes ≡ frames_in its
    says : Says at slots its

  abbrev EachWritten : ℕ → List (Option LinkView) → List (List ℕ) → Type 0
  EachWritten at slots outputs = (place : ℕ) → place < length slots → IsWritten (packets_for (at + place) notice sessions messages (link_at slots place)) (get_or outputs place [])

  -- the next server's bytes go on another connection
  passed : (at : ℕ) (slot : Option LinkView) (slots : List (Option LinkView)) (its : List Packet) → (line_to at ≢ line) ⊎ (slot ≡ None) → Says (at + 1) slots its → Says at (slot ∷ slots) its
  passed at slot slots its other (inl none) = inl (none.0, λ peer opens. no_line peer opens (same_or_not peer at))
    where
      no_line : (peer : ℕ) → open_from at (slot ∷ slots) peer ≡ true → (peer ≡ at) ⊎ (peer ≢ at) → line_to peer ≢ line
      no_line peer opens (inr differs) = none.1 peer (sym (open_later at slot slots peer differs) ∙ opens)
      no_line peer opens (inl same) = λ is. elim other [
        | inl elsewhere ↦ elsewhere (ap line_to (sym same) ∙ is)
        | inr closed ↦ (let no : false ≡ true = sym (open_here at slot slots peer same ∙ ap (λ (o : Option LinkView). is_some o) closed) ∙ opens in absurd cc)
      ]
  passed at slot slots its other (inr some) = inr (some.0, (some.1.0, (open_later at slot slots some.0 (later some.0 some.1.1.0) ∙ some.1.1.0, some.1.1.1)))
    where
      later : (peer : ℕ) → open_from (at + 1) slots peer ≡ true → peer ≢ at
      later peer opens same = (let no : false ≡ true = sym (not_below (at + 1) slots peer (omega arith)) ∙ opens in absurd cc)

  -- the next server's bytes go on this connection
  added : (at : ℕ) (link : LinkView) (slots : List (Option LinkView)) (its : List Packet) → line_to at ≡ line → Says (at + 1) slots its → Says at (Some link ∷ slots) (packets_for at notice sessions messages (Some link) ++ its)
  added at link slots its here (inl none) =
      inr (
        at,
        (
          here,
          (
            open_here at (Some link) slots at refl,
            messages_both (packets_for at notice sessions messages (Some link)) its
                ∙ ap (λ l. messages_in (packets_for at notice sessions messages (Some link)) ++ l) none.0 ∙ append-nil (messages_in (packets_for at notice sessions messages (Some link)))
                ∙ messages_both (news_for link.told notice) (sessions_for at sessions ++ those_for at messages)
                ∙ ap (λ l. l ++ messages_in (sessions_for at sessions ++ those_for at messages)) (news_silent link.told notice)
                ∙ messages_both (sessions_for at sessions) (those_for at messages)
                ∙ ap (λ l. l ++ messages_in (those_for at messages)) (sessions_silent (filter (is_to at) sessions)) ∙ those_are (filter (is_for at) messages),
          ),
        ),
      )
  added at link slots its here (inr some) =
      (let same : some.0 ≡ at = differ some.0 at (some.1.0 ∙ sym here) in
      let no : false ≡ true = sym (not_below (at + 1) slots some.0 (omega arith)) ∙ some.1.1.0 in
      absurd cc)

  -- one server's bytes, and then those of the later ones
  piece : (at : ℕ) (slot : Option LinkView) (slots : List (Option LinkView)) (outputs : List (List ℕ)) (bytes : List ℕ) → IsWritten (packets_for at notice sessions messages slot) bytes
      → Pieces (at + 1) slots (written_from (at + 1) line_to outputs line) → Pieces at (slot ∷ slots) (written_from at line_to (bytes ∷ outputs) line)
  piece at slot slots outputs bytes written later = by_test (line_to at == line) refl slot written
    where
      by_test : (b : Bool) → (line_to at == line) ≡ b → (s : Option LinkView) → IsWritten (packets_for at notice sessions messages s) bytes
          → Pieces at (s ∷ slots) ((if b then bytes else []) ++ written_from (at + 1) line_to outputs line)
      by_test false is s head = record { its = later.its; each = later.each; whole = later.whole; says = passed at s slots later.its (inl (grind (arith, nat_tests))) later.says }
      by_test true is None head = record {
        its = later.its;
        each = later.each;
        whole = ap (λ (l : List ℕ). l ++ written_from (at + 1) line_to outputs line) head.bytes_are ∙ later.whole;
        says = passed at None slots later.its (inr refl) later.says;
      }
      by_test true is (Some link) head = record {
        its = packets_for at notice sessions messages (Some link) ++ later.its;
        each = both_all HasFrameIn (packets_for at notice sessions messages (Some link)) later.its head.each later.each;
        whole = ap (λ (l : List ℕ). l ++ written_from (at + 1) line_to outputs line) head.bytes_are ∙ ap (λ (l : List ℕ). frames_in (packets_for at notice sessions messages (Some link)) ++ l) later.whole
            ∙ sym (frames-append (packets_for at notice sessions messages (Some link)) later.its);
        says = added at link slots later.its (grind (arith, nat_tests)) later.says;
      }

  pieces : (at : ℕ) (slots : List (Option LinkView)) (outputs : List (List ℕ)) → length outputs ≡ length slots → EachWritten at slots outputs → Pieces at slots (written_from at line_to outputs line)
  pieces at [] [] long each = record { its = []; each = tt; whole = refl; says = inl (refl, λ peer opens. absurd cc) }
  pieces at [] (bytes ∷ outputs) long each = absurd (omega arith)
  pieces at (slot ∷ slots) [] long each = absurd (omega arith)
  pieces at (slot ∷ slots) (bytes ∷ outputs) long each =
      piece at slot slots outputs bytes (subst (λ (n : ℕ). IsWritten (packets_for n notice sessions messages slot) bytes) (omega arith) (each 0 (omega arith)))
      (pieces (at + 1) slots outputs (omega arith)
      (λ place within. subst (λ (n : ℕ). IsWritten (packets_for n notice sessions messages (link_at slots place)) (get_or outputs place [])) (omega arith) (each (suc place) (omega arith))))

  -- messages to a server without an open link are lost: they go on the connection 0, which nobody reads
  abbrev pub route : List (Option LinkView) → ℕ → ℕ
  route links peer = if open_from 1 links peer then line_to peer else 0

  routed : (links : List (Option LinkView)) (its : List Packet) → line ≢ 0 → Says 1 links its → filter (λ (message : Message Call). route links message.addressee == line) messages ≡ messages_in its
  routed links its some (inl none) = filter_none (λ (message : Message Call). route links message.addressee == line) messages (λ message. not_here message.addressee (open_from 1 links message.addressee) refl) ∙ sym none.0
    where
      not_here : (peer : ℕ) (b : Bool) → open_from 1 links peer ≡ b → ((if b then line_to peer else 0) == line) ≡ false
      not_here peer true opens = (let other : line_to peer ≢ line = none.1 peer opens in grind (arith, nat_tests))
      not_here peer false opens = (let other : 0 ≢ line = λ e. some (sym e) in grind (arith, nat_tests))
  routed links its some (inr one) =
      filter_same (λ (message : Message Call). route links message.addressee == line) (is_for one.0) messages (λ message. same_test message.addressee (open_from 1 links message.addressee) refl (same_or_not message.addressee one.0))
      ∙ sym one.1.1.1
    where
      same_test : (peer : ℕ) (b : Bool) → open_from 1 links peer ≡ b → (peer ≡ one.0) ⊎ (peer ≢ one.0) → ((if b then line_to peer else 0) == line) ≡ (peer == one.0)
      same_test peer true opens (inl same) = (let here : line_to peer ≡ line = ap line_to same ∙ one.1.0 in let yes : (peer == one.0) ≡ true = grind (arith, nat_tests) in let on : (line_to peer == line) ≡ true = grind (arith, nat_tests) in on ∙ sym yes)
      same_test peer true opens (inr differs) =
          (let other : line_to peer ≢ line = λ e. differs (differ peer one.0 (e ∙ sym one.1.0)) in
          let no : (peer == one.0) ≡ false = grind (arith, nat_tests) in let off : (line_to peer == line) ≡ false = grind (arith, nat_tests) in off ∙ sym no)
      same_test peer false closed (inl same) = (let no : false ≡ true = sym (sym (ap (open_from 1 links) same) ∙ closed) ∙ one.1.1.0 in absurd cc)
      same_test peer false closed (inr differs) =
          (let other : 0 ≢ line = λ e. some (sym e) in
          let no : (peer == one.0) ≡ false = grind (arith, nat_tests) in let off : (0 == line) ≡ false = grind (arith, nat_tests) in off ∙ sym no)

  pub wrote : (links : List (Option LinkView)) (outputs : List (List ℕ)) → line ≢ 0 → Writes notice sessions messages links outputs
      → Wrote (written_from 1 line_to outputs line) (filter (λ (message : Message Call). route links message.addressee == line) messages)
  wrote links outputs some writes =
      let all = pieces 1 links outputs writes.count
      (λ place within. subst (λ (n : ℕ). IsWritten (packets_for n notice sessions messages (link_at links place)) (get_or outputs place [])) (omega arith) (writes.each place within)) in
      record { its = all.its; each = all.each; whole = all.whole; said = routed links all.its some all.says }

-- nothing is written, and all messages are lost
pub wrote_nothing : (messages : List (Message Call)) (line : ℕ) → line ≢ 0 → Wrote [] (filter (λ (message : Message Call). 0 == line) messages)
wrote_nothing messages line some = record {
  its = [];
  each = tt;
  whole = refl;
  said = filter_none (λ (message : Message Call). 0 == line) messages (λ message. (let other : 0 ≢ line = λ e. some (sym e) in grind (arith, nat_tests)));
}
