-- What happens to a connection writes at its output's end, sends from its start, and lets no header
-- fall.
use Rattle.std.proofs.Common.{◌≡◌, ◌∙◌, ◌⊎◌, inl, inr, ℕ, ℤ, pos, ◌≤ℤ◌, int_lt, Bool, true, false, not, List, [], ◌∷◌, ◌++◌, take, drop, Option, Some, None, Result, Ok, Err, if◌then◌else◌, refl, sym, ap, subst, arith, append-nil}
use Rattle.std.specs.Prelude.{◌&&◌, is_none}
use Rattle.std.specs.Int.{int_max}
use Rattle.std.specs.List.{AllByRecursion}
use Rattle.std.proofs.lemmas.Bool.{cond_both, false≢true}
use Rattle.std.proofs.lemmas.Bool.Decides.{nat_tests}
use Rattle.std.proofs.lemmas.Int.{ints, int_max_is}
use Rattle.std.proofs.lemmas.List.{append_assoc, take-append-drop}
use Rattle.zk_client_session.proofs.Continuing.{frame_continues}
use Rattle.zk_client_session.specs.ConnectionWatches.{fires}
use Rattle.zk_client_session.specs.Links.{action_of, seeing}
use Rattle.zk_client_session.specs.Parts.{split}
use Rattle.zk_client_session.specs.Replies.{after_reply, event_frame, is_begun, zxid_in}
use Rattle.zk_client_session.specs.declared.ask.Action.{Action}
use Rattle.zk_client_session.specs.declared.ask.Immediate.{Immediate}
use Rattle.zk_client_session.specs.declared.ask.Immediate.TheVariants as immediates
use Rattle.zk_client_session.specs.declared.expected_reply.ExpectedReply.{ExpectedReply}
use Rattle.zk_client_session.specs.declared.link.Link.{Link}
use Rattle.zk_client_session.specs.declared.reply.Reply.{Reply}
use Rattle.zk_connections.specs.Connections.{closing, lost, may_open, new_connection, with_event, with_immediate, with_no_session, with_output, with_reply, with_session, session_in, session_of}
use Rattle.zk_connections.specs.Conversations.{all_bytes, asked_by, bytes_in, event_at, gives_session, headers, header_in, immediate_at, last_of, opened_at, remembered, reply_at, sent, sent_by, written, written_by, Answer, AtOnce, Closes, CutsOff, Event, Fires, Happens, IsConversation, IsFirst, Life, NoneFalls, NoSession, Opens, Prints, Rejects, Replies, RepliesAtOnce, Rests, Sends, Session, Takes, Text, Written}
use Rattle.zk_connections.specs.Inputs.{acts, connects, frame_in, rests, taken_action, taken_connect, taken_first, taken_frame, taken_in, taken_next, taken_of, taken_opening, taken_request, taken_word, worked}
use Rattle.zk_connections.specs.Words.{word_in}
use Rattle.zk_connections.specs.declared.connection.Connection.{Connection}
use Rattle.zk_connections.specs.declared.connection.Phase.{Phase}
use Rattle.zk_connections.specs.declared.connection.Phase.TheVariants.{New, Connecting, Connected}
use Rattle.zk_connections.specs.declared.input.Taken.{Taken}
use Rattle.zk_connections.specs.declared.word.Word.{Word}
use Rattle.zk_frames.specs.Frames.{next_frame_in}
use Rattle.zk_frames.specs.declared.fault.FrameFault.{FrameFault}
use Rattle.zk_frames.specs.declared.records.ConnectRequest.{ConnectRequest}
use Rattle.zk_frames.specs.declared.reply.ConnectResponse.{ConnectResponse}
use Rattle.zk_jute.specs.declared.fault.JuteFault.{JuteFault}
use Rattle.zk_machine.specs.declared.change.ChangeKind.{ChangeKind}

-- a connection with another phase, open or closing
abbrev at : Phase → Bool → Connection → Connection
at phase closes it = record it { phase = phase; closes = closes }

-- ---- zxids

at_least : (x y : ℤ) → x ≤ℤ int_max x y
at_least x y = let is = int_max_is x y in omega (arith, ints, is)

-- a client of a session remembers no header above what it has seen, if one above 0
abbrev IsSeen : ℤ → ℤ → Type 0
IsSeen last seen = (last ≤ℤ pos 0) ⊎ (last ≤ℤ seen)

abbrev Covers : Phase → ℤ → Type 0
Covers (Connected link) last = IsSeen last link.seen
Covers other last = last ≤ℤ pos 0

seen_later : (last seen zxid : ℤ) → IsSeen last seen → IsSeen last (int_max seen zxid)
seen_later last seen zxid (inl low) = inl low
seen_later last seen zxid (inr low) = inr (let more = at_least seen zxid in omega (arith, ints, low, more))

-- after a header, its zxid or what was remembered before
abbrev Rises : ℤ → ℤ → ℤ → Type 0
Rises last zxid seen = (last ≤ℤ remembered last zxid) × IsSeen (remembered last zxid) seen

positive : (zxid : ℤ) → int_lt (pos 0) zxid ≡ true → pos 0 ≤ℤ zxid
positive zxid is = grind (arith, nat_tests, ints)

same_zxid : (zxid : ℤ) → zxid ≤ℤ zxid
same_zxid zxid = omega (arith, ints)

above : (last seen zxid : ℤ) → IsSeen last seen → seen ≤ℤ zxid → pos 0 ≤ℤ zxid → last ≤ℤ zxid
above last seen zxid (inl low) more high = omega (arith, ints, low, high)
above last seen zxid (inr low) more high = omega (arith, ints, low, more)

rises : (last seen zxid : ℤ) → IsSeen last seen → Rises last (int_max seen zxid) (int_max seen zxid)
rises last seen zxid covers =
    cond_both (int_lt (pos 0) (int_max seen zxid)) (int_max seen zxid) last (λ next. (last ≤ℤ next) × IsSeen next (int_max seen zxid))
    (λ high. (above last seen (int_max seen zxid) covers (at_least seen zxid) (positive (int_max seen zxid) high), inr (same_zxid (int_max seen zxid))))
    (λ low. (same_zxid last, seen_later last seen zxid covers))

-- headers that are written, in a connection that then has this phase
abbrev Follows : ℤ → List ℤ → Phase → Type 0
Follows last [] phase = Covers phase last
Follows last (zxid ∷ zxids) phase = (last ≤ℤ remembered last zxid) × Follows (remembered last zxid) zxids phase

then_later : (last : ℤ) (zxids later : List ℤ) (phase : Phase) → Follows last zxids phase → ((next : ℤ) → Covers phase next → NoneFalls next later) → NoneFalls last (zxids ++ later)
then_later last [] later phase follows rest = rest last follows
then_later last (zxid ∷ zxids) later phase follows rest = (follows.0, then_later (remembered last zxid) zxids later phase follows.1 rest)

-- ---- what a step does

-- bytes come to the output's end, leave its start, or are dropped as it closes
data Moves (old new : Connection) (its : List Written) (out : List ℕ) : Type 0 where
  Appends : (output : new.output ≡ old.output ++ all_bytes its) (none : out ≡ []) → Moves old new its out
  Leaves : (output : old.output ≡ out ++ new.output) (none : its ≡ []) → Moves old new its out
  Drops : (closes : new.closes ≡ true) (output : new.output ≡ []) (none : its ≡ []) (unsent : out ≡ []) → Moves old new its out

-- before the session: nothing is written, or one thing, after which none may be opened
data Begins (new : Connection) (its : List Written) : Type 0 where
  NotYet : (none : its ≡ []) (may : may_open new ≡ true) → Begins new its
  Never : (none : its ≡ []) (closes : new.closes ≡ true) → Begins new its
  Once : (one : Written) (is : its ≡ one ∷ []) (first : IsFirst one) (ended : may_open new ≡ false) → Begins new its

record Steps (old new : Connection) (its : List Written) (out : List ℕ) : Type 0 where
  pub closes : old.closes ≡ true → (new.closes ≡ true) × (its ≡ [])
  pub moves : Moves old new its out
  pub stays : may_open old ≡ false → (may_open new ≡ false) × AllByRecursion (λ it. gives_session it ≡ false) its
  pub begins : may_open old ≡ true → Begins new its
  pub zxids : (last : ℤ) → Covers old.phase last → Follows last (headers its) new.phase

-- ---- kinds of steps

and_none : (b : Bool) → (b && false) ≡ false
and_none true = refl
and_none false = refl

-- with a session, or as it closes, none may be opened
has_one : (it : Connection) (link : Link) → it.phase ≡ Connected link → may_open it ≡ false
has_one it link is = ap (λ (p : Phase). not it.closes && is_none (session_in p)) is ∙ and_none (not it.closes)

is_shut : (it : Connection) → it.closes ≡ true → may_open it ≡ false
is_shut it is = ap (λ (c : Bool). not c && is_none (session_of it)) is

no_more : (b : Bool) → b ≡ false → b ≡ true → ⊥
no_more b is_false is_true = false≢true (sym is_false ∙ is_true)

-- nothing is written; whether a session may be opened, and what the client has seen, stay
quiet : (old new : Connection) (out : List ℕ) → may_open new ≡ may_open old → new.closes ≡ old.closes → old.output ≡ out ++ new.output
    → ((last : ℤ) → Covers old.phase last → Covers new.phase last) → Steps old new [] out
quiet old new out may shut output covers = record {
  closes = λ is. (shut ∙ is, refl);
  moves = Leaves output refl;
  stays = λ is. (may ∙ is, tt);
  begins = λ is. NotYet refl (may ∙ is);
  zxids = covers;
}

idle : (it : Connection) → Steps it it [] []
idle it = quiet it it [] refl refl refl (λ last covers. covers)

-- nothing is written, as it closes or has closed
ends : (old new : Connection) → new.closes ≡ true → Moves old new [] [] → ((last : ℤ) → Covers old.phase last → Covers new.phase last) → Steps old new [] []
ends old new shut moves covers = record {
  closes = λ _. (shut, refl);
  moves = moves;
  stays = λ _. (is_shut new shut, tt);
  begins = λ _. Never refl shut;
  zxids = covers;
}

-- something is written to an open connection that has a session
answers : (old new : Connection) (link after : Link) (its : List Written) → old.phase ≡ Connected link → old.closes ≡ false → new.phase ≡ Connected after
    → new.output ≡ old.output ++ all_bytes its → AllByRecursion (λ it. gives_session it ≡ false) its
    → ((last : ℤ) → IsSeen last link.seen → Follows last (headers its) (Connected after)) → Steps old new its []
answers old new link after its was is_open is output none follows = record {
  closes = λ shut. absurd (no_more old.closes is_open shut);
  moves = Appends output refl;
  stays = λ _. (has_one new after is, none);
  begins = λ may. absurd (no_more (may_open old) (has_one old link was) may);
  zxids = λ last covers. subst (Follows last (headers its)) (sym is) (follows last (subst (λ (p : Phase). Covers p last) was covers));
}

-- the first thing is written to an open connection that has no session
begun : (old new : Connection) (one : Written) → may_open old ≡ true → old.closes ≡ false → may_open new ≡ false → IsFirst one → new.output ≡ old.output ++ all_bytes (one ∷ [])
    → ((last : ℤ) → Covers old.phase last → Follows last (headers (one ∷ [])) new.phase) → Steps old new (one ∷ []) []
begun old new one may is_open ended first output follows = record {
  closes = λ shut. absurd (no_more old.closes is_open shut);
  moves = Appends output refl;
  stays = λ none. absurd (no_more (may_open old) none may);
  begins = λ _. Once one refl first ended;
  zxids = follows;
}

alone : (output bytes : List ℕ) → output ++ bytes ≡ output ++ (bytes ++ [])
alone output bytes = ap (λ (l : List ℕ). output ++ l) (sym (append-nil bytes))

-- ---- each step

-- an event
fired : (fires : Bool) (kind : ChangeKind) (path : List ℕ) (old new : Connection) (link : Link) → old.phase ≡ Connected link → old.closes ≡ false → new.phase ≡ Connected link
    → new.output ≡ old.output ++ (if fires then event_frame kind path else []) → Steps old new (if fires then Event kind path ∷ [] else []) []
fired true kind path old new link was is_open is output =
    answers old new link link (Event kind path ∷ []) was is_open is (output ∙ alone old.output (event_frame kind path)) (refl, tt) (λ last covers. covers)
fired false kind path old new link was is_open is output = answers old new link link [] was is_open is output tt (λ last covers. covers)

event_steps : (kind : ChangeKind) (path : List ℕ) (phase : Phase) (closes : Bool) (it : Connection)
    → Steps (at phase closes it) (with_event kind path (at phase closes it)) (if closes then [] else event_at phase kind path (at phase closes it)) []
event_steps kind path New true it = idle _
event_steps kind path New false it = idle _
event_steps kind path Connecting true it = idle _
event_steps kind path Connecting false it = idle _
event_steps kind path (Connected link) true it = ends _ _ refl (Leaves refl refl) (λ last covers. covers)
event_steps kind path (Connected link) false it = fired (fires kind path it.watches) kind path _ _ link refl refl refl refl

-- a reply
answered : (is_begun : Bool) (last zxid : ℤ) (link : Link) → IsSeen last link.seen
    → Follows last ((if is_begun then [] else (seeing link zxid).seen ∷ []) ++ []) (Connected (seeing link zxid))
answered true last zxid link covers = seen_later last link.seen zxid covers
answered false last zxid link covers = rises last link.seen zxid covers

reply_steps : (expected : ExpectedReply) (reply : Reply) (phase : Phase) (closes : Bool) (it : Connection)
    → Steps (at phase closes it) (with_reply expected reply (at phase closes it)) (if closes then [] else reply_at phase expected reply) []
reply_steps expected reply New true it = idle _
reply_steps expected reply New false it = idle _
reply_steps expected reply Connecting true it = idle _
reply_steps expected reply Connecting false it = idle _
reply_steps expected reply (Connected link) true it = ends _ _ refl (Leaves refl refl) (λ last covers. seen_later last link.seen (zxid_in reply) covers)
reply_steps expected reply (Connected link) false it =
    answers _ _ link (after_reply link reply) (Answer (after_reply link reply) expected reply ∷ []) refl refl refl (alone it.output _) (refl, tt)
    (λ last covers. answered (is_begun expected.kind) last (zxid_in reply) link covers)

-- a reply at once
at_once : (immediate : Immediate) (last : ℤ) (link : Link) (zxid : ℤ) → IsSeen last link.seen
    → Follows last (headers (AtOnce (seeing link zxid) immediate ∷ [])) (Connected (seeing link zxid))
at_once immediates.Ping last link zxid covers = rises last link.seen zxid covers
at_once (immediates.Authenticated xid) last link zxid covers = (same_zxid last, seen_later last link.seen zxid covers)
at_once (immediates.NotAuthenticated xid) last link zxid covers = (same_zxid last, seen_later last link.seen zxid covers)
at_once (immediates.Unimplemented xid) last link zxid covers = (same_zxid last, seen_later last link.seen zxid covers)
at_once (immediates.Rejected xid code) last link zxid covers = rises last link.seen zxid covers

immediate_steps : (zxid : ℤ) (immediate : Immediate) (phase : Phase) (closes : Bool) (it : Connection)
    → Steps (at phase closes it) (with_immediate zxid immediate (at phase closes it)) (if closes then [] else immediate_at phase zxid immediate) []
immediate_steps zxid immediate New true it = idle _
immediate_steps zxid immediate New false it = idle _
immediate_steps zxid immediate Connecting true it = idle _
immediate_steps zxid immediate Connecting false it = idle _
immediate_steps zxid immediate (Connected link) true it = ends _ _ refl (Leaves refl refl) (λ last covers. seen_later last link.seen zxid covers)
immediate_steps zxid immediate (Connected link) false it =
    answers _ _ link (seeing link zxid) (AtOnce (seeing link zxid) immediate ∷ []) refl refl refl (alone it.output _) (refl, tt)
    (λ last covers. at_once immediate last link zxid covers)

-- a session
open_steps : (response : ConnectResponse) (seen : ℤ) (phase : Phase) (closes : Bool) (it : Connection)
    → Steps (at phase closes it) (with_session response seen (at phase closes it)) (if closes then [] else opened_at (may_open (at phase closes it)) response) []
open_steps response seen New true it = idle _
open_steps response seen New false it = begun _ _ (Session response) refl refl refl tt (alone it.output _) (λ last covers. inl covers)
open_steps response seen Connecting true it = idle _
open_steps response seen Connecting false it = begun _ _ (Session response) refl refl refl tt (alone it.output _) (λ last covers. inl covers)
open_steps response seen (Connected link) true it = idle _
open_steps response seen (Connected link) false it = idle _

-- no session, or a text; then it closes
reject_steps : (read_only : Option Bool) (phase : Phase) (closes : Bool) (it : Connection)
    → Steps (at phase closes it) (with_no_session read_only (at phase closes it)) (if closes then [] else NoSession read_only ∷ []) []
reject_steps read_only phase true it = ends _ _ refl (Leaves refl refl) (λ last covers. covers)
reject_steps read_only New false it = begun _ _ (NoSession read_only) refl refl refl tt (alone it.output _) (λ last covers. covers)
reject_steps read_only Connecting false it = begun _ _ (NoSession read_only) refl refl refl tt (alone it.output _) (λ last covers. covers)
reject_steps read_only (Connected link) false it = answers _ _ link link (NoSession read_only ∷ []) refl refl refl (alone it.output _) (refl, tt) (λ last covers. covers)

print_steps : (text : List ℕ) (phase : Phase) (closes : Bool) (it : Connection)
    → Steps (at phase closes it) (closing (with_output text (at phase closes it))) (if closes then [] else Text text ∷ []) []
print_steps text phase true it = ends _ _ refl (Leaves refl refl) (λ last covers. covers)
print_steps text New false it = begun _ _ (Text text) refl refl refl tt (alone it.output text) (λ last covers. covers)
print_steps text Connecting false it = begun _ _ (Text text) refl refl refl tt (alone it.output text) (λ last covers. covers)
print_steps text (Connected link) false it = answers _ _ link link (Text text ∷ []) refl refl refl (alone it.output text) (refl, tt) (λ last covers. covers)

-- ---- a frame is taken

-- a session is as it was, or there is still none
abbrev Alike : Phase → Phase → Type 0
Alike (Connected link) (Connected after) = after.seen ≡ link.seen
Alike (Connected link) New = ⊥
Alike (Connected link) Connecting = ⊥
Alike New (Connected after) = ⊥
Alike Connecting (Connected after) = ⊥
Alike New other = Unit {0}
Alike Connecting other = Unit {0}

same_phase : (phase : Phase) → Alike phase phase
same_phase New = tt
same_phase Connecting = tt
same_phase (Connected link) = refl

alike_none : (old new : Phase) → Alike old new → is_none (session_in new) ≡ is_none (session_in old)
alike_none New New alike = refl
alike_none New Connecting alike = refl
alike_none New (Connected link) alike = absurd alike
alike_none Connecting New alike = refl
alike_none Connecting Connecting alike = refl
alike_none Connecting (Connected link) alike = absurd alike
alike_none (Connected link) New alike = absurd alike
alike_none (Connected link) Connecting alike = absurd alike
alike_none (Connected link) (Connected after) alike = refl

alike_covers : (old new : Phase) (last : ℤ) → Alike old new → Covers old last → Covers new last
alike_covers New New last alike covers = covers
alike_covers New Connecting last alike covers = covers
alike_covers New (Connected link) last alike covers = absurd alike
alike_covers Connecting New last alike covers = covers
alike_covers Connecting Connecting last alike covers = covers
alike_covers Connecting (Connected link) last alike covers = absurd alike
alike_covers (Connected link) New last alike covers = absurd alike
alike_covers (Connected link) Connecting last alike covers = absurd alike
alike_covers (Connected link) (Connected after) last alike covers = subst (IsSeen last) (sym alike) covers

record TakesOnly (old new : Connection) : Type 0 where
  pub output : new.output ≡ old.output
  pub closes : new.closes ≡ old.closes
  pub phase : Alike old.phase new.phase

takes_none : (it : Connection) → TakesOnly it it
takes_none it = record { output = refl; closes = refl; phase = same_phase it.phase }

broke : (it : Connection) → TakesOnly it (record it { ends = true })
broke it = record { output = refl; closes = refl; phase = same_phase it.phase }

-- the same connection in a phase
abbrev with_phase : Phase → Connection → Connection
with_phase phase it = record it { phase = phase }

work_takes : (parts : Action × Option Action) (n : ℕ) (link after : Link) (it : Connection) → after.seen ≡ link.seen
    → TakesOnly (with_phase (Connected link) it) (worked parts n (with_phase (Connected after) it)).0
work_takes (action, None) n link after it seen = record { output = refl; closes = refl; phase = seen }
work_takes (part, Some rest) n link after it seen = record { output = refl; closes = refl; phase = seen }

left_takes : (parts : Action × Option Action) (n : ℕ) (it : Connection) → TakesOnly it (worked parts n it).0
left_takes (action, None) n it = record { output = refl; closes = refl; phase = same_phase it.phase }
left_takes (part, Some rest) n it = record { output = refl; closes = refl; phase = same_phase it.phase }

action_takes : (phase : Phase) (n : ℕ) (it : Connection) → TakesOnly (with_phase phase it) (taken_action phase n (with_phase phase it)).0
action_takes New n it = takes_none (with_phase New it)
action_takes Connecting n it = takes_none (with_phase Connecting it)
action_takes (Connected link) n it =
    work_takes (split it.work (action_of link (frame_in n it.input)).1) n link (action_of link (frame_in n it.input)).0 it (frame_continues link (frame_in n it.input)).seen

frame_takes : (left : Option Action) (n : ℕ) (it : Connection) → TakesOnly it (taken_frame left n it).0
frame_takes None n it = action_takes it.phase n it
frame_takes (Some action) n it = left_takes (split it.work action) n it

next_takes : (frame : Result (Option ℕ) FrameFault) (it : Connection) → TakesOnly it (taken_next frame it).0
next_takes (Ok (Some n)) it = frame_takes it.left n it
next_takes (Ok None) it = takes_none it
next_takes (Err fault) it = broke it

connect_takes : (request : Result ConnectRequest JuteFault) (n : ℕ) (it : Connection) → TakesOnly (with_phase New it) (connects request n (with_phase New it)).0
connect_takes (Ok request) n it = record { output = refl; closes = refl; phase = tt }
connect_takes (Err fault) n it = broke (with_phase New it)

open_takes : (frame : Result (Option ℕ) FrameFault) (it : Connection) → TakesOnly (with_phase New it) (taken_opening frame (with_phase New it)).0
open_takes (Ok (Some n)) it = connect_takes _ n it
open_takes (Ok None) it = takes_none (with_phase New it)
open_takes (Err fault) it = broke (with_phase New it)

word_takes : (word : Option Word) (it : Connection) → TakesOnly (with_phase New it) (taken_word word (with_phase New it)).0
word_takes (Some word) it = broke (with_phase New it)
word_takes None it = open_takes _ it

phase_takes : (phase : Phase) (it : Connection) → TakesOnly (with_phase phase it) (taken_in phase (with_phase phase it)).0
phase_takes New it = word_takes _ it
phase_takes Connecting it = takes_none (with_phase Connecting it)
phase_takes (Connected link) it = next_takes _ (with_phase (Connected link) it)

takes : (it : Connection) → TakesOnly it (taken_of it).0
takes it = cond_both (rests it) (it, None) (taken_in it.phase it) (λ taken. TakesOnly it taken.0) (λ _. takes_none it) (λ _. phase_takes it.phase it)

take_steps : (old new : Connection) → TakesOnly old new → Steps old new [] []
take_steps old new only =
    quiet old new [] (ap (λ (c : Bool). not c && is_none (session_of new)) only.closes ∙ ap (λ (n : Bool). not old.closes && n) (alike_none old.phase new.phase only.phase))
    only.closes (sym only.output) (λ last covers. alike_covers old.phase new.phase last only.phase covers)

-- ---- any step

silent : (old new : Connection) (out : List ℕ) (b : Bool) → Steps old new [] out → Steps old new (if b then [] else []) out
silent old new out true steps = steps
silent old new out false steps = steps

send_steps : (count : ℕ) (it : Connection) → Steps it (record it { output = drop count it.output }) [] (take count it.output)
send_steps count it = quiet it (record it { output = drop count it.output }) (take count it.output) refl refl (sym (take-append-drop count it.output)) (λ last covers. covers)

step : (old new : Connection) (it : Happens old new) → Steps old new (written_by old new it) (sent_by old new it)
step old new (Fires kind path is) =
    subst (λ (n : Connection). Steps old n (if old.closes then [] else event_at old.phase kind path old) []) (sym is) (event_steps kind path old.phase old.closes old)
step old new (Replies expected reply is) =
    subst (λ (n : Connection). Steps old n (if old.closes then [] else reply_at old.phase expected reply) []) (sym is) (reply_steps expected reply old.phase old.closes old)
step old new (RepliesAtOnce last immediate is) =
    subst (λ (n : Connection). Steps old n (if old.closes then [] else immediate_at old.phase last immediate) []) (sym is) (immediate_steps last immediate old.phase old.closes old)
step old new (Opens response seen is) =
    subst (λ (n : Connection). Steps old n (if old.closes then [] else opened_at (may_open old) response) []) (sym is) (open_steps response seen old.phase old.closes old)
step old new (Rejects read_only is) =
    subst (λ (n : Connection). Steps old n (if old.closes then [] else NoSession read_only ∷ []) []) (sym is) (reject_steps read_only old.phase old.closes old)
step old new (Prints text is) =
    subst (λ (n : Connection). Steps old n (if old.closes then [] else Text text ∷ []) []) (sym is) (print_steps text old.phase old.closes old)
step old new (Sends count is) =
    silent old new (take count old.output) old.closes (subst (λ (n : Connection). Steps old n [] (take count old.output)) (sym is) (send_steps count old))
step old new (Closes is) =
    silent old new [] old.closes (subst (λ (n : Connection). Steps old n [] []) (sym is) (ends old (closing old) refl (Leaves refl refl) (λ last covers. covers)))
step old new (CutsOff is) =
    silent old new [] old.closes (subst (λ (n : Connection). Steps old n [] []) (sym is) (ends old (lost old) refl (Drops refl refl refl refl) (λ last covers. covers)))
step old new (Takes taken is) =
    silent old new [] old.closes (take_steps old new (subst (λ (pair : Connection × Option Taken). TakesOnly old pair.0) is (takes old)))
step old new (Rests phase output closes) =
    silent old new [] old.closes
    (take_steps old new (record { output = output; closes = closes; phase = subst (Alike old.phase) (sym phase) (same_phase old.phase) }))

-- ---- nothing is left out

bytes_of_both : (xs ys : List Written) → all_bytes (xs ++ ys) ≡ all_bytes xs ++ all_bytes ys
bytes_of_both [] ys = refl
bytes_of_both (x ∷ xs) ys = ap (λ (l : List ℕ). bytes_in x ++ l) (bytes_of_both xs ys) ∙ sym (append_assoc (bytes_in x) (all_bytes xs) (all_bytes ys))

closed : (old : Connection) (later : List Connection) (life : Life old later) → old.closes ≡ true → written old later life ≡ []
closed old [] life shut = refl
closed old (new ∷ later) life shut =
    let one = (step old new life.0).closes shut in
    ap (λ (l : List Written). l ++ written new later life.1) one.1 ∙ closed new later life.1 one.0

-- what waits, and what is written later, is what is sent and waits then, but for what is dropped
abbrev IsWhole : List ℕ → List Written → List ℕ → List ℕ → Type 0
IsWhole output its out left = (dropped : List ℕ) × (output ++ all_bytes its ≡ (out ++ left) ++ dropped)

no_front : (xs ys : List ℕ) → [] ≡ xs ++ ys → xs ≡ []
no_front [] ys is = refl
no_front (x ∷ xs) ys is = absurd cc

module _ (old new : Connection) (its later : List Written) (out gone left : List ℕ) where
  moved : Moves old new its out → (new.closes ≡ true → later ≡ []) → IsWhole new.output later gone left → IsWhole old.output (its ++ later) (out ++ gone) left
  moved (Appends output none) shut whole = (
    whole.0,
    ap (λ (l : List ℕ). old.output ++ l) (bytes_of_both its later) ∙ sym (append_assoc old.output (all_bytes its) (all_bytes later))
        ∙ ap (λ (l : List ℕ). l ++ all_bytes later) (sym output) ∙ whole.1 ∙ ap (λ (l : List ℕ). ((l ++ gone) ++ left) ++ whole.0) (sym none),
  )
  moved (Leaves output none) shut whole = (
    whole.0,
    ap (λ (l : List Written). old.output ++ all_bytes (l ++ later)) none ∙ ap (λ (l : List ℕ). l ++ all_bytes later) output
        ∙ append_assoc out new.output (all_bytes later) ∙ ap (λ (l : List ℕ). out ++ l) whole.1
        ∙ sym (append_assoc out (gone ++ left) whole.0) ∙ ap (λ (l : List ℕ). l ++ whole.0) (sym (append_assoc out gone left)),
  )
  moved (Drops closes output none unsent) shut whole =
      let empty : gone ++ left ≡ [] =
      no_front (gone ++ left) whole.0 (sym (ap (λ (l : List ℕ). l ++ all_bytes later) output ∙ ap (λ (l : List Written). all_bytes l) (shut closes)) ∙ whole.1) in (
        old.output,
        ap (λ (l : List Written). old.output ++ all_bytes (l ++ later)) none ∙ ap (λ (l : List Written). old.output ++ all_bytes l) (shut closes) ∙ append-nil old.output
            ∙ ap (λ (l : List ℕ). l ++ old.output) (sym empty) ∙ ap (λ (l : List ℕ). ((l ++ gone) ++ left) ++ old.output) (sym unsent),
      )

pub whole : (old : Connection) (later : List Connection) (life : Life old later) → IsWhole old.output (written old later life) (sent old later life) (last_of old later).output
whole old [] life = ([], refl)
whole old (new ∷ later) life =
    moved old new (written_by old new life.0) (written new later life.1) (sent_by old new life.0) (sent new later life.1) (last_of new later).output
    (step old new life.0).moves (closed new later life.1) (whole new later life.1)

-- ---- the session comes first

both_all : (xs ys : List Written) → AllByRecursion (λ it. gives_session it ≡ false) xs → AllByRecursion (λ it. gives_session it ≡ false) ys → AllByRecursion (λ it. gives_session it ≡ false) (xs ++ ys)
both_all [] ys first rest = rest
both_all (x ∷ xs) ys first rest = (first.0, both_all xs ys first.1 rest)

none_more : (old : Connection) (later : List Connection) (life : Life old later) → may_open old ≡ false → AllByRecursion (λ it. gives_session it ≡ false) (written old later life)
none_more old [] life none = tt
none_more old (new ∷ later) life none =
    let one = (step old new life.0).stays none in
    both_all (written_by old new life.0) (written new later life.1) one.1 (none_more new later life.1 one.0)

began : (new : Connection) (its later : List Written) → Begins new its → (may_open new ≡ true → IsConversation later) → (new.closes ≡ true → later ≡ [])
    → (may_open new ≡ false → AllByRecursion (λ it. gives_session it ≡ false) later) → IsConversation (its ++ later)
began new its later (NotYet none may) goes shut rest = subst (λ (l : List Written). IsConversation (l ++ later)) (sym none) (goes may)
began new its later (Never none closes) goes shut rest =
    subst (λ (l : List Written). IsConversation (l ++ later)) (sym none) (subst IsConversation (sym (shut closes)) tt)
began new its later (Once one is first ended) goes shut rest = subst (λ (l : List Written). IsConversation (l ++ later)) (sym is) (first, rest ended)

pub converses : (old : Connection) (later : List Connection) (life : Life old later) → may_open old ≡ true → IsConversation (written old later life)
converses old [] life may = tt
converses old (new ∷ later) life may =
    began new (written_by old new life.0) (written new later life.1) ((step old new life.0).begins may) (converses new later life.1) (closed new later life.1) (none_more new later life.1)

-- ---- headers never fall

headers_of_both : (xs ys : List Written) → headers (xs ++ ys) ≡ headers xs ++ headers ys
headers_of_both [] ys = refl
headers_of_both (x ∷ xs) ys = ap (λ (l : List ℤ). header_in x ++ l) (headers_of_both xs ys) ∙ sym (append_assoc (header_in x) (headers xs) (headers ys))

pub none_falls : (old : Connection) (later : List Connection) (life : Life old later) (last : ℤ) → Covers old.phase last → NoneFalls last (headers (written old later life))
none_falls old [] life last covers = tt
none_falls old (new ∷ later) life last covers =
    subst (NoneFalls last) (sym (headers_of_both (written_by old new life.0) (written new later life.1)))
    (then_later last (headers (written_by old new life.0)) (headers (written new later life.1)) new.phase ((step old new life.0).zxids last covers)
    (λ next. none_falls new later life.1 next))
