-- What is known of syncs: a tag was taken by one server, in one epoch, whose leader had delivered
-- this many then.
use Rattle.std.proofs.Common.{◌≡◌, ℕ, zero, suc, ◌<◌, ◌≤◌, ◌==◌, nat_le, true, cond, List, [], ◌∷◌, insert, map, Option, Some, None, Result, Ok, Err, sym, ap, subst, ◌∙◌, arith}
use Rattle.std.proofs.lemmas.Bool.Decides.{nat_tests}
use Rattle.std.specs.List.{AllByRecursion}
use Rattle.zab_epoch.specs.declared.rule_fault.RuleFault.{RuleFault}
use Rattle.zab_epoch.specs.declared.message.Body.{Body}
use Rattle.zab_epoch.specs.declared.message.Body.TheVariants.{SyncAsk, SyncTell}
use Rattle.zab_epoch.specs.declared.message.Body.TheVariants as say
use Rattle.zab_epoch.specs.declared.message.Message.{Message}
use Rattle.zab_epoch.specs.declared.role.Role.{Role}
use Rattle.zab_epoch.specs.declared.role.Role.TheVariants.{Following}
use Rattle.zab_broadcast.specs.declared.state.State.{State}
use Rattle.zab_broadcast.specs.declared.syncs.Asked.{Asked}
use Rattle.zab_broadcast.specs.declared.syncs.Caught.{Caught}
use Rattle.zab_broadcast.specs.Rules as rules
use Rattle.zab_broadcast.specs.Syncs.{newly_asked, caught_at, position_of, with_asked, first_told, told_one, told, is_reached, left_asked, caught_of, newly_caught}
use Rattle.zab_rule_laws.proofs.TagFacts.{by_test, eq_is, all_append, same_some}

-- the server that took it, in which epoch, that epoch's leader, and how many the leader had
-- delivered
pub record Taken : Type 0 where
  pub server : ℕ
  pub epoch : ℕ
  pub leader : ℕ
  pub delivered : ℕ

-- what is known of each tag
abbrev pub Book : Type 0
Book = ℕ → Option Taken

abbrev pub nothing_taken : Book
nothing_taken = λ tag. None

abbrev pub Grows : Book → Book → Type 0
Grows book later = (tag : ℕ) (it : Taken) → book tag ≡ Some it → later tag ≡ Some it

-- ---- what messages say

-- the server took it in that epoch
pub record IsOf (book : Book) (server epoch tag : ℕ) : Type 0 where
  pub it : Taken
  pub is : book tag ≡ Some it
  pub server_is : it.server ≡ server
  pub epoch_is : it.epoch ≡ epoch

-- the leader had delivered at most this many
pub record IsWithin (book : Book) (tag length : ℕ) : Type 0 where
  pub it : Taken
  pub is : book tag ≡ Some it
  pub low : it.delivered ≤ length

abbrev pub BodyFact : {C : Type 0} → Book → ℕ → Body C → Type 0
BodyFact book from (SyncAsk epoch tag) = IsOf book from epoch tag
BodyFact book from (SyncTell epoch tag length) = IsWithin book tag length
BodyFact book from _ = Unit {0}

abbrev pub MessageFact : {C : Type 0} → Book → Message C → Type 0
MessageFact book m = BodyFact book m.sender m.body

abbrev pub SentFact : {C : Type 0} → Book → Result (List (Message C)) RuleFault → Type 0
SentFact book (Ok messages) = AllByRecursion (MessageFact book) messages
SentFact book (Err fault) = Unit {0}

-- ---- what servers have

abbrev pub ToldFact : ℕ → Option ℕ → Type 0
ToldFact delivered None = Unit {0}
ToldFact delivered (Some length) = delivered ≤ length

-- its server asked, and a received length is not below what the leader had delivered
pub record IsAsked (book : Book) (n : ℕ) (one : Asked) : Type 0 where
  pub it : Taken
  pub is : book one.tag ≡ Some it
  pub server_is : it.server ≡ n
  pub told : ToldFact it.delivered one.length

-- the server took it, the length is not below what the leader had delivered, and that many are
-- delivered
pub record IsAnswered (book : Book) (n delivered : ℕ) (one : Caught) : Type 0 where
  pub it : Taken
  pub is : book one.tag ≡ Some it
  pub server_is : it.server ≡ n
  pub low : it.delivered ≤ one.length
  pub reached : one.length ≤ delivered

abbrev pub IsSynced : Role → Type 0
IsSynced (Following leader synced) = synced ≡ true
IsSynced _ = ⊥

pub record ServerFact (book : Book) (n : ℕ) (state : State) : Type 0 where
  pub asked : AllByRecursion (IsAsked book n) state.asked
  pub caught : AllByRecursion (IsAnswered book n state.delivered) state.caught
  -- a synced follower has joined an epoch
  pub synced : IsSynced state.peer.role → 0 < state.peer.stable.current

-- what a server did
pub record ActsFact {C : Type 0} (book : Book) (n : ℕ) (acts : rules.Acts C) : Type 0 where
  pub server : ServerFact book n acts.0
  pub sent : SentFact book acts.1

-- a rule keeps it where no less is delivered afterwards
abbrev pub Keeps : {C : Type 0} → Book → ℕ → State → rules.Acts C → Type 0
Keeps book n state acts = state.delivered ≤ acts.0.delivered → ActsFact book n acts

-- ---- lists

pub all_to : {A : Type 0} (P Q : A → Type 0) (xs : List A) → ((x : A) → P x → Q x) → AllByRecursion P xs → AllByRecursion Q xs
all_to P Q [] f p = tt
all_to P Q (x ∷ xs) f p = (f x p.0, all_to P Q xs f p.1)

all_insert : {A : Type 0} (P : A → Type 0) (xs : List A) (i : ℕ) (x : A) → AllByRecursion P xs → P x → AllByRecursion P (insert xs i x)
all_insert P xs zero x p q = (q, p)
all_insert P [] (suc i) x p q = (q, tt)
all_insert P (y ∷ xs) (suc i) x p q = (p.0, all_insert P xs i x p.1 q)

all_map : {A : Type 0} (P : A → Type 0) (f : A → A) (xs : List A) → ((x : A) → P x → P (f x)) → AllByRecursion P xs → AllByRecursion P (map f xs)
all_map P f [] keeps p = tt
all_map P f (x ∷ xs) keeps p = (keeps x p.0, all_map P f xs keeps p.1)

-- ---- it grows

asked_grows : (book later : Book) (n : ℕ) → Grows book later → (one : Asked) → IsAsked book n one → IsAsked later n one
asked_grows book later n grows one f = record { it = f.it; is = grows one.tag f.it f.is; server_is = f.server_is; told = f.told }

pub answered_grows : (book later : Book) (n delivered more : ℕ) → Grows book later → delivered ≤ more → (one : Caught) → IsAnswered book n delivered one → IsAnswered later n more one
answered_grows book later n delivered more grows low one f =
    let reached : one.length ≤ delivered = f.reached in
    record { it = f.it; is = grows one.tag f.it f.is; server_is = f.server_is; low = f.low; reached = omega arith }

pub all_asked_grow : (book later : Book) (n : ℕ) (asked : List Asked) → Grows book later → AllByRecursion (IsAsked book n) asked → AllByRecursion (IsAsked later n) asked
all_asked_grow book later n asked grows f = all_to (IsAsked book n) (IsAsked later n) asked (asked_grows book later n grows) f

pub all_answered_grow : (book later : Book) (n delivered more : ℕ) (caught : List Caught) → Grows book later → delivered ≤ more → AllByRecursion (IsAnswered book n delivered) caught → AllByRecursion (IsAnswered later n more) caught
all_answered_grow book later n delivered more caught grows low f =
    all_to (IsAnswered book n delivered) (IsAnswered later n more) caught (answered_grows book later n delivered more grows low) f

pub server_grows : (book later : Book) (n : ℕ) (state : State) → Grows book later → ServerFact book n state → ServerFact later n state
server_grows book later n state grows f = record {
  asked = all_asked_grow book later n state.asked grows f.asked;
  caught = all_answered_grow book later n state.delivered state.delivered state.caught grows (omega arith) f.caught;
  synced = f.synced;
}

body_grows : {C : Type 0} (book later : Book) (from : ℕ) (body : Body C) → Grows book later → BodyFact book from body → BodyFact later from body
body_grows book later from (say.CEpoch promised) grows f = tt
body_grows book later from (say.NewEpoch epoch) grows f = tt
body_grows book later from (say.AckEpoch epoch vote current last) grows f = tt
body_grows book later from (say.NewLeader epoch keep rest) grows f = tt
body_grows book later from (say.AckLeader epoch count) grows f = tt
body_grows book later from (say.Propose epoch index entry) grows f = tt
body_grows book later from (say.Ack epoch count) grows f = tt
body_grows book later from (say.Commit epoch count) grows f = tt
body_grows book later from (say.Request epoch call) grows f = tt
body_grows book later from (SyncAsk epoch tag) grows f =
    record { it = f.it; is = grows tag f.it f.is; server_is = f.server_is; epoch_is = f.epoch_is }
body_grows book later from (SyncTell epoch tag length) grows f = record { it = f.it; is = grows tag f.it f.is; low = f.low }

pub messages_grow : {C : Type 0} (book later : Book) (messages : List (Message C)) → Grows book later → AllByRecursion (MessageFact book) messages → AllByRecursion (MessageFact later) messages
messages_grow {C} book later messages grows f =
    all_to (MessageFact {C = C} book) (MessageFact later) messages (λ m. body_grows book later m.sender m.body grows) f

-- ---- what is asked

-- one more is asked
pub asks : (book : Book) (n tag : ℕ) (asked : List Asked) (it : Taken) → book tag ≡ Some it → it.server ≡ n → AllByRecursion (IsAsked book n) asked → AllByRecursion (IsAsked book n) (with_asked tag asked)
asks book n tag asked it is server f =
    all_insert (IsAsked book n) asked (position_of tag asked) (newly_asked tag) f (record { it = it; is = is; server_is = server; told = tt })

first_low : (delivered length : ℕ) (before : Option ℕ) → delivered ≤ length → ToldFact delivered before → ToldFact delivered (first_told length before)
first_low delivered length None low f = low
first_low delivered length (Some before) low f = f

one_told : (book : Book) (n tag length : ℕ) → IsWithin book tag length → (one : Asked) → IsAsked book n one → IsAsked book n (told_one tag length one)
one_told book n tag length within one f =
    by_test (IsAsked book n) (one.tag == tag) (record { tag = one.tag; length = first_told length one.length }) one
    (λ e.
    (let same : within.it ≡ f.it = same_some within.it f.it (sym within.is ∙ (ap book (sym (eq_is one.tag tag e)) ∙ f.is)) in
    record {
      it = f.it;
      is = f.is;
      server_is = f.server_is;
      told = first_low f.it.delivered length one.length (subst (λ (it : Taken). it.delivered ≤ length) same within.low) f.told;
    }))
    (λ e. f)

-- the leader has sent a length for a tag
pub tells : (book : Book) (n tag length : ℕ) (asked : List Asked) → IsWithin book tag length → AllByRecursion (IsAsked book n) asked → AllByRecursion (IsAsked book n) (told tag length asked)
tells book n tag length asked within f = all_map (IsAsked book n) (told_one tag length) asked (one_told book n tag length within) f

-- what is left
pub left : (book : Book) (n delivered : ℕ) (asked : List Asked) → AllByRecursion (IsAsked book n) asked → AllByRecursion (IsAsked book n) (left_asked delivered asked)
left book n delivered [] f = tt
left book n delivered (one ∷ more) f =
    all_append (IsAsked book n) (cond (is_reached delivered one.length) [] (one ∷ [])) (left_asked delivered more)
    (by_test (AllByRecursion (IsAsked book n)) (is_reached delivered one.length) [] (one ∷ []) (λ e. tt) (λ e. (f.0, tt)))
    (left book n delivered more f.1)

at_most_is : (a b : ℕ) → nat_le a b ≡ true → a ≤ b
at_most_is a b e = grind (arith, nat_tests)

one_caught : (book : Book) (n delivered tag : ℕ) (it : Taken) (length : Option ℕ) → book tag ≡ Some it → it.server ≡ n → ToldFact it.delivered length → AllByRecursion (IsAnswered book n delivered) (caught_of delivered tag length)
one_caught book n delivered tag it None is server f = tt
one_caught book n delivered tag it (Some length) is server f =
    by_test (AllByRecursion (IsAnswered book n delivered)) (nat_le length delivered) (caught_at tag length ∷ []) []
    (λ e. (record { it = it; is = is; server_is = server; low = f; reached = at_most_is length delivered e }, tt))
    (λ e. tt)

-- and what completes
pub catches : (book : Book) (n delivered : ℕ) (asked : List Asked) → AllByRecursion (IsAsked book n) asked → AllByRecursion (IsAnswered book n delivered) (newly_caught delivered asked)
catches book n delivered [] f = tt
catches book n delivered (one ∷ more) f =
    all_append (IsAnswered book n delivered) (caught_of delivered one.tag one.length) (newly_caught delivered more)
    (one_caught book n delivered one.tag f.0.it one.length f.0.is f.0.server_is f.0.told)
    (catches book n delivered more f.1)
