-- One more expired session; and then the event of the ask.
use Rattle.std.proofs.Common.{◌≡◌, inl, inr, ℕ, ℤ, ◌+◌, List, [], ◌∷◌, ◌++◌, Option, length, refl, sym, ap, subst, ◌∙◌, arith}
use Rattle.std.specs.Prelude.{Result, Ok, Err, OnErr, IfOk}
use Rattle.std.proofs.lemmas.List.{length-append, append_assoc, append-nil}
use Rattle.zk_line_protocol.specs.declared.ask.Ask.{Ask}
use Rattle.zk_line_protocol.specs.declared.ask.Ask.TheVariants as asks
use Rattle.zk_line_protocol.specs.declared.told.ServiceFault.{ServiceFault}
use Rattle.zk_line_protocol.specs.declared.told.Told.{Told}
use Rattle.zk_front.specs.Asks.{event_of, session_of, sought_by}
use Rattle.zk_front.specs.declared.reply_kind.ReplyKind.{ReplyKind}
use Rattle.zk_prepare.specs.Deadlines.{expired_at}
use Rattle.zk_model.specs.declared.event.Event.{Event}
use Rattle.zk_front.specs.Calling.{Calling, Calls, IsGiven}
use Rattle.zk_front.specs.Keeping.{Keeping, KeepsOrNot, all_let_go, heard, let_go, ready, settled, turn_of}
use Rattle.zk_front.specs.Remotes.{AsksAt, Expires, IsCutShort, IsTold, Misses, Serving, Stops, events_for, expiries, expiry}
use Rattle.zk_front.specs.declared.session_effect.SessionEffect.{SessionEffect}
use Rattle.zk_front.proofs.Calling.{calls_none, calls_then}
use Rattle.zk_front.specs.Reading.{HasEventsOf, IsToldReadBy, TellsEvents}
use Rattle.zk_front.proofs.Keeping.{all_let_go_more, none_opened}
use Rattle.zk_front.proofs.Reading.{tells_events}
use Rattle.zk_ensemble.specs.declared.outcome.Outcome.{Outcome}

-- ---- expired sessions

expiries_parts : (tag : ℕ) (now : ℤ) (due more : List ℤ) → expiries tag now (due ++ more) ≡ expiries tag now due ++ expiries (tag + length due) now more
expiries_parts tag now [] more =
    let same : tag ≡ tag + 0 = omega arith in
    ap (λ (n : ℕ). expiries n now more) same
expiries_parts tag now (first ∷ due) more =
    let same : tag + 1 + length due ≡ tag + length (first ∷ due) = omega arith in
    ap (λ (l : List Event). expiry tag first now ∷ l) (expiries_parts (tag + 1) now due more ∙ ap (λ (n : ℕ). expiries (tag + 1) now due ++ expiries n now more) same)

-- some of them are closed and no longer kept, and these are left
pub record Expiring (now : ℤ) (due left : List ℤ) (old new : Serving) : Type 0 where
  pub done : List ℤ
  pub parts : due ≡ done ++ left
  pub calls : Calls old.calling (expiries (old.calling.tag + 1) now done) new.calling
  pub tag : new.calling.tag ≡ old.calling.tag + length done
  pub are : new.keeping ≡ all_let_go done old.keeping

pub expiring_first : (now : ℤ) (due : List ℤ) (old : Serving) → Expiring now due due old old
expiring_first now due old = record {
  done = [];
  parts = refl;
  calls = calls_none old.calling old.calling refl refl;
  tag = omega arith;
  are = refl;
}

-- some more are
expiring_more_calls : (now : ℤ) (due left more : List ℤ) (old between : Serving) (new : Calling) → (so_far : Expiring now due left old between) → Calls between.calling (expiries (between.calling.tag + 1) now more) new
    → Calls old.calling (expiries (old.calling.tag + 1) now (so_far.done ++ more)) new
expiring_more_calls now due left more old between new so_far calls =
    let next : between.calling.tag + 1 ≡ old.calling.tag + 1 + length so_far.done = omega (arith, so_far.tag) in
    let first : List Event = expiries (old.calling.tag + 1) now so_far.done in
    subst (λ (l : List Event). Calls old.calling l new) (ap (λ (n : ℕ). first ++ expiries n now more) next ∙ sym (expiries_parts (old.calling.tag + 1) now so_far.done more))
    (calls_then old.calling first between.calling (expiries (between.calling.tag + 1) now more) new so_far.calls calls)

pub expiring_more : (now : ℤ) (due left : List ℤ) (session : ℤ) (old between new : Serving) → Expiring now due (session ∷ left) old between
    → Calls between.calling (expiry (between.calling.tag + 1) session now ∷ []) new.calling → new.calling.tag ≡ between.calling.tag + 1 → new.keeping ≡ let_go session between.keeping → Expiring now due left old new
expiring_more now due left session old between new so_far calls tag gone = record {
  done = so_far.done ++ session ∷ [];
  parts = so_far.parts ∙ sym (append_assoc so_far.done (session ∷ []) left);
  calls = expiring_more_calls now due (session ∷ left) (session ∷ []) old between new.calling so_far calls;
  tag = omega (arith, tag, so_far.tag, length-append so_far.done (session ∷ []));
  are = gone ∙ ap (let_go session) so_far.are ∙ sym (all_let_go_more so_far.done (session ∷ []) old.keeping);
}

-- it stopped before this session, or after it
pub expiring_stopped : (now : ℤ) (due left : List ℤ) (session : ℤ) (old between new : Serving) → Expiring now due (session ∷ left) old between → Stops now (session ∷ []) between new → Stops now due old new
expiring_stopped now due left session old between new so_far some = record {
  first = so_far.done ++ some.first;
  rest = some.rest ++ left;
  parts = so_far.parts ∙ ap (λ l. so_far.done ++ l) (ap (λ l. l ++ left) some.parts ∙ append_assoc some.first some.rest left) ∙ sym (append_assoc so_far.done some.first (some.rest ++ left));
  calls = expiring_more_calls now due (session ∷ left) some.first old between new.calling so_far some.calls;
  left = some.left ∙ ap (all_let_go some.first) so_far.are ∙ sym (all_let_go_more so_far.done some.first old.keeping);
}

pub expiring_ended : (now : ℤ) (due : List ℤ) (old new : Serving) → Expiring now due [] old new → Expires now due old new
expiring_ended now due old new all =
    let whole : all.done ≡ due = sym (all.parts ∙ append-nil all.done) in
    record {
      calls = subst (λ (l : List ℤ). Calls old.calling (expiries (old.calling.tag + 1) now l) new.calling) whole all.calls;
      tag = all.tag ∙ ap (λ (l : List ℤ). old.calling.tag + length l) whole;
      left = all.are ∙ ap (λ (l : List ℤ). all_let_go l old.keeping) whole;
    }

pub none_stops : (now : ℤ) (due : List ℤ) (old new : Serving) → new.calling.calls ≡ old.calling.calls → new.calling.receipts ≡ old.calling.receipts → new.keeping ≡ old.keeping → Stops now due old new
none_stops now due old new calls receipts same = record {
  first = [];
  rest = due;
  parts = refl;
  calls = calls_none old.calling new.calling calls receipts;
  left = same;
}

-- one was closed and no longer kept, and the close failed
pub one_stops : (now session : ℤ) (old new : Serving) → Calls old.calling (expiry (old.calling.tag + 1) session now ∷ []) new.calling → new.keeping ≡ let_go session old.keeping → Stops now (session ∷ []) old new
one_stops now session old new calls gone = record {
  first = session ∷ [];
  rest = [];
  parts = refl;
  calls = calls;
  left = gone;
}

-- ---- the event of the ask

pub given_own : (ask : Ask) (tag : ℕ) (now : ℤ) → IsGiven tag (event_of ask tag now)
given_own (asks.Write session cxid auths request) tag now = omega arith
given_own (asks.Read session seen auths call watch) tag now = tt
given_own (asks.Sync session) tag now = omega arith

asked_whole : (now : ℤ) (due : List ℤ) (ask : Ask) (old between : Serving) (new : Calling) → Expires now due old between → Calls between.calling (event_of ask (between.calling.tag + 1) now ∷ []) new
    → Calls old.calling (events_for (old.calling.tag + 1) now due ask) new
asked_whole now due ask old between new before own =
    let next : between.calling.tag + 1 ≡ old.calling.tag + 1 + length due = omega (arith, before.tag) in
    let first : List Event = expiries (old.calling.tag + 1) now due in
    subst (λ (n : ℕ). Calls old.calling (first ++ event_of ask n now ∷ []) new) next (calls_then old.calling first between.calling (event_of ask (between.calling.tag + 1) now ∷ []) new before.calls own)

-- no more events were called
after_due : (now : ℤ) (due : List ℤ) (old between : Serving) (new : Calling) → Expires now due old between → Calls between.calling [] new → Calls old.calling (expiries (old.calling.tag + 1) now due) new
after_due now due old between new before none =
    let first : List Event = expiries (old.calling.tag + 1) now due in
    subst (λ (l : List Event). Calls old.calling l new) (append-nil first) (calls_then old.calling first between.calling [] new before.calls none)

is_ready : (now : ℤ) (due : List ℤ) (ask : Ask) (old between : Serving) (kept : Keeping) → due ≡ expired_at old.keeping.deadlines now → Expires now due old between → kept ≡ heard (session_of ask) now between.keeping → kept ≡ ready now old.keeping ask
is_ready now due ask old between kept is before own = own ∙ ap (heard (session_of ask) now) (before.left ∙ ap (λ l. all_let_go l old.keeping) is)

pub asked_missed : (now : ℤ) (due : List ℤ) (ask : Ask) (old between new : Serving) → due ≡ expired_at old.keeping.deadlines now → Expires now due old between → Misses now between ask new → IsCutShort now due old ask new
asked_missed now due ask old between new is before (inl (none, inl same)) = inl (record {
  first = due;
  rest = [];
  parts = sym (append-nil due);
  calls = after_due now due old between new.calling before none;
  left = same ∙ before.left;
})
asked_missed now due ask old between new is before (inl (none, inr own)) = inr (inl (after_due now due old between new.calling before none, is_ready now due ask old between new.keeping is before own))
asked_missed now due ask old between new is before (inr (own, was)) = inr (inr (asked_whole now due ask old between new.calling before own, none_opened (turn_of ask) now (ready now old.keeping ask) new.keeping (is_ready now due ask old between new.keeping is before was)))

keeps_or_not : (turn turn' : SessionEffect) (at now : ℤ) (a b new : Keeping) → turn ≡ turn' → at ≡ now → a ≡ b → KeepsOrNot turn at a new → KeepsOrNot turn' now b new
keeps_or_not turn turn' at now a b new turns when same kept = subst (λ t. KeepsOrNot t now b new) turns (subst (λ n. KeepsOrNot turn n b new) when (subst (λ x. KeepsOrNot turn at x new) same kept))

-- after the ask's own event was called, the reply decides
pub asked_told : (now : ℤ) (due : List ℤ) (ask : Ask) (old between after new : Serving) (seeks : ReplyKind) (turn : SessionEffect) (session at : ℤ) (outcome : Option Outcome) (r : Result Told ServiceFault) → due ≡ expired_at old.keeping.deadlines now → Expires now due old between
    → Calls between.calling (event_of ask (between.calling.tag + 1) now ∷ []) after.calling → after.keeping ≡ heard (session_of ask) now between.keeping
    → seeks ≡ sought_by ask → turn ≡ turn_of ask → session ≡ session_of ask → at ≡ now → new.calling ≡ after.calling → IfOk r (λ told. IsTold seeks new.calling.receipts told.reply)
    → IsToldReadBy seeks ask after.calling.receipts outcome → IfOk r (λ told. HasEventsOf outcome told.events)
    → IfOk r (λ told. new.keeping ≡ settled turn session at told.reply after.keeping) → OnErr r (KeepsOrNot turn at after.keeping new.keeping) → AsksAt now due old ask r new
asked_told now due ask old between after new seeks turn session at outcome (Ok told) is before own was sought turns who when same fits read has kept left = (
  subst (λ (x : Calling). Calls old.calling (events_for (old.calling.tag + 1) now due ask) x) (sym same) (asked_whole now due ask old between after.calling before own),
  subst (λ (s : ReplyKind). IsTold s new.calling.receipts told.reply) sought fits,
  subst (λ (s : ReplyKind). TellsEvents s ask new.calling.receipts told.events) sought
      (subst (λ (x : Calling). TellsEvents seeks ask x.receipts told.events) (sym same) (tells_events seeks ask after.calling.receipts outcome told.events read has)),
  kept
      ∙ ap (λ t. settled t session at told.reply after.keeping) turns
      ∙ ap (λ s. settled (turn_of ask) s at told.reply after.keeping) who
      ∙ ap (λ n. settled (turn_of ask) (session_of ask) n told.reply after.keeping) when
      ∙ ap (settled (turn_of ask) (session_of ask) now told.reply) (is_ready now due ask old between after.keeping is before was),
)
asked_told now due ask old between after new seeks turn session at outcome (Err fault) is before own was sought turns who when same fits read has kept left = inr (inr (
  subst (λ (x : Calling). Calls old.calling (events_for (old.calling.tag + 1) now due ask) x) (sym same) (asked_whole now due ask old between after.calling before own),
  keeps_or_not turn (turn_of ask) at now after.keeping (ready now old.keeping ask) new.keeping turns when (is_ready now due ask old between after.keeping is before was) left,
))

pub asked_fault : (now : ℤ) (due : List ℤ) (ask : Ask) (old new : Serving) (r : Result Told ServiceFault) (fault : ServiceFault) → r ≡ Err fault → IsCutShort now due old ask new → AsksAt now due old ask r new
asked_fault now due ask old new r fault is cut = subst (λ (x : Result Told ServiceFault). AsksAt now due old ask x new) (sym is) cut
