-- The calls of a service, event by event.
use Rattle.std.proofs.Common.{◌≡◌, ℕ, ◌+◌, ◌≤◌, ◌<◌, All, List, [], ◌∷◌, ◌++◌, length, map, refl, sym, ap, subst, ◌∙◌, arith}
use Rattle.std.specs.Prelude.{Result, Ok, Err, OnOk, OnErr}
use Rattle.std.proofs.lemmas.List.{map-append, append_assoc, append-nil}
use Rattle.std.proofs.lemmas.List.Elements.{All-append}
use lib.ListN.{get_or}
use Rattle.zab_model.specs.declared.event.Event.TheVariants.{Lead, Follow, Arrive, Submit, Expire, Sync, Crash, Restart}
use Rattle.zk_model.specs.declared.event.Event.{Event}
use Rattle.zk_model.specs.declared.event.Event.TheVariants as events
use Rattle.zk_servers.specs.Calls.{made}
use Rattle.zk_servers.specs.Turns.{events_of, numbers_of, numbers_told}
use Rattle.zk_servers.specs.declared.record.Receipt.{Receipt}
use Rattle.zk_servers.specs.declared.calls.Made.{Made}
use Rattle.zk_front.specs.Calling.{Calling, Calls, CallsOne, IsGiven, IsKept}

-- ---- tags

given_more : (tag : ℕ) (event : Event) → IsGiven tag event → IsGiven (tag + 1) event
given_more tag (events.World (Submit server call)) is = omega (arith, is)
given_more tag (events.World (Expire server own session now)) is = omega (arith, is)
given_more tag (events.World (Sync server own)) is = omega (arith, is)
given_more tag (events.World (Lead server)) is = tt
given_more tag (events.World (Follow server leader)) is = tt
given_more tag (events.World (Arrive message)) is = tt
given_more tag (events.World (Crash server)) is = tt
given_more tag (events.World (Restart server)) is = tt
given_more tag (events.Read question) is = tt

-- one more tag is used
pub kept_tag : (old new : Calling) → IsKept old → new.calls ≡ old.calls → new.receipts ≡ old.receipts → new.tag ≡ old.tag + 1 → IsKept new
kept_tag old new kept calls receipts tag = record {
  given = subst (λ (n : ℕ). All (λ call. IsGiven n call.event) new.calls) (sym tag)
      (subst (λ (l : List Made). All (λ call. IsGiven (old.tag + 1) call.event) l) (sym calls) (λ k d below. given_more old.tag (get_or old.calls k d).event (kept.given k d below)));
  told = ap numbers_told receipts ∙ kept.told ∙ sym (ap numbers_of calls);
}

-- one more call
pub kept_call : (old : Calling) (event : Event) (receipt : Receipt) (new : Calling) → IsKept old → IsGiven old.tag event
    → new.calls ≡ old.calls ++ made receipt.number event ∷ [] → new.receipts ≡ old.receipts ++ receipt ∷ [] → new.tag ≡ old.tag → IsKept new
kept_call old event receipt new kept is calls receipts tag =
    let P : Made → Type 0 = λ call. IsGiven old.tag call.event in
    let call : Made = made receipt.number event in
    let one : All P (call ∷ []) = λ k d below. (let first : k ≡ 0 = omega (arith, below) in subst (λ (n : ℕ). P (get_or (call ∷ []) n d)) (sym first) is) in
    record {
      given = subst (λ (n : ℕ). All (λ it. IsGiven n it.event) new.calls) (sym tag)
          (subst (λ (l : List Made). All P l) (sym calls) (All-append P old.calls (call ∷ []) kept.given one));
      told = ap numbers_told receipts ∙ map-append (λ (r : Receipt). r.number) old.receipts (receipt ∷ []) ∙ ap (λ l. l ++ receipt.number ∷ []) kept.told
          ∙ sym (map-append (λ (m : Made). m.number) old.calls (call ∷ [])) ∙ sym (ap numbers_of calls);
    }

-- ---- calls

pub calls_none : (old new : Calling) → new.calls ≡ old.calls → new.receipts ≡ old.receipts → Calls old [] new
calls_none old new calls receipts = record {
  calls = [];
  receipts = [];
  added = calls ∙ sym (append-nil old.calls);
  kept = receipts ∙ sym (append-nil old.receipts);
  made = refl;
}

pub calls_one : (old : Calling) (event : Event) (new : Calling) → CallsOne old event new → Calls old (event ∷ []) new
calls_one old event new one = record {
  calls = made one.receipt.number event ∷ [];
  receipts = one.receipt ∷ [];
  added = one.added;
  kept = one.kept;
  made = refl;
}

-- there were no calls before it
pub one_from : (old between new : Calling) (event : Event) → between.calls ≡ old.calls → between.receipts ≡ old.receipts → CallsOne between event new → Calls old (event ∷ []) new
one_from old between new event calls receipts one = record {
  calls = made one.receipt.number event ∷ [];
  receipts = one.receipt ∷ [];
  added = one.added ∙ ap (λ l. l ++ made one.receipt.number event ∷ []) calls;
  kept = one.kept ∙ ap (λ l. l ++ one.receipt ∷ []) receipts;
  made = refl;
}

pub calls_then : (old : Calling) (xs : List Event) (between : Calling) (ys : List Event) (new : Calling) → Calls old xs between → Calls between ys new → Calls old (xs ++ ys) new
calls_then old xs between ys new a b = record {
  calls = a.calls ++ b.calls;
  receipts = a.receipts ++ b.receipts;
  added = b.added ∙ ap (λ l. l ++ b.calls) a.added ∙ append_assoc old.calls a.calls b.calls;
  kept = b.kept ∙ ap (λ l. l ++ b.receipts) a.kept ∙ append_assoc old.receipts a.receipts b.receipts;
  made = map-append (λ (m : Made). m.event) a.calls b.calls ∙ ap (λ l. l ++ events_of b.calls) a.made ∙ ap (λ l. xs ++ l) b.made;
}

-- ---- the reply to a call

pub on_err : {A E : Type 0} (P : Type 0) (r : Result A E) → P → OnErr r P
on_err P (Ok x) is = tt
on_err P (Err e) is = is

pub on_ok : {A E : Type 0} (P : Type 0) (r : Result A E) → P → OnOk r P
on_ok P (Ok x) is = is
on_ok P (Err e) is = tt

pub on_ok_from : {A E : Type 0} {P Q : Type 0} (r : Result A E) → (P → Q) → OnOk r P → OnOk r Q
on_ok_from (Ok x) then is = then is
on_ok_from (Err e) then is = tt

pub length_zero : {A : Type 0} (xs : List A) → length xs ≡ 0 → xs ≡ []
length_zero [] is = refl
length_zero (x ∷ xs) is = absurd (omega (arith, is))
