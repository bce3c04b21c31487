-- One more turn.
use Rattle.std.proofs.Common.{◌≡◌, ◌⊎◌, inl, inr, ℕ, suc, Bool, true, false, ◌+◌, ◌<◌, ◌≤◌, All, List, [], ◌∷◌, ◌++◌, length, take, map, refl, sym, ap, subst, ◌∙◌, arith}
use Rattle.std.proofs.lemmas.List.{length-append, map-append, append_assoc, append-nil}
use Rattle.std.proofs.lemmas.List.Elements.{All-append}
use lib.ListN.{get_or}
use Rattle.zk_model.specs.declared.event.Event.{Event}
use Rattle.zab_model.specs.declared.event.Event.TheVariants.{Arrive}
use Rattle.zk_model.specs.declared.event.Event.TheVariants as events
use Rattle.zk_servers.specs.declared.record.Receipt.{Receipt}
use Rattle.zk_servers.specs.declared.calls.Made.{Made}
use Rattle.zk_servers.specs.Calls.{made}
use Rattle.zk_servers.specs.Turns.{IsAllBut, IsArrival, AreOfTurns, DidTurns, events_of, numbers_of, numbers_told}

all_but_made : (passed : ℕ) (xs ys : List Event) (x : Event) → IsAllBut passed xs ys → IsAllBut passed (xs ++ x ∷ []) (ys ++ x ∷ [])
all_but_made passed [] ys x (none, is) = inl ([], ap (λ l. l ++ x ∷ []) is, (none, refl))
all_but_made passed (e ∷ xs) ys x (inl (rest, is, more)) = inl (rest ++ x ∷ [], ap (λ l. l ++ x ∷ []) is, all_but_made passed xs rest x more)
all_but_made passed (e ∷ xs) ys x (inr (fewer, is, more)) = inr (fewer, is, all_but_made fewer xs ys x more)

all_but_passed : (passed : ℕ) (xs ys : List Event) (x : Event) → IsAllBut passed xs ys → IsAllBut (passed + 1) (xs ++ x ∷ []) ys
all_but_passed passed [] ys x (none, is) = inr (passed, refl, (none, is))
all_but_passed passed (e ∷ xs) ys x (inl (rest, is, more)) = inl (rest, is, all_but_passed passed xs rest x more)
all_but_passed passed (e ∷ xs) ys x (inr (fewer, is, more)) = inr (fewer + 1, ap (λ n. n + 1) is, all_but_passed fewer xs ys x more)

-- the jobs so far
pub record Busy (jobs : List Event) (before : List Made) (left : List Event) (seat : List Made) (receipts : List Receipt) (passed turn : ℕ) : Type 0 where
  pub done : List Event
  pub calls : List Made
  pub parts : jobs ≡ done ++ left
  pub added : seat ≡ before ++ calls
  pub all_but : IsAllBut passed done (events_of calls)
  pub told : numbers_told receipts ≡ numbers_of calls
  pub turned : turn ≡ length done
  pub few : passed ≤ length done

pub busy_first : (jobs : List Event) (before : List Made) → Busy jobs before jobs before [] 0 0
busy_first jobs before = record {
  done = [];
  calls = [];
  parts = refl;
  added = sym (append-nil before);
  all_but = (refl, refl);
  told = refl;
  turned = refl;
  few = omega arith;
}

moved : (jobs done left : List Event) (job : Event) → jobs ≡ done ++ job ∷ left → jobs ≡ (done ++ job ∷ []) ++ left
moved jobs done left job is = is ∙ sym (append_assoc done (job ∷ []) left)

pub busy_made : (jobs : List Event) (before : List Made) (left : List Event) (seat : List Made) (receipts : List Receipt) (passed turn : ℕ) (job : Event) (receipt : Receipt) → Busy jobs before (job ∷ left) seat receipts passed turn → Busy jobs before left (seat ++ made receipt.number job ∷ []) (receipts ++ receipt ∷ []) passed (turn + 1)
busy_made jobs before left seat receipts passed turn job receipt busy = let call = made receipt.number job in record {
  done = busy.done ++ job ∷ [];
  calls = busy.calls ++ call ∷ [];
  parts = moved jobs busy.done left job busy.parts;
  added = ap (λ l. l ++ call ∷ []) busy.added ∙ append_assoc before busy.calls (call ∷ []);
  all_but = subst (IsAllBut passed (busy.done ++ job ∷ [])) (sym (map-append (λ (m : Made). m.event) busy.calls (call ∷ []))) (all_but_made passed busy.done (events_of busy.calls) job busy.all_but);
  told = map-append (λ (r : Receipt). r.number) receipts (receipt ∷ []) ∙ ap (λ l. l ++ receipt.number ∷ []) busy.told ∙ sym (map-append (λ (m : Made). m.number) busy.calls (call ∷ []));
  turned = omega (arith, busy.turned, length-append busy.done (job ∷ []));
  few = omega (arith, busy.few, length-append busy.done (job ∷ []));
}

pub busy_passed : (jobs : List Event) (before : List Made) (left : List Event) (seat : List Made) (receipts : List Receipt) (passed turn : ℕ) (job : Event) → Busy jobs before (job ∷ left) seat receipts passed turn → Busy jobs before left seat receipts (passed + 1) (turn + 1)
busy_passed jobs before left seat receipts passed turn job busy = record {
  done = busy.done ++ job ∷ [];
  calls = busy.calls;
  parts = moved jobs busy.done left job busy.parts;
  added = busy.added;
  all_but = all_but_passed passed busy.done (events_of busy.calls) job busy.all_but;
  told = busy.told;
  turned = omega (arith, busy.turned, length-append busy.done (job ∷ []));
  few = omega (arith, busy.few, length-append busy.done (job ∷ []));
}

-- the jobs are over
pub jobs_done : (all : List Event) (turns : ℕ) (before : List Made) (seat : List Made) (receipts : List Receipt) (passed turn : ℕ) → Busy (take turns all) before [] seat receipts passed turn → DidTurns before all turns seat receipts passed
jobs_done all turns before seat receipts passed turn busy = record {
  calls = busy.calls;
  added = busy.added;
  of_turns = record {
    busy = busy.calls;
    idle = [];
    are = sym (append-nil busy.calls);
    jobs_made = subst (λ l. IsAllBut passed l (events_of busy.calls)) (sym (busy.parts ∙ append-nil busy.done)) busy.all_but;
    arrivals = λ k d below. absurd (omega (arith, below));
  };
  told = busy.told;
}

arrives : (message : ℕ) → All IsArrival (events.World (Arrive message) ∷ [])
arrives message k d below =
    let first : k ≡ 0 = omega (arith, below) in
    subst (λ n. IsArrival (get_or (events.World (Arrive message) ∷ []) n d)) (sym first) (message, refl)

-- an arrival
pub arrived : (all : List Event) (turns : ℕ) (before seat : List Made) (receipts : List Receipt) (passed : ℕ) (message : ℕ) (receipt : Receipt) → DidTurns before all turns seat receipts passed → DidTurns before all turns (seat ++ made receipt.number (events.World (Arrive message)) ∷ []) (receipts ++ receipt ∷ []) passed
arrived all turns before seat receipts passed message receipt did = let call = made receipt.number (events.World (Arrive message)) in record {
  calls = did.calls ++ call ∷ [];
  added = ap (λ l. l ++ call ∷ []) did.added ∙ append_assoc before did.calls (call ∷ []);
  of_turns = record {
    busy = did.of_turns.busy;
    idle = did.of_turns.idle ++ call ∷ [];
    are = ap (λ l. l ++ call ∷ []) did.of_turns.are ∙ append_assoc did.of_turns.busy did.of_turns.idle (call ∷ []);
    jobs_made = did.of_turns.jobs_made;
    arrivals = subst (All IsArrival) (sym (map-append (λ (m : Made). m.event) did.of_turns.idle (call ∷ []))) (All-append IsArrival (events_of did.of_turns.idle) (events.World (Arrive message) ∷ []) did.of_turns.arrivals (arrives message));
  };
  told = map-append (λ (r : Receipt). r.number) receipts (receipt ∷ []) ∙ ap (λ l. l ++ receipt.number ∷ []) did.told ∙ sym (map-append (λ (m : Made). m.number) did.calls (call ∷ []));
}

-- a call that was made or not
pub turned_by : (all : List Event) (turns : ℕ) (before seat : List Made) (receipts : List Receipt) (passed : ℕ) (message : ℕ) (seat' : List Made) (receipts' : List Receipt) (did_call : Bool) →
    DidTurns before all turns seat receipts passed
    → (did_call ≡ true → (receipt : Receipt) × (receipts' ≡ receipts ++ receipt ∷ []) × (seat' ≡ seat ++ made receipt.number (events.World (Arrive message)) ∷ []))
    → (did_call ≡ false → (receipts' ≡ receipts) × (seat' ≡ seat))
    → DidTurns before all turns seat' receipts' passed
turned_by all turns before seat receipts passed message seat' receipts' true did told left =
    let y = told refl in
    subst (λ s. DidTurns before all turns s receipts' passed) (sym y.2)
    (subst (λ r. DidTurns before all turns (seat ++ made y.0.number (events.World (Arrive message)) ∷ []) r passed) (sym y.1) (arrived all turns before seat receipts passed message y.0 did))
turned_by all turns before seat receipts passed message seat' receipts' false did told left =
    let n = left refl in
    subst (λ s. DidTurns before all turns s receipts' passed) (sym n.1) (subst (λ r. DidTurns before all turns seat r passed) (sym n.0) did)

pub length_zero : {A : Type 0} (xs : List A) → length xs ≡ 0 → xs ≡ []
length_zero [] is = refl
length_zero (x ∷ xs) is = absurd (omega (arith, is))
