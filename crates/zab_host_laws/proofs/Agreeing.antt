-- What two lives deliver is delivered in one run.
use Rattle.std.proofs.Common.{◌≡◌, ◌⊎◌, ℕ, zero, suc, ◌+◌, min, List, [], ◌∷◌, ◌++◌, length, map, take, ap, ◌∙◌, append_assoc, subst₂, arith}
use Rattle.std.proofs.lemmas.List.{take-append-le, take_min, take_all}
use Rattle.std.specs.List.{AllByRecursion}
use Rattle.zab_laws.specs.Prefixes.{IsPrefix}
use Rattle.zab_epoch.specs.declared.history.Entry.{Entry}
use Rattle.zab_model.specs.declared.event.Event.{Event}
use Rattle.zab_model.specs.Worlds.{World, Profile}
use Rattle.zab_model.specs.Runs.{after, run, delivered_of, delivered_after}
use Rattle.zab_agreement_laws.specs.Agreement.{Agrees}
use Rattle.zab_host_laws.specs.Recovery.{shift_event, restart_all, recovered_world, past_of_world, events_across_recovery, IsNew, RecoveriesAreOneRun}
use Rattle.zab_host_laws.specs.Agreement.{RecoveriesAgree}

each_take : {A : Type 0} (P : A → Type 0) (n : ℕ) (xs : List A) → AllByRecursion P xs → AllByRecursion P (take n xs)
each_take P zero xs all = tt
each_take P (suc n) [] all = tt
each_take P (suc n) (x ∷ xs) all = (all.0, each_take P n xs all.1)

first_of : {A : Type 0} (xs ys : List A) (n : ℕ) → take (min n (length xs)) (xs ++ ys) ≡ take n xs
first_of xs ys n = take-append-le (min n (length xs)) xs ys (omega arith) ∙ take_min n xs

pub agree : {C : Type 0} (profile : Profile C) → ((servers : ℕ) (events : List (Event C)) → Agrees profile servers events) → RecoveriesAreOneRun profile → RecoveriesAgree profile
agree {C} profile agrees lives servers first second new i j p q =
    let w = (run profile servers first).0 in
    let more = take j second in
    let rest = map (shift_event (length w.messages)) more in
    let all = events_across_recovery profile servers first more in
    let next = after profile (recovered_world w.servers) more in
    let one : delivered_after profile servers all (min i (length first)) p ≡ delivered_after profile servers first i p =
    ap (λ (events : List (Event C)). delivered_of (run profile servers events).0 p) (ap (λ (events : List (Event C)). take (min i (length first)) events) (joined first (restart_all (length w.servers)) rest) ∙ first_of first (restart_all (length w.servers) ++ rest) i) in
    let other : delivered_after profile servers all (length all) q ≡ delivered_of next q =
    ap (λ (events : List (Event C)). delivered_of (run profile servers events).0 q) (take_all (length all) all (omega arith))
    ∙ ap (λ (x : World C). delivered_of x q) (lives servers first more (each_take (IsNew profile (past_of_world w)) j second new)) in
    subst₂ (λ (a b : List Entry). IsPrefix a b ⊎ IsPrefix b a) one other ((agrees servers all).one_order (min i (length first)) (length all) p q)
  where
    joined : (a b c : List (Event C)) → a ++ b ++ c ≡ a ++ (b ++ c)
    joined a b c = append_assoc a b c
