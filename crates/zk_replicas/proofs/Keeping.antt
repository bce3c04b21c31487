-- What is kept of servers that crashed.
use Rattle.std.proofs.Common.{◌≡◌, ◌≢◌, ℕ, zero, suc, ◌+◌, ◌-◌, ◌<◌, ◌≤◌, ◌⊎◌, inl, inr, List, [], ◌∷◌, ◌++◌, length, drop, slice_get, slice_set, Option, Some, IfSome, refl, sym, ap, subst, ◌∙◌, arith}
use Rattle.std.proofs.Math.Seq.{drop-append_seam}
use Rattle.std.proofs.lemmas.List.{append-nil, append_assoc, length-append}
use Rattle.zab_epoch.specs.declared.history.Entry.{Entry}
use Rattle.zab_epoch.specs.Entries.{txns_of}
use Rattle.zab_laws.specs.Prefixes.{IsPrefix}
use Rattle.zk_replicas.specs.declared.crash_cache.CrashCache.{CrashCache}
use Rattle.zk_replicas.specs.Keeping.{MayServe, IsShownBy, GoesOn, EachKept, WasKept, WasShown}
use Rattle.zk_replicas.proofs.Unwatched.{shown, same_shown, untold}
use Rattle.zk_model.specs.declared.answer.Answered.{Answered}
use Rattle.zk_model.specs.Ensembles.{ReplicaView, fresh, answered, take_in, take_all, replica_at}
use Rattle.zk_model.specs.Runs.{answered_after, answered_of}
use Rattle.zk_table.specs.Histories.{state_after, tree_of}
use Rattle.zk_table.specs.States.{State, start_state}
use Rattle.zk_table.specs.Steps.{step}
use Rattle.zk_watch.specs.declared.watch.Fired.{Fired}

-- ---- entries that are delivered where nobody watches

take_one : (x : Entry) (t : State) (a : List Answered) (e : List Fired) → take_in (shown t a [] e) x ≡ shown (step t x.txn).0 (a ++ answered x (step t x.txn).1 ∷ []) [] e
take_one x t a e =
    sym (untold t (step t x.txn).0 a (a ++ answered x (step t x.txn).1 ∷ []) [] e x.tag x.txn (step t x.txn).1 (answered x (step t x.txn).1) refl refl refl refl)

take_unwatched : (entries : List Entry) (t : State) (a : List Answered) (e : List Fired) → take_all (shown t a [] e) entries ≡ shown (state_after t (txns_of entries)) (a ++ answered_after t entries) [] e
take_unwatched [] t a e = ap (λ l. shown t l [] e) (sym (append-nil a))
take_unwatched (x ∷ entries) t a e =
    ap (λ s. take_all s entries) (take_one x t a e)
    ∙ take_unwatched entries (step t x.txn).0 (a ++ answered x (step t x.txn).1 ∷ []) e
    ∙ ap (λ l. shown (state_after (step t x.txn).0 (txns_of entries)) l [] e) (append_assoc a (answered x (step t x.txn).1 ∷ []) (answered_after (step t x.txn).0 entries))

-- the first ones
begun : (entries : List Entry) → take_all fresh entries ≡ shown (tree_of (txns_of entries)) (answered_of entries) [] []
begun entries = take_unwatched entries start_state [] []

take_both : (a b : List Entry) (s : ReplicaView) → take_all s (a ++ b) ≡ take_all (take_all s a) b
take_both [] b s = refl
take_both (x ∷ a) b s = take_both a b (take_in s x)

as_many : (t : State) (entries : List Entry) → length (answered_after t entries) ≡ length entries
as_many t [] = refl
as_many t (x ∷ entries) = ap (λ n. suc n) (as_many (step t x.txn).0 entries)

-- ---- going on

none_of : {A : Type 0} (xs : List A) (n : ℕ) → n + length xs ≤ n → xs ≡ []
none_of [] n short = refl
none_of (x ∷ xs) n short = absurd (omega (arith, short))

-- what is no longer than these entries is their beginning
front : (entries : List Entry) (it : CrashCache) (m : MayServe entries it) → length it.answers.items ≤ length entries → IsPrefix m.list entries
front entries it m short =
    let many : length it.answers.items ≡ length m.list = ap length m.over.answers ∙ as_many start_state m.list in
    elim m.order [
      | inl p ↦ p
      | inr q ↦ (
          let longer : length entries + length q.rest ≡ length m.list = sym (length-append entries q.rest) ∙ ap length q.is in
          let none : q.rest ≡ [] = none_of q.rest (length entries) (omega (arith, many, longer, short)) in
          record { rest = []; is = append-nil m.list ∙ sym q.is ∙ ap (λ l. entries ++ l) none ∙ append-nil entries })
    ]

pub goes_on_so : (old new : ReplicaView) (kept : Option CrashCache) (most done : ℕ) (entries : List Entry) → ((new ≡ old) × (done ≡ 0)) ⊎ GoesOn old kept most new done → IfSome kept (MayServe entries) → most ≡ length entries → take_all new (drop done entries) ≡ take_all old entries
goes_on_so old new kept most done entries (inl same) may all = ap (λ n. take_all new (drop n entries)) same.1 ∙ ap (λ s. take_all s entries) same.0
goes_on_so old new kept most done entries (inr g) may all =
    let m : MayServe entries g.it = subst (λ o. IfSome o (MayServe entries)) g.was may in
    let many : done ≡ length m.list = g.many ∙ ap length m.over.answers ∙ as_many start_state m.list in
    let p = front entries g.it m (omega (arith, g.many, g.within, all)) in
    let here : new ≡ take_all fresh m.list =
    g.now ∙ same_shown g.it.machine.state (tree_of (txns_of m.list)) g.it.answers.items (answered_of m.list) [] [] [] [] m.over.tree m.over.answers refl refl ∙ sym (begun m.list) in
    let rest : drop done entries ≡ p.rest = ap (λ n. drop n entries) many ∙ ap (drop (length m.list)) (sym p.is) ∙ drop-append_seam m.list p.rest in
    ap (λ s. take_all s (drop done entries)) here
    ∙ ap (take_all (take_all fresh m.list)) rest
    ∙ sym (take_both m.list p.rest fresh)
    ∙ ap (take_all fresh) p.is
    ∙ ap (λ s. take_all s entries) (sym g.unbegun)

-- ---- the lists of servers

get_set : {A : Type 0} (xs : List A) (i j : ℕ) (new x : A) → slice_get (slice_set xs i new) j ≡ Some x → (x ≡ new) ⊎ (slice_get xs j ≡ Some x)
get_set {A} [] i j new x is = inr is
get_set {A} (y ∷ xs) zero zero new x is = inl (same_some x new is)
  where
    same_some : (a b : A) → (let o : Option A = Some b in o ≡ Some a) → a ≡ b
    same_some a b e = cc
get_set {A} (y ∷ xs) zero (suc j) new x is = inr is
get_set {A} (y ∷ xs) (suc i) zero new x is = inr is
get_set {A} (y ∷ xs) (suc i) (suc j) new x is = get_set xs i j new x is

-- a server's place
pub below_it : (number many all : ℕ) → number ≢ 0 → number ≤ all → many ≡ all → number - 1 < many
below_it number many all some within same = let above : 0 < number = omega (arith, some) in omega arith

-- one of them is replaced
pub kept_then : (kept : List (Option CrashCache)) (i : ℕ) (old new : Option CrashCache) (shown : List ReplicaView) (number : ℕ) (by : ReplicaView) → slice_get kept i ≡ Some old → replica_at shown number ≡ Some by → IfSome new (λ it. (old ≡ Some it) ⊎ IsShownBy by it) → EachKept (λ it. WasKept kept it ⊎ WasShown shown number it) (slice_set kept i new)
kept_then kept i old new shown number by here there each place it is =
    elim (get_set kept i place new (Some it) is) [
      | inl now ↦ elim (subst (λ o. IfSome o (λ k. (old ≡ Some k) ⊎ IsShownBy by k)) (sym now) each) [
        | inl was ↦ inl (record { place = i; is = here ∙ ap Some was })
        | inr shows ↦ inr (record { by = by; is = there; shows = shows })
      ]
      | inr was ↦ inl (record { place = place; is = was })
    ]
