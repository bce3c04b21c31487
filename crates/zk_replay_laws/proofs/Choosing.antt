-- In which order a server may delete the nodes of a session: first those of another list.
use Rattle.std.proofs.Common.{◌≡◌, ℕ, ℤ, List, [], ◌∷◌, ◌++◌, Bool, true, false, cond, not, ◌&&◌, ◌||◌, refl, sym, ap, subst, ◌∙◌, ⊎_elim}
use Rattle.std.proofs.lemmas.Bool.{cond-true, cond-false, cases_Bool, and_parts, or_cases, or_left, or_right, or_parts}
use Rattle.std.proofs.lemmas.List.Folds.{list_any-append}
use Rattle.std.proofs.lemmas.List.{append_assoc}
use Rattle.std.specs.Ordering.{eq_by_cmp}
use Rattle.zk_path.specs.Paths.{parent_of}
use Rattle.zk_table.specs.States.{NodeMap, path_cmp}
use Rattle.zk_replay_laws.proofs.Gets.{same_path, path_is_itself}
use Rattle.zk_replay_laws.proofs.Changes.{Deletes, applied}
use Rattle.zk_replay_laws.proofs.Servers.{IsClosedMap, gone_closed}
use Rattle.zk_replay_laws.proofs.Transactions.{applied_all}
use Rattle.zk_replay_laws.proofs.Taking.{deletes}
use Rattle.zk_replay_laws.proofs.Closing.{is_in, AreDistinct, AllReady, ready_deleted, all_ready_still, deletes_all}

pub both_true : {a b : Bool} → a ≡ true → b ≡ true → (a && b) ≡ true
both_true {a} {b} p q = ap (λ x. x && b) p ∙ q

abbrev pub are_distinct : List (List ℕ) → Bool
are_distinct [] = true
are_distinct (p ∷ ps) = not (is_in p ps) && are_distinct ps

abbrev pub all_in : List (List ℕ) → List (List ℕ) → Bool
all_in [] qs = true
all_in (p ∷ ps) qs = is_in p qs && all_in ps qs

abbrev pub others : List (List ℕ) → List (List ℕ) → List (List ℕ)
others ps [] = []
others ps (q ∷ qs) = cond (is_in q ps) (others ps qs) (q ∷ others ps qs)

-- if all of the first list are in the second, they come first
abbrev pub first_those : List (List ℕ) → List (List ℕ) → List (List ℕ)
first_those ps qs = cond (are_distinct ps && all_in ps qs) (ps ++ others ps qs) qs

-- ---- the same paths

in_others : (q : List ℕ) (ps qs : List (List ℕ)) → is_in q (others ps qs) ≡ cond (is_in q ps) false (is_in q qs)
in_others q ps [] = none (is_in q ps)
  where
    none : (b : Bool) → false ≡ cond b false false
    none true = refl
    none false = refl
in_others q ps (x ∷ qs) =
    ⊎_elim
    (λ has. ap (is_in q) (cond-true (is_in x ps) (others ps qs) (x ∷ others ps qs) has) ∙ in_others q ps qs ∙ known (eq_by_cmp path_cmp q x) refl has)
    (λ not_in. ap (is_in q) (cond-false (is_in x ps) (others ps qs) (x ∷ others ps qs) not_in) ∙ ap (λ b. eq_by_cmp path_cmp q x || b) (in_others q ps qs) ∙ new (eq_by_cmp path_cmp q x) refl not_in)
    (cases_Bool (is_in x ps))
  where
    by_test : (b c : Bool) → b ≡ true → cond b false c ≡ cond b false true
    by_test true c e = refl
    by_test false c e = absurd (cc)

    at_same : (t : Bool) → eq_by_cmp path_cmp q x ≡ t → t ≡ true → (b : Bool) → is_in x ps ≡ b → is_in q ps ≡ b
    at_same t e is b has = ap (λ k. is_in k ps) (same_path q x (e ∙ is)) ∙ has

    known : (t : Bool) → eq_by_cmp path_cmp q x ≡ t → is_in x ps ≡ true → cond (is_in q ps) false (is_in q qs) ≡ cond (is_in q ps) false (t || is_in q qs)
    known true e has = by_test (is_in q ps) (is_in q qs) (at_same true e refl true has)
    known false e has = refl

    shifted : (b c : Bool) → b ≡ false → (true || cond b false c) ≡ cond b false true
    shifted true c e = absurd (cc)
    shifted false c e = refl

    new : (t : Bool) → eq_by_cmp path_cmp q x ≡ t → is_in x ps ≡ false → (t || cond (is_in q ps) false (is_in q qs)) ≡ cond (is_in q ps) false (t || is_in q qs)
    new true e not_in = shifted (is_in q ps) (is_in q qs) (at_same true e refl false not_in)
    new false e not_in = refl

in_each : (q : List ℕ) (ps qs : List (List ℕ)) → all_in ps qs ≡ true → is_in q ps ≡ true → is_in q qs ≡ true
in_each q [] qs all has = absurd (cc)
in_each q (p ∷ ps) qs all has =
    let parts = and_parts _ _ all in
    ⊎_elim (λ here. ap (λ k. is_in k qs) (same_path q p here) ∙ parts.0) (λ more. in_each q ps qs parts.1 more) (or_cases (eq_by_cmp path_cmp q p) (is_in q ps) has)

pub in_first_those : (q : List ℕ) (ps qs : List (List ℕ)) → is_in q (first_those ps qs) ≡ is_in q qs
in_first_those q ps qs = by_check (are_distinct ps && all_in ps qs) refl
  where
    joined : (b c : Bool) → (b ≡ true → c ≡ true) → (b || cond b false c) ≡ c
    joined true c f = sym (f refl)
    joined false c f = refl

    by_check : (t : Bool) → (are_distinct ps && all_in ps qs) ≡ t → is_in q (cond t (ps ++ others ps qs) qs) ≡ is_in q qs
    by_check true e = list_any-append (eq_by_cmp path_cmp q) ps (others ps qs) ∙ ap (λ b. is_in q ps || b) (in_others q ps qs) ∙ joined (is_in q ps) (is_in q qs) (in_each q ps qs (and_parts _ _ e).1)
    by_check false e = refl

-- ---- each once

distinct_if : (ps : List (List ℕ)) → are_distinct ps ≡ true → AreDistinct ps
distinct_if [] e = tt
distinct_if (p ∷ ps) e = let parts = and_parts _ _ e in (not_true (is_in p ps) parts.0, distinct_if ps parts.1)
  where
    not_true : (b : Bool) → not b ≡ true → b ≡ false
    not_true true h = absurd (cc)
    not_true false h = refl

distinct_others : (ps qs : List (List ℕ)) → AreDistinct qs → AreDistinct (others ps qs)
distinct_others ps [] h = tt
distinct_others ps (q ∷ qs) h = by_test (is_in q ps) refl (distinct_others ps qs h.1)
  where
    none : (b c : Bool) → c ≡ false → cond b false c ≡ false
    none true c e = refl
    none false c e = e

    by_test : (t : Bool) → is_in q ps ≡ t → AreDistinct (others ps qs) → AreDistinct (cond t (others ps qs) (q ∷ others ps qs))
    by_test true e rest = rest
    by_test false e rest = (in_others q ps qs ∙ none (is_in q ps) (is_in q qs) h.0, rest)

distinct_append : (ps os : List (List ℕ)) → AreDistinct ps → AreDistinct os → ((q : List ℕ) → is_in q ps ≡ true → is_in q os ≡ false) → AreDistinct (ps ++ os)
distinct_append [] os a b apart = b
distinct_append (p ∷ ps) os a b apart = (
  list_any-append (eq_by_cmp path_cmp p) ps os ∙ ap (λ t. t || is_in p os) a.0 ∙ apart p (or_left _ _ (path_is_itself p)),
  distinct_append ps os a.1 b (λ q has. apart q (or_right _ _ has)),
)

pub distinct_first_those : (ps qs : List (List ℕ)) → AreDistinct qs → AreDistinct (first_those ps qs)
distinct_first_those ps qs h = by_check (are_distinct ps && all_in ps qs) refl
  where
    by_check : (t : Bool) → (are_distinct ps && all_in ps qs) ≡ t → AreDistinct (cond t (ps ++ others ps qs) qs)
    by_check true e = distinct_append ps (others ps qs) (distinct_if ps (and_parts _ _ e).0) (distinct_others ps qs h) (λ q has. in_others q ps qs ∙ cond-true (is_in q ps) false (is_in q qs) has)
    by_check false e = h

-- ---- parts of such a list

pub others_within : (q : List ℕ) (ps qs : List (List ℕ)) → is_in q (others ps qs) ≡ true → is_in q qs ≡ true
others_within q ps qs has = by_test (is_in q ps) (sym (in_others q ps qs) ∙ has)
  where
    by_test : (b : Bool) → cond b false (is_in q qs) ≡ true → is_in q qs ≡ true
    by_test true e = absurd (cc)
    by_test false e = e

pub others_apart : (q : List ℕ) (ps qs : List (List ℕ)) → is_in q (others ps qs) ≡ true → is_in q ps ≡ false
others_apart q ps qs has = by_test (is_in q ps) (sym (in_others q ps qs) ∙ has)
  where
    by_test : (b : Bool) → cond b false (is_in q qs) ≡ true → b ≡ false
    by_test true e = absurd (cc)
    by_test false e = refl

pub all_within : (ps qs : List (List ℕ)) → ((q : List ℕ) → is_in q ps ≡ true → is_in q qs ≡ true) → all_in ps qs ≡ true
all_within [] qs each = refl
all_within (p ∷ ps) qs each = both_true (each p (or_left _ _ (path_is_itself p))) (all_within ps qs (λ q has. each q (or_right _ _ has)))

pub distinct_first : (ps os : List (List ℕ)) → AreDistinct (ps ++ os) → AreDistinct ps
distinct_first [] os h = tt
distinct_first (p ∷ ps) os h = ((or_parts _ _ (sym (list_any-append (eq_by_cmp path_cmp p) ps os) ∙ h.0)).0, distinct_first ps os h.1)

pub distinct_rest : (ps os : List (List ℕ)) → AreDistinct (ps ++ os) → AreDistinct os
distinct_rest [] os h = h
distinct_rest (p ∷ ps) os h = distinct_rest ps os h.1

pub ready_first : (m : NodeMap) (ps os : List (List ℕ)) → AllReady m (ps ++ os) → AllReady m ps
ready_first m [] os all = tt
ready_first m (p ∷ ps) os all = (all.0, ready_first m ps os all.1)

pub deletes_append : (zxid : ℤ) (ps os : List (List ℕ)) → deletes_all zxid (ps ++ os) ≡ deletes_all zxid ps ++ deletes_all zxid os
deletes_append zxid [] os = refl
deletes_append zxid (p ∷ ps) os = ap (λ l. deletes (parent_of p) zxid p ++ l) (deletes_append zxid ps os) ∙ sym (append_assoc (deletes (parent_of p) zxid p) (deletes_all zxid ps) (deletes_all zxid os))

-- the rest can be deleted after the first
pub ready_rest : (m : NodeMap) (zxid : ℤ) (ps os : List (List ℕ)) → IsClosedMap m → AreDistinct (ps ++ os) → AllReady m (ps ++ os) → AllReady (applied_all m (deletes_all zxid ps)) os
ready_rest m zxid [] os closed distinct all = all
ready_rest m zxid (p ∷ ps) os closed distinct all =
    let ready = all.0 in
    subst (λ o. AllReady (applied_all m (deletes o zxid p ++ deletes_all zxid ps)) os) (sym ready.parent)
    (ready_rest (applied m (Deletes zxid p ready.above)) zxid ps os (gone_closed m zxid p ready.above (ready_deleted m p ready) closed) distinct.1 (all_ready_still m zxid p ready closed (ps ++ os) distinct.0 all.1))
