-- Inboxes that change.
use Rattle.std.proofs.Common.{◌≡◌, ◌∙◌, ◌<◌, ◌≤◌, ◌+◌, ℕ, zero, suc, List, [], ◌∷◌, length, set, get_or, slice_get, Some, None, refl, sym, ap, subst, add-one, arith}
use Rattle.zk_peer_links.specs.declared.link_input.LinkInput.{LinkInput}
use Rattle.zk_local_links.specs.Inboxes.{InboxView, brought, closed, inputs_at, inputs_in, line_at, line_in, line_of, opened}
use Rattle.zk_local_links.specs.LocalLinks.{LocalView, apart_from, at, changed_at, disconnected, opens, posted_from}

pub changed_is : (change : InboxView → InboxView) (its : List InboxView) (i : ℕ) (before after : InboxView) → i < length its → before ≡ get_or its i before → after ≡ change before → set its i after ≡ changed_at i change its
changed_is change [] zero before after within is e = absurd (omega (arith, within))
changed_is change [] (suc i) before after within is e = absurd (omega (arith, within))
changed_is change (it ∷ its) zero before after within is e = ap (λ (x : InboxView). x ∷ its) (e ∙ ap change is)
changed_is change (it ∷ its) (suc i) before after within is e =
    let rest : set its i after ≡ changed_at i change its = changed_is change its i before after (omega (arith, within)) is e in
    ap (λ (xs : List InboxView). it ∷ xs) rest

pub none_changed : (change : InboxView → InboxView) (its : List InboxView) (i : ℕ) → length its ≤ i → its ≡ changed_at i change its
none_changed change [] zero beyond = refl
none_changed change [] (suc i) beyond = refl
none_changed change (it ∷ its) zero beyond = absurd (omega (arith, beyond))
none_changed change (it ∷ its) (suc i) beyond =
    let rest : its ≡ changed_at i change its = none_changed change its i (omega (arith, beyond)) in
    ap (λ (xs : List InboxView). it ∷ xs) rest

pub changed_length : (change : InboxView → InboxView) (its : List InboxView) (i : ℕ) → length (changed_at i change its) ≡ length its
changed_length change [] zero = refl
changed_length change [] (suc i) = refl
changed_length change (it ∷ its) zero = refl
changed_length change (it ∷ its) (suc i) = ap (λ (n : ℕ). suc n) (changed_length change its i)

found : (its : List InboxView) (i : ℕ) (it : InboxView) → i < length its → it ≡ get_or its i it → slice_get its i ≡ Some it
found [] zero it within is = absurd (omega (arith, within))
found [] (suc i) it within is = absurd (omega (arith, within))
found (first ∷ its) zero it within is = ap (λ (x : InboxView). Some x) (sym is)
found (first ∷ its) (suc i) it within is = found its i it (omega (arith, within)) is

not_found : (its : List InboxView) (i : ℕ) → length its ≤ i → slice_get its i ≡ None
not_found [] zero beyond = refl
not_found [] (suc i) beyond = refl
not_found (first ∷ its) zero beyond = absurd (omega (arith, beyond))
not_found (first ∷ its) (suc i) beyond = not_found its i (omega (arith, beyond))

pub inputs_are : (its : List InboxView) (i : ℕ) (it : InboxView) → i < length its → it ≡ get_or its i it → inputs_at i its ≡ it.inputs
inputs_are its i it within is = ap inputs_in (found its i it within is)

pub no_inputs : (its : List InboxView) (i : ℕ) → length its ≤ i → inputs_at i its ≡ []
no_inputs its i beyond = ap inputs_in (not_found its i beyond)

pub line_is : (its : List InboxView) (i writer : ℕ) (it : InboxView) → i < length its → it ≡ get_or its i it → line_at i writer its ≡ line_of writer it
line_is its i writer it within is = ap (line_in writer) (found its i it within is)

pub no_line : (its : List InboxView) (i writer : ℕ) → length its ≤ i → line_at i writer its ≡ 0
no_line its i writer beyond = ap (line_in writer) (not_found its i beyond)

pub apart_more : (count place : ℕ) (it : LocalView) → disconnected place count (apart_from count place it) ≡ apart_from (count + 1) place it
apart_more count place it = ap (λ (n : ℕ). apart_from n place it) (sym (add-one count))

disconnected_length : (one other : ℕ) (it : LocalView) → length (disconnected one other it).boxes ≡ length it.boxes
disconnected_length one other it = changed_length (closed one) (changed_at one (closed other) it.boxes) other ∙ changed_length (closed other) it.boxes one

pub within_disconnected : (n one other : ℕ) (it new : LocalView) → new ≡ disconnected one other it → n < length it.boxes → n < length new.boxes
within_disconnected n one other it new is within = subst (λ (x : LocalView). n < length x.boxes) (sym is) (subst (λ (m : ℕ). n < m) (sym (disconnected_length one other it)) within)

pub within_opened : (n reader writer : ℕ) (it new : LocalView) → new ≡ opens reader writer it → n < length it.boxes → n < length new.boxes
within_opened n reader writer it new is within = subst (λ (x : LocalView). n < length x.boxes) (sym is) (subst (λ (m : ℕ). n < m) (sym (changed_length (opened writer (it.used + 1)) it.boxes reader)) within)

pub apart_none : (place : ℕ) (it : LocalView) → it ≡ apart_from 0 place it
apart_none place it = refl

pub posts_none : (reader writer : ℕ) (outputs : List (List ℕ)) (it : LocalView) → outputs ≡ [] → posted_from reader writer outputs it ≡ it
posts_none reader writer outputs it none = ap (λ (l : List (List ℕ)). posted_from reader writer l it) none

-- one more server has its bytes
pub posts_more : (reader writer : ℕ) (bytes : List ℕ) (pending rest : List (List ℕ)) (it new : LocalView) → pending ≡ bytes ∷ rest → new ≡ at reader (brought writer bytes) it → posted_from (reader + 1) writer rest new ≡ posted_from reader writer pending it
posts_more reader writer bytes pending rest it new step is =
    ap (λ (x : LocalView). posted_from (reader + 1) writer rest x) is ∙ ap (λ (l : List (List ℕ)). posted_from reader writer l it) (sym step)

pub more_posted : (reader all : ℕ) (bytes : List ℕ) (pending rest : List (List ℕ)) → pending ≡ bytes ∷ rest → reader + length pending ≡ all → reader + 1 + length rest ≡ all
more_posted reader all bytes pending rest step number =
    let longer : length pending ≡ suc (length rest) = ap (λ (l : List (List ℕ)). length l) step in
    omega (arith, longer, number)
