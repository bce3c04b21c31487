-- Texts in parts are appended part by part.
use Rattle.std.proofs.Common.{◌≡◌, ◌<◌, ◌≤◌, ◌+◌, ℕ, suc, List, [], ◌++◌, length, drop, get_or, refl, sym, ap, ◌∙◌, subst, append_assoc, append-nil, arith}
use Rattle.std.proofs.Math.Seq.{drop-cons}
use Rattle.std.proofs.lemmas.List.{drop_all}
use Rattle.zk_session_lines.specs.Appending.{Appends, Each, Is, Then}

pub fixed : (old new text : List ℕ) → new ≡ old ++ text → Appends (Is text) old new
fixed old new text e = (text, refl, e)

pub joined : (First Rest : List ℕ → Type 0) (old middle new : List ℕ) → Appends First old middle → Appends Rest middle new → Appends (Then First Rest) old new
joined First Rest old middle new f r = (f.0 ++ r.0, (f.0, r.0, f.1, r.1, refl), r.2 ∙ ap (λ t. t ++ r.0) f.2 ∙ append_assoc old f.0 r.0)

-- the texts of the remaining elements complete the text
abbrev pub Completes : {A : Type 0} → (A → List ℕ → Type 0) → List A → ℕ → List ℕ → List ℕ → Type 0
Completes IsOne xs at old now = (new : List ℕ) → Appends (Each IsOne (drop at xs)) now new → Appends (Each IsOne xs) old new

pub each_begun : {A : Type 0} (IsOne : A → List ℕ → Type 0) (xs : List A) (old : List ℕ) → Completes IsOne xs 0 old old
each_begun IsOne xs old new h = h

pub each_next : {A : Type 0} (IsOne : A → List ℕ → Type 0) (xs : List A) (at : ℕ) (other : A) (old now next : List ℕ) → at < length xs → Completes IsOne xs at old now → Appends (IsOne (get_or xs at other)) now next → Completes IsOne xs (at + 1) old next
each_next IsOne xs at other old now next lt so_far one new rest =
    let same : at + 1 ≡ suc at = omega arith in
    let x = get_or xs at other in
    let more = subst (λ n. Appends (Each IsOne (drop n xs)) next new) same rest in
    so_far new (subst (λ l. Appends (Each IsOne l) now new) (sym (drop-cons xs at other lt)) (joined (IsOne x) (Each IsOne (drop (suc at) xs)) now next new one more))

pub each_ended : {A : Type 0} (IsOne : A → List ℕ → Type 0) (xs : List A) (at : ℕ) (old now : List ℕ) → length xs ≤ at → Completes IsOne xs at old now → Appends (Each IsOne xs) old now
each_ended IsOne xs at old now le so_far =
    so_far now (subst (λ l. Appends (Each IsOne l) now now) (sym (drop_all at xs le)) ([], refl, sym (append-nil now)))
