-- The places at which an epoch follows another, one after another.
use Rattle.std.proofs.Common.{◌≡◌, ◌<◌, ◌+◌, ℕ, suc, true, false, List, [], ◌∷◌, ◌++◌, filter, length, take, get_or, refl, sym, ap, ◌∙◌, append-nil, arith}
use Rattle.std.proofs.Math.Seq.{take-suc}
use Rattle.std.proofs.lemmas.List.Elements.{filter-append}
use Rattle.zk_directory.specs.declared.joint.Joint.{Joint}
use Rattle.zk_verification.specs.Findings.{is_open}
use Rattle.zk_verification.specs.declared.mark.Mark.{Mark}

pub is_kept : (states : List Mark) (joint : Joint) (old new : List Joint) → is_open states joint ≡ true → new ≡ old ++ joint ∷ [] → new ≡ old ++ filter (is_open states) (joint ∷ [])
is_kept states joint old new kept is =
    let one : filter (is_open states) (joint ∷ []) ≡ joint ∷ [] = rw kept refl in
    is ∙ ap (λ (l : List Joint). old ++ l) (sym one)

pub is_left : (states : List Mark) (joint : Joint) (old : List Joint) → is_open states joint ≡ false → old ≡ old ++ filter (is_open states) (joint ∷ [])
is_left states joint old left =
    let none : filter (is_open states) (joint ∷ []) ≡ [] = rw left refl in
    sym (ap (λ (l : List Joint). old ++ l) none ∙ append-nil old)

pub opened : (states : List Mark) (joints : List Joint) (i : ℕ) (d : Joint) (kept new : List Joint) → i < length joints → kept ≡ filter (is_open states) (take i joints) → new ≡ kept ++ filter (is_open states) (get_or joints i d ∷ []) → new ≡ filter (is_open states) (take (i + 1) joints)
opened states joints i d kept new lt so_far e =
    let joint = get_or joints i d in
    let one : i + 1 ≡ suc i = omega arith in
    let more : take i joints ++ joint ∷ [] ≡ take (i + 1) joints = sym (take-suc joints i d lt) ∙ ap (λ n. take n joints) (sym one) in
    e ∙ ap (λ (l : List Joint). l ++ filter (is_open states) (joint ∷ [])) so_far ∙ sym (filter-append (is_open states) (take i joints) (joint ∷ [])) ∙ ap (filter (is_open states)) more
