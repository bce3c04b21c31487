-- The snapshots, one after another.
use Rattle.std.proofs.Common.{◌≡◌, ℕ, ℤ, ◌+◌, ◌<◌, ◌≤◌, Bor, List, [], ◌∷◌, ◌++◌, length, drop, get_or, Option, None, refl, sym, ap, ◌∙◌, subst, append_assoc, append-nil}
use Rattle.zk_replay.proofs.Turning.{next_is, at_end}
use Rattle.zk_verification.specs.declared.breaks.Break.{Break}
use Rattle.zk_verification.specs.declared.mark.Mark.{Mark}
use Rattle.zk_verification.specs.Verifications.{AreFollowed, FollowsOn, IsSettled, next_after}

-- what the remaining snapshots lead to, after the marks so far, is what all lead to
abbrev pub AreFollowedTo : List Mark → (List ℕ → Option (List ℕ)) → List Break → List ℤ → List (Bor (List ℕ)) → List ℤ → ℕ → List Mark → List Mark → Option ℤ → Type 0
AreFollowedTo said bytes_in breaks logged logs zxids i old marks next = (rest : List Mark) → AreFollowed said bytes_in breaks logged logs (drop i zxids) next rest → FollowsOn said bytes_in breaks logged logs zxids None old (marks ++ rest)

pub none_followed : (said : List Mark) (bytes_in : List ℕ → Option (List ℕ)) (breaks : List Break) (logged : List ℤ) (logs : List (Bor (List ℕ))) (zxids : List ℤ) (old : List Mark) → AreFollowedTo said bytes_in breaks logged logs zxids 0 old old None
none_followed said bytes_in breaks logged logs zxids old = λ rest f. (rest, f, refl)

pub next_followed : (said : List Mark) (bytes_in : List ℕ → Option (List ℕ)) (breaks : List Break) (logged : List ℤ) (logs : List (Bor (List ℕ))) (zxids : List ℤ) (i : ℕ) (zxid : ℤ) (old marks marks' : List Mark) (next next' : Option ℤ) (mark : Mark) → i < length zxids → zxid ≡ get_or zxids i zxid
    → IsSettled said bytes_in breaks logged logs zxid next mark → next' ≡ next_after next mark → marks' ≡ marks ++ mark ∷ [] → AreFollowedTo said bytes_in breaks logged logs zxids i old marks next → AreFollowedTo said bytes_in breaks logged logs zxids (i + 1) old marks' next'
next_followed said bytes_in breaks logged logs zxids i zxid old marks marks' next next' mark lt is v n e so_far = λ rest f.
    let here = subst (λ (x : Option ℤ). AreFollowed said bytes_in breaks logged logs (drop (i + 1) zxids) x rest) n f in
    let all = subst (λ (l : List ℤ). AreFollowed said bytes_in breaks logged logs l next (mark ∷ rest)) (sym (next_is zxids i zxid lt is)) (mark, rest, v, here, refl) in
    subst (λ (l : List Mark). FollowsOn said bytes_in breaks logged logs zxids None old l) (sym (ap (λ (l : List Mark). l ++ rest) e ∙ append_assoc marks (mark ∷ []) rest)) (so_far (mark ∷ rest) all)

pub all_followed : (said : List Mark) (bytes_in : List ℕ → Option (List ℕ)) (breaks : List Break) (logged : List ℤ) (logs : List (Bor (List ℕ))) (zxids : List ℤ) (i : ℕ) (old marks : List Mark) (next : Option ℤ) → length zxids ≤ i → AreFollowedTo said bytes_in breaks logged logs zxids i old marks next → FollowsOn said bytes_in breaks logged logs zxids None old marks
all_followed said bytes_in breaks logged logs zxids i old marks next le so_far =
    subst (λ (l : List Mark). FollowsOn said bytes_in breaks logged logs zxids None old l) (append-nil marks)
    (so_far [] (subst (λ (l : List ℤ). AreFollowed said bytes_in breaks logged logs l next []) (sym (at_end zxids i le)) refl))
