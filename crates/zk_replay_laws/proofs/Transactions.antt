-- A transaction as changes, on a server and on a draft.
use Rattle.std.proofs.Common.{◌≡◌, ◌≢◌, ℕ, ◌<◌, List, [], ◌∷◌, ◌++◌, length, true, false, Some, None, refl, sym, ap, ◌∙◌, ⊎_elim, arith}
use Rattle.std.proofs.lemmas.Bool.{cond-true, cases_Bool, both_ways, and_right}
use Rattle.zk_path.specs.Paths.{parent_of, fault_of, is_root}
use Rattle.zk_path.proofs.Slashes.{begins_with_slash}
use Rattle.zk_table.specs.States.{NodeMap}
use Rattle.zk_replay.specs.Drafts.{DraftMap}
use Rattle.zk_replay_laws.proofs.Paths.{below_parent, none_some}
use Rattle.zk_replay_laws.proofs.Changes.{Change, applied, replayed}
use Rattle.zk_replay_laws.proofs.Replays.{below_longer}
use Rattle.zk_replay_laws.proofs.Timelines.{AreTaken}

-- ---- lists of changes

abbrev pub applied_all : NodeMap → List Change → NodeMap
applied_all m [] = m
applied_all m (c ∷ cs) = applied_all (applied m c) cs

abbrev pub replayed_all : DraftMap → List Change → DraftMap
replayed_all d [] = d
replayed_all d (c ∷ cs) = replayed_all (replayed d c) cs

pub applied_append : (m : NodeMap) (xs ys : List Change) → applied_all m (xs ++ ys) ≡ applied_all (applied_all m xs) ys
applied_append m [] ys = refl
applied_append m (x ∷ xs) ys = applied_append (applied m x) xs ys

pub replayed_append : (d : DraftMap) (xs ys : List Change) → replayed_all d (xs ++ ys) ≡ replayed_all (replayed_all d xs) ys
replayed_append d [] ys = refl
replayed_append d (x ∷ xs) ys = replayed_append (replayed d x) xs ys

pub taken_append : (m : NodeMap) (xs ys : List Change) → AreTaken m xs → AreTaken (applied_all m xs) ys → AreTaken m (xs ++ ys)
taken_append m [] ys first rest = rest
taken_append m (x ∷ xs) ys first rest = (first.0, taken_append (applied m x) xs ys first.1 rest)

-- ---- paths of operations

pub filled_path : (path : List ℕ) → fault_of path ≡ None → path ≢ []
filled_path path good e = let slash = begins_with_slash path good in elim_nil (sym e ∙ slash.is)
  where
    elim_nil : {rest : List ℕ} → [] ≡ 47 ∷ rest → ⊥
    elim_nil h = absurd (cc)

-- a path is longer than its parent's
pub longer_than_parent : (path above : List ℕ) → fault_of path ≡ None → parent_of path ≡ Some above → length above < length path
longer_than_parent path above good parent =
    ⊎_elim
    (λ root. below_root path above good parent root)
    (λ other. below_longer above path (below_parent path above parent other))
    (cases_Bool (is_root above))
  where
    root_length : (text : List ℕ) → is_root text ≡ true → length text ≡ 1
    root_length [] e = absurd (cc)
    root_length (x ∷ []) e = omega arith
    root_length (x ∷ y ∷ ys) e = absurd (both_ways _ (not_root x y ys) e)
      where
        not_root : (a b : ℕ) (bs : List ℕ) → is_root (a ∷ b ∷ bs) ≡ false
        not_root a b bs = and_right _ _ refl

    one_more : (x : ℕ) (rest : List ℕ) → rest ≢ [] → 1 < length (x ∷ rest)
    one_more x [] filled = absurd (filled refl)
    one_more x (y ∷ ys) filled = omega arith

    below_root : (p a : List ℕ) → fault_of p ≡ None → parent_of p ≡ Some a → is_root a ≡ true → length a < length p
    below_root p a ok is root =
        let slash = begins_with_slash p ok in
        let one = root_length a root in
        let more = one_more 47 slash.rest (λ none. none_some (sym (cond-true (is_root p) None _ (ap is_root (slash.is ∙ ap (λ r. 47 ∷ r) none))) ∙ is)) in
        let same = ap length slash.is in
        omega (arith, one, more, same)
