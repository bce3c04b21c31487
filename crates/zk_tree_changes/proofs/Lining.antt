-- Lines that are appended one after another.
use Rattle.std.proofs.Common.{◌≡◌, ◌<◌, ◌+◌, ℕ, ℤ, Bool, true, false, cond, List, [], ◌∷◌, ◌++◌, Option, Some, Result, Ok, Err, length, get_or, drop, map, refl, sym, ap, ◌∙◌, subst, append_assoc, append-nil}
use Rattle.std.proofs.lemmas.List.{drop_more}
use Rattle.std.specs.Borrow.{Bor}
use Rattle.std.specs.List.{filter, flat_map}
use Rattle.std.specs.Prelude.{OnOk}
use Rattle.std.specs.Str.{bytes_eq}
use Rattle.zk_tree_changes.specs.Differences.{Line, changed_lines, line_of}
use Rattle.zk_tree_changes.specs.Texts.{AppendsLines, AppendsStamp, AreLines, sign_text}
use Rattle.zk_tree_changes.specs.declared.sign.Sign.TheVariants.{Before, After}
use Rattle.zk_tree_changes.specs.declared.stamps.Stamp.{Stamp}
use Rattle.zk_format.specs.Spelling.{id_digits}
use Rattle.zk_path.specs.declared.memory.NoMemory.{NoMemory}
use Rattle.zk_json.specs.Times.{AppendsTime, IsTimeText}

-- the time and the zxid, each after a space, and a space
pub stamp_text : (stamp : Stamp) (time zxid : ℤ) (old one two three new : List ℕ) → time ≡ stamp.time → zxid ≡ stamp.zxid → one ≡ old ++ 32 ∷ [] → AppendsTime one time two → three ≡ two ++ 32 ∷ id_digits zxid → new ≡ three ++ 32 ∷ [] → AppendsStamp (Some stamp) old new
stamp_text stamp time zxid old one two three new same_time same_zxid a (text, is, b) c d =
    let first : two ≡ old ++ 32 ∷ text = b ∙ ap (λ t. t ++ text) a ∙ append_assoc old (32 ∷ []) text in
    let id = 32 ∷ id_digits stamp.zxid in
    let second : three ≡ two ++ id = c ∙ ap (λ (z : ℤ). two ++ 32 ∷ id_digits z) same_zxid in (
      32 ∷ text ++ id ++ 32 ∷ [],
      (text, subst (λ (t : ℤ). IsTimeText t text) same_time is, refl),
      d
          ∙ ap (λ t. t ++ 32 ∷ []) (second ∙ ap (λ t. t ++ id) first ∙ append_assoc old (32 ∷ text) id)
          ∙ append_assoc old (32 ∷ text ++ id) (32 ∷ []),
    )

module _ (stamp_at : List ℕ → Option Stamp) where
  pub no_line : (text : List ℕ) → AppendsLines stamp_at [] text text
  no_line text = ([], refl, sym (append-nil text))

  -- the sign, the transaction and the node
  pub one_line : (line : Line) (old one two new : List ℕ) → one ≡ old ++ sign_text line.sign → AppendsStamp (stamp_at line.path) one two → new ≡ two ++ line.node → AppendsLines stamp_at (line ∷ []) old new
  one_line line old one two new e (stamp, is, f) g =
      let text = sign_text line.sign ++ stamp ++ line.node in (
        text,
        (text, [], (stamp, is, refl), refl, sym (append-nil text)),
        g
            ∙ ap (λ t. t ++ line.node) (f ∙ ap (λ t. t ++ stamp) e ∙ append_assoc old (sign_text line.sign) stamp)
            ∙ append_assoc old (sign_text line.sign ++ stamp) line.node,
      )

  both : (xs ys : List Line) (a b : List ℕ) → AreLines stamp_at xs a → AreLines stamp_at ys b → AreLines stamp_at (xs ++ ys) (a ++ b)
  both [] ys a b e h = subst (λ t. AreLines stamp_at ys (t ++ b)) (sym e) h
  both (x ∷ xs) ys a b (front, rest, one, more, is) h = (front, rest ++ b, one, both xs ys rest b more h, ap (λ t. t ++ b) is ∙ append_assoc front rest b)

  pub joined : (xs ys : List Line) (old middle new : List ℕ) → AppendsLines stamp_at xs old middle → AppendsLines stamp_at ys middle new → AppendsLines stamp_at (xs ++ ys) old new
  joined xs ys old middle new (a, are, e) (b, also, f) = (a ++ b, both xs ys a b are also, f ∙ ap (λ t. t ++ b) e ∙ append_assoc old a b)

  -- a path that is covered, or not
  pub taken : (f : List ℕ → List Line) (test : List ℕ → Bool) (x old new : List ℕ) → test x ≡ true → AppendsLines stamp_at (f x) old new → AppendsLines stamp_at (flat_map f (filter test (x ∷ []))) old new
  taken f test x old new is h =
      subst (λ t. AppendsLines stamp_at (flat_map f (cond t (x ∷ []) [])) old new) (sym is) (subst (λ (l : List Line). AppendsLines stamp_at l old new) (sym (append-nil (f x))) h)

  pub passed : (f : List ℕ → List Line) (test : List ℕ → Bool) (x text : List ℕ) → test x ≡ false → AppendsLines stamp_at (flat_map f (filter test (x ∷ []))) text text
  passed f test x text is = subst (λ t. AppendsLines stamp_at (flat_map f (cond t (x ∷ []) [])) text text) (sym is) (no_line text)

  next_by : (f : List ℕ → List Line) (t : Bool) (x : List ℕ) (xs : List (List ℕ)) (old middle new : List ℕ) → AppendsLines stamp_at (flat_map f (cond t (x ∷ []) [])) old middle → AppendsLines stamp_at (flat_map f xs) middle new → AppendsLines stamp_at (flat_map f (cond t (x ∷ xs) xs)) old new
  next_by f true x xs old middle new one more = joined (f x) (flat_map f xs) old middle new (subst (λ (l : List Line). AppendsLines stamp_at l old middle) (append-nil (f x)) one) more
  next_by f false x xs old middle new one more = joined [] (flat_map f xs) old middle new one more

  pub next_lines : (f : List ℕ → List Line) (test : List ℕ → Bool) (paths : List (Bor (List ℕ))) (i : ℕ) (d : Bor (List ℕ)) (old middle new : List ℕ) → i < length paths
      → (let path : Bor (List ℕ) = get_or paths i d in AppendsLines stamp_at (flat_map f (filter test (path.now ∷ []))) old middle)
      → AppendsLines stamp_at (flat_map f (filter test (map (λ (path : Bor (List ℕ)). path.now) (drop (i + 1) paths)))) middle new
      → AppendsLines stamp_at (flat_map f (filter test (map (λ (path : Bor (List ℕ)). path.now) (drop i paths)))) old new
  next_lines f test paths i d old middle new lt one more =
      let texts = map (λ (path : Bor (List ℕ)). path.now) in
      let path : Bor (List ℕ) = get_or paths i d in
      subst (λ (l : List (Bor (List ℕ))). AppendsLines stamp_at (flat_map f (filter test (texts l))) old new) (sym (drop_more paths i d lt))
      (next_by f (test path.now) path.now (filter test (texts (drop (i + 1) paths))) old middle new one more)

  -- both lines of a node that was changed
  pub both_lines : (r : Result (Unit {0}) NoMemory) (path before after old middle new : List ℕ) → bytes_eq before after ≡ false → AppendsLines stamp_at (line_of Before path before ∷ []) old middle
      → OnOk r (AppendsLines stamp_at (line_of After path after ∷ []) middle new) → OnOk r (AppendsLines stamp_at (changed_lines path before after) old new)
  both_lines (Ok done) path before after old middle new is one more =
      subst (λ t. AppendsLines stamp_at (cond t [] (line_of Before path before ∷ line_of After path after ∷ [])) old new) (sym is) (joined (line_of Before path before ∷ []) (line_of After path after ∷ []) old middle new one more)
  both_lines (Err failed) path before after old middle new is one more = tt
