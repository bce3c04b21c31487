-- The paths of what differs, and the lines there.
use Rattle.std.proofs.Common.{◌≡◌, ◌≢◌, ℕ, Bool, true, false, cond, not, ◌&&◌, List, [], ◌∷◌, ◌++◌, Option, Some, None, refl, sym, ap, ◌∙◌, subst}
use Rattle.std.specs.List.{filter, flat_map}
use Rattle.std.specs.Str.{bytes_eq}
use Rattle.zk_tree_changes.specs.Differences.{Line, differ_at, differ_by, differ_within, differences, differing, line_at, line_of, lines_at, lines_by, paths_of, texts_of}
use Rattle.zk_tree_changes.specs.declared.sign.Sign.TheVariants.{Before, After}
use Rattle.zk_incidents.specs.Within.{is_within}
use Rattle.zk_table.specs.States.{NodeMap}
use Rattle.zk_tree_changes.proofs.Differing.{differences_are, lines_are}

pub differ_are : (old new : NodeMap) (path : List ℕ) → differ_at old new path ≡ differ_by (line_at old path) (line_at new path)
unfolding differ_at
differ_are old new path = refl

pub differing_are : (root : List ℕ) (below : Bool) (old new : NodeMap) → differing root below old new ≡ filter (differ_within root below old new) (texts_of (paths_of old new))
unfolding differing
differing_are root below old new = refl

no_lines_for : (t : Bool) (path a b : List ℕ) → not t ≡ false → cond t [] (line_of Before path a ∷ line_of After path b ∷ []) ≡ []
no_lines_for true path a b e = refl
no_lines_for false path a b e = cc

no_lines_by : (path : List ℕ) (a b : Option (List ℕ)) → differ_by a b ≡ false → lines_by path a b ≡ []
no_lines_by path None None e = refl
no_lines_by path (Some a) None e = cc
no_lines_by path None (Some b) e = cc
no_lines_by path (Some a) (Some b) e = no_lines_for (bytes_eq a b) path a b e

no_lines : (old new : NodeMap) (path : List ℕ) → differ_at old new path ≡ false → lines_at old new path ≡ []
no_lines old new path e = lines_are old new path ∙ no_lines_by path (line_at old path) (line_at new path) (sym (differ_are old new path) ∙ e)

some_lines_for : (t : Bool) (path a b : List ℕ) → not t ≡ true → cond t [] (line_of Before path a ∷ line_of After path b ∷ []) ≢ []
some_lines_for true path a b e none = cc
some_lines_for false path a b e none = cc

some_lines_by : (path : List ℕ) (a b : Option (List ℕ)) → differ_by a b ≡ true → lines_by path a b ≢ []
some_lines_by path None None e none = cc
some_lines_by path (Some a) None e none = cc
some_lines_by path None (Some b) e none = cc
some_lines_by path (Some a) (Some b) e none = some_lines_for (bytes_eq a b) path a b e none

pub line_where_differ : (old new : NodeMap) (path : List ℕ) → differ_at old new path ≡ true → lines_at old new path ≢ []
line_where_differ old new path e none = some_lines_by path (line_at old path) (line_at new path) (sym (differ_are old new path) ∙ e) (sym (lines_are old new path) ∙ none)

-- of a path that is covered, there are lines only if the trees differ there
kept_by : (f : List ℕ → List Line) (w d : Bool) (x : List ℕ) (xs ys : List (List ℕ)) → (d ≡ false → f x ≡ []) → flat_map f xs ≡ flat_map f ys → flat_map f (cond w (x ∷ xs) xs) ≡ flat_map f (cond (w && d) (x ∷ ys) ys)
kept_by f true true x xs ys none e = ap (λ l. f x ++ l) e
kept_by f true false x xs ys none e = ap (λ l. l ++ flat_map f xs) (none refl) ∙ e
kept_by f false d x xs ys none e = e

kept : (f : List ℕ → List Line) (within differ : List ℕ → Bool) (xs : List (List ℕ)) → ((x : List ℕ) → differ x ≡ false → f x ≡ []) → flat_map f (filter within xs) ≡ flat_map f (filter (λ x. within x && differ x) xs)
kept f within differ [] none = refl
kept f within differ (x ∷ xs) none = kept_by f (within x) (differ x) x (filter within xs) (filter (λ y. within y && differ y) xs) (none x) (kept f within differ xs none)

pub lines_where_differing : (root : List ℕ) (below : Bool) (old new : NodeMap) → differences root below old new ≡ flat_map (lines_at old new) (differing root below old new)
lines_where_differing root below old new =
    differences_are root below old new
    ∙ kept (lines_at old new) (is_within root below) (differ_at old new) (texts_of (paths_of old new)) (no_lines old new)
    ∙ ap (flat_map (lines_at old new)) (sym (differing_are root below old new))
