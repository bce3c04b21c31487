-- Where two trees have no differences.
use Rattle.std.proofs.Common.{◌≡◌, ◌⊎◌, ℕ, Bool, true, false, cond, ◌||◌, List, [], ◌∷◌, ◌++◌, Option, Some, None, Result, Ok, Err, inl, inr, refl, sym, ap, ◌∙◌, subst}
use Rattle.std.proofs.lemmas.Map.Lookups.{exact_bytes}
use Rattle.std.proofs.lemmas.Map.Views.{tells_apart}
use Rattle.std.proofs.lemmas.Slice.Eq.{bytes_eq-Decides}
use Rattle.std.specs.BTreeMap.{insert_entry}
use Rattle.std.specs.FinMap.{contains_key-keys, get, keys}
use Rattle.std.specs.List.{filter, flat_map, list_any}
use Rattle.std.specs.Ordering.{eq_by_cmp, match_ordering}
use Rattle.std.specs.Prelude.{OnOk, is_some}
use Rattle.std.specs.Str.{bytes_eq}
use Rattle.std.specs.declared.cmp.Ordering.{Ordering}
use Rattle.std.specs.declared.cmp.Ordering.TheVariants.{Less, Equal, Greater}
use Rattle.zk_tree_changes.specs.Differences.{Line, Paths, differences, line_at, line_of, lines_at, lines_by, paths_of, texts_of, with_all, with_path}
use Rattle.zk_tree_changes.specs.Texts.{AppendsLines}
use Rattle.zk_tree_changes.specs.declared.sign.Sign.TheVariants.{Before, After}
use Rattle.zk_tree_changes.specs.declared.stamps.Stamp.{Stamp}
use Rattle.zk_incidents.specs.Within.{is_within}
use Rattle.zk_path.specs.declared.memory.NoMemory.{NoMemory}
use Rattle.zk_table.specs.States.{NodeMap, path_cmp}
use Rattle.zk_table.specs.declared.node.Node.{Node}

-- ---- which paths there are

abbrev pub Occurs : List ℕ → List (List ℕ) → Type 0
Occurs q [] = ⊥
Occurs q (x ∷ xs) = (x ≡ q) ⊎ Occurs q xs

inserted_by : (r : Ordering) (p : List ℕ) (e : List ℕ × Unit {0}) (es : Paths) → path_cmp p e.0 ≡ r → Occurs p (texts_of (match_ordering r ((p, tt) ∷ e ∷ es) ((e.0, tt) ∷ es) (e ∷ insert_entry path_cmp es p tt))) ⊎ (r ≡ Greater)
inserted_by Less p e es is = inl (inl refl)
inserted_by Equal p e es is = inl (inl (sym (exact_bytes p e.0 is)))
inserted_by Greater p e es is = inr refl

inserted_else : (r : Ordering) (p : List ℕ) (e : List ℕ × Unit {0}) (es : Paths) → r ≡ Greater → Occurs p (texts_of (insert_entry path_cmp es p tt)) → Occurs p (texts_of (match_ordering r ((p, tt) ∷ e ∷ es) ((e.0, tt) ∷ es) (e ∷ insert_entry path_cmp es p tt)))
inserted_else r p e es is o = subst (λ s. Occurs p (texts_of (match_ordering s ((p, tt) ∷ e ∷ es) ((e.0, tt) ∷ es) (e ∷ insert_entry path_cmp es p tt)))) (sym is) (inr o)

inserted_in : (r : Ordering) (p : List ℕ) (e : List ℕ × Unit {0}) (es : Paths) → Occurs p (texts_of (insert_entry path_cmp es p tt)) → Occurs p (texts_of (match_ordering r ((p, tt) ∷ e ∷ es) ((e.0, tt) ∷ es) (e ∷ insert_entry path_cmp es p tt))) ⊎ (r ≡ Greater) → Occurs p (texts_of (match_ordering r ((p, tt) ∷ e ∷ es) ((e.0, tt) ∷ es) (e ∷ insert_entry path_cmp es p tt)))
inserted_in r p e es o (inl found) = found
inserted_in r p e es o (inr is) = inserted_else r p e es is o

inserted : (ps : Paths) (p : List ℕ) → Occurs p (texts_of (with_path ps p))
inserted [] p = inl refl
inserted (e ∷ es) p = inserted_in (path_cmp p e.0) p e es (inserted es p) (inserted_by (path_cmp p e.0) p e es refl)

kept_by : (r : Ordering) (q p : List ℕ) (e : List ℕ × Unit {0}) (es : Paths) → (Occurs q (texts_of es) → Occurs q (texts_of (with_path es p))) → Occurs q (texts_of (e ∷ es)) → Occurs q (texts_of (match_ordering r ((p, tt) ∷ e ∷ es) ((e.0, tt) ∷ es) (e ∷ insert_entry path_cmp es p tt)))
kept_by Less q p e es more o = inr o
kept_by Equal q p e es more o = o
kept_by Greater q p e es more (inl is) = inl is
kept_by Greater q p e es more (inr o) = inr (more o)

kept : (ps : Paths) (p q : List ℕ) → Occurs q (texts_of ps) → Occurs q (texts_of (with_path ps p))
kept [] p q o = absurd o
kept (e ∷ es) p q o = kept_by (path_cmp p e.0) q p e es (kept es p q) o

kept_all : (ps : Paths) (more : List (List ℕ)) (q : List ℕ) → Occurs q (texts_of ps) → Occurs q (texts_of (with_all ps more))
kept_all ps [] q o = o
kept_all ps (p ∷ more) q o = kept_all (with_path ps p) more q (kept ps p q o)

added_all : (ps : Paths) (more : List (List ℕ)) (q : List ℕ) → Occurs q more → Occurs q (texts_of (with_all ps more))
added_all ps [] q o = absurd o
added_all ps (p ∷ more) q (inl is) = kept_all (with_path ps p) more q (subst (λ x. Occurs x (texts_of (with_path ps p))) is (inserted ps p))
added_all ps (p ∷ more) q (inr o) = added_all (with_path ps p) more q o

occurs_by : (b : Bool) (q k : List ℕ) (ks : List (List ℕ)) → eq_by_cmp path_cmp q k ≡ b → (b || list_any (eq_by_cmp path_cmp q) ks) ≡ true → (list_any (eq_by_cmp path_cmp q) ks ≡ true → Occurs q ks) → Occurs q (k ∷ ks)
occurs_by true q k ks is e more = inl (sym (tells_apart exact_bytes q k is))
occurs_by false q k ks is e more = inr (more e)

occurs_any : (ks : List (List ℕ)) (q : List ℕ) → list_any (eq_by_cmp path_cmp q) ks ≡ true → Occurs q ks
occurs_any [] q e = cc
occurs_any (k ∷ ks) q e = occurs_by (eq_by_cmp path_cmp q k) q k ks refl e (occurs_any ks q)

-- the path of a node
in_keys : (nodes : NodeMap) (q : List ℕ) (node : Node) → get nodes q ≡ Some node → Occurs q (keys nodes)
in_keys nodes q node is = occurs_any (keys nodes) q (sym (contains_key-keys nodes q) ∙ ap is_some is)

pub in_old : (old new : NodeMap) (q : List ℕ) (node : Node) → get old q ≡ Some node → Occurs q (texts_of (paths_of old new))
in_old old new q node is = kept_all (with_all [] (keys old)) (keys new) q (added_all [] (keys old) q (in_keys old q node is))

pub in_new : (old new : NodeMap) (q : List ℕ) (node : Node) → get new q ≡ Some node → Occurs q (texts_of (paths_of old new))
in_new old new q node is = added_all (with_all [] (keys old)) (keys new) q (in_keys new q node is)

in_cond : (b : Bool) (q x : List ℕ) (xs : List (List ℕ)) → Occurs q xs → Occurs q (cond b (x ∷ xs) xs)
in_cond true q x xs o = inr o
in_cond false q x xs o = o

pub occurs_filter : (test : List ℕ → Bool) (xs : List (List ℕ)) (q : List ℕ) → test q ≡ true → Occurs q xs → Occurs q (filter test xs)
occurs_filter test [] q t o = absurd o
occurs_filter test (x ∷ xs) q t (inl is) = subst (λ b. Occurs q (cond b (x ∷ filter test xs) (filter test xs))) (sym (ap test is ∙ t)) (inl is)
occurs_filter test (x ∷ xs) q t (inr o) = in_cond (test x) q x (filter test xs) (occurs_filter test xs q t o)

-- ---- no line

no_front : {X : Type 0} (xs ys : List X) → xs ++ ys ≡ [] → xs ≡ []
no_front [] ys e = refl
no_front (x ∷ xs) ys e = cc

no_rest : {X : Type 0} (xs ys : List X) → xs ++ ys ≡ [] → ys ≡ []
no_rest [] ys e = e
no_rest (x ∷ xs) ys e = cc

empty_at : {X : Type 0} (f : List ℕ → List X) (xs : List (List ℕ)) (q : List ℕ) → flat_map f xs ≡ [] → Occurs q xs → f q ≡ []
empty_at f [] q e o = absurd o
empty_at f (x ∷ xs) q e (inl is) = ap f (sym is) ∙ no_front (f x) (flat_map f xs) e
empty_at f (x ∷ xs) q e (inr o) = empty_at f xs q (no_rest (f x) (flat_map f xs) e) o

none_by : {X : Type 0} (f : List ℕ → List X) (t : Bool) (x : List ℕ) (xs : List (List ℕ)) → (t ≡ true → f x ≡ []) → flat_map f xs ≡ [] → flat_map f (cond t (x ∷ xs) xs) ≡ []
none_by f true x xs h e = ap (λ l. l ++ flat_map f xs) (h refl) ∙ e
none_by f false x xs h e = e

all_none : {X : Type 0} (f : List ℕ → List X) (test : List ℕ → Bool) (xs : List (List ℕ)) → ((x : List ℕ) → test x ≡ true → f x ≡ []) → flat_map f (filter test xs) ≡ []
all_none f test [] h = refl
all_none f test (x ∷ xs) h = none_by f (test x) x (filter test xs) (h x) (all_none f test xs h)

-- ---- the lines at a path

pub lines_are : (old new : NodeMap) (path : List ℕ) → lines_at old new path ≡ lines_by path (line_at old path) (line_at new path)
unfolding lines_at
lines_are old new path = refl

same_text : (t : Bool) (path a b : List ℕ) → bytes_eq a b ≡ t → cond t [] (line_of Before path a ∷ line_of After path b ∷ []) ≡ [] → a ≡ b
same_text true path a b is e = (bytes_eq-Decides a b).0 is
same_text false path a b is e = cc

same_by : (path : List ℕ) (a b : Option (List ℕ)) → lines_by path a b ≡ [] → a ≡ b
same_by path None None e = refl
same_by path (Some a) None e = cc
same_by path None (Some b) e = cc
same_by path (Some a) (Some b) e = ap Some (same_text (bytes_eq a b) path a b refl e)

no_change : (path : List ℕ) (a : Option (List ℕ)) → lines_by path a a ≡ []
no_change path None = refl
no_change path (Some a) = ap (λ t. cond t [] (line_of Before path a ∷ line_of After path a ∷ [])) ((bytes_eq-Decides a a).1 refl)

-- a text to which the lines before and after were appended
pub changed_by : (r : Result (Unit {0}) NoMemory) (stamp_at : List ℕ → Option Stamp) (t t' : List ℕ) (old new : NodeMap) (path : List ℕ) (a b : Option (List ℕ)) → a ≡ line_at old path → b ≡ line_at new path → OnOk r (AppendsLines stamp_at (lines_by path a b) t t')
    → OnOk r (AppendsLines stamp_at (lines_at old new path) t t')
changed_by (Ok done) stamp_at t t' old new path a b before after h =
    subst (λ (l : List Line). AppendsLines stamp_at l t t') (ap (λ x. lines_by path x b) before ∙ ap (lines_by path (line_at old path)) after ∙ sym (lines_are old new path)) h
changed_by (Err failed) stamp_at t t' old new path a b before after h = tt

-- ---- all paths

pub differences_are : (root : List ℕ) (below : Bool) (old new : NodeMap) → differences root below old new ≡ flat_map (lines_at old new) (filter (is_within root below) (texts_of (paths_of old new)))
unfolding differences
differences_are root below old new = refl

at_path : (root : List ℕ) (below : Bool) (old new : NodeMap) (path : List ℕ) → differences root below old new ≡ [] → is_within root below path ≡ true → Occurs path (texts_of (paths_of old new)) → line_at old path ≡ line_at new path
at_path root below old new path e within o =
    same_by path (line_at old path) (line_at new path)
    (sym (lines_are old new path) ∙ empty_at (lines_at old new) (filter (is_within root below) (texts_of (paths_of old new))) path (sym (differences_are root below old new) ∙ e) (occurs_filter (is_within root below) (texts_of (paths_of old new)) path within o))

pub no_line : (nodes : NodeMap) (path : List ℕ) → get nodes path ≡ None → line_at nodes path ≡ None
no_line nodes path is = rw is refl

by_nodes : (root : List ℕ) (below : Bool) (old new : NodeMap) (path : List ℕ) (a b : Option Node) → get old path ≡ a → get new path ≡ b → differences root below old new ≡ [] → is_within root below path ≡ true → line_at old path ≡ line_at new path
by_nodes root below old new path (Some node) b is other e within = at_path root below old new path e within (in_old old new path node is)
by_nodes root below old new path None (Some node) is other e within = at_path root below old new path e within (in_new old new path node other)
by_nodes root below old new path None None is other e within = no_line old path is ∙ sym (no_line new path other)

pub same_lines : (root : List ℕ) (below : Bool) (old new : NodeMap) → differences root below old new ≡ [] → (path : List ℕ) → is_within root below path ≡ true → line_at old path ≡ line_at new path
same_lines root below old new e path within = by_nodes root below old new path (get old path) (get new path) refl refl e within

pub no_differences : (root : List ℕ) (below : Bool) (old new : NodeMap) → ((path : List ℕ) → is_within root below path ≡ true → line_at old path ≡ line_at new path) → differences root below old new ≡ []
no_differences root below old new same =
    differences_are root below old new
    ∙ all_none (lines_at old new) (is_within root below) (texts_of (paths_of old new)) (λ path within. lines_are old new path ∙ ap (λ a. lines_by path a (line_at new path)) (same path within) ∙ no_change path (line_at new path))
