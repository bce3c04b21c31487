-- Parents, last names and children, by the names that a path has.
use Rattle.std.proofs.Common.{◌≡◌, ◌≢◌, ℕ, ◌==◌, List, [], ◌∷◌, ◌++◌, false, length, Some, None, if◌then◌else◌, sym, ap, subst, ◌∙◌, refl, inl, inr, ⊎_elim, arith}
use Rattle.std.specs.List.{AllByRecursion}
use Rattle.std.proofs.lemmas.Bool.{cond-false, or_from, ne_eqb}
use Rattle.std.proofs.lemmas.List.{append-nil, append_assoc, length-append, nil_from_length}
use Rattle.std.proofs.lemmas.Option.{same_Some}
use Rattle.zk_path.specs.Paths.{is_slash, IsName, IsPath, spelled, name_fault, fault_of, has_slash, is_root, parent_of, name_of, child_of}
use Rattle.zk_path.specs.PathLaws.{path_of, RootHasNoParent, ParentDropsTheLastName, ChildAddsAName, PathsAreChildren}
use Rattle.zk_path.proofs.Slashes.{before_last_slash_at, after_last_slash_at}
use Rattle.zk_path.proofs.FaultLaw.{HasNoSlash, different_bytes, IsName-from_fault, IsPath-from_fault, fault_of-IsPath}

has_slash_none : (name : List ℕ) → HasNoSlash name → has_slash name ≡ false
has_slash_none [] whole = refl
has_slash_none (b ∷ bs) whole = or_from (is_slash b) (has_slash bs) whole.0 (has_slash_none bs whole.1)

-- ---- names and their text

spelled-push : (names : List (List ℕ)) (last : List ℕ) → spelled (names ++ last ∷ []) ≡ spelled names ++ 47 ∷ last
spelled-push [] last = ap (λ xs. 47 ∷ xs) (append-nil last)
spelled-push (name ∷ names) last =
    ap (λ xs. (47 ∷ name) ++ xs) (spelled-push names last) ∙ sym (append_assoc (47 ∷ name) (spelled names) (47 ∷ last))

path_of-push : (names : List (List ℕ)) (last : List ℕ) → path_of (names ++ last ∷ []) ≡ spelled names ++ 47 ∷ last
path_of-push [] last = spelled-push [] last
path_of-push (name ∷ names) last = spelled-push (name ∷ names) last

names-push : (names : List (List ℕ)) (last : List ℕ) → AllByRecursion IsName names → IsName last → AllByRecursion IsName (names ++ last ∷ [])
names-push [] last all is = (is, tt)
names-push (name ∷ names) last all is = (all.0, names-push names last all.1 is)

-- the names of a path
record Named (text : List ℕ) : Type 0 where
  names : List (List ℕ)
  all : AllByRecursion IsName names
  is : text ≡ path_of names

named_if_filled : (text : List ℕ) (names : List (List ℕ)) → names ≢ [] → AllByRecursion IsName names → text ≡ spelled names → Named text
named_if_filled text [] filled all is = absurd (filled refl)
named_if_filled text (name ∷ names) filled all is = record { names = name ∷ names; all = all; is = is }

named : (text : List ℕ) → IsPath text → Named text
named text is =
    ⊎_elim
    (λ root. record { names = []; all = tt; is = root })
    (λ (names, filled, all, spells). named_if_filled text names filled all spells)
    is

path_of-IsPath : (names : List (List ℕ)) → AllByRecursion IsName names → IsPath (path_of names)
path_of-IsPath [] all = inl refl
path_of-IsPath (name ∷ names) all = inr (name ∷ names, (λ none. absurd (cc)), all, refl)

-- ---- what precedes a last name

is_root_behind : (above name : List ℕ) → name ≢ [] → is_root (above ++ 47 ∷ name) ≡ false
is_root_behind above name filled =
    different_bytes (above ++ 47 ∷ name) (47 ∷ []) (λ e. filled (nil_from_length name (omega (arith, ap length e, length-append above (47 ∷ name)))))

parent_of_behind : (above name : List ℕ) → name ≢ [] → has_slash name ≡ false → parent_of (above ++ 47 ∷ name) ≡ Some (if length above == 0 then 47 ∷ [] else above)
parent_of_behind above name filled whole =
    cond-false (is_root (above ++ 47 ∷ name)) _ _ (is_root_behind above name filled)
    ∙ ap (λ stem. Some (if length stem == 0 then 47 ∷ [] else stem)) (before_last_slash_at above name whole)

path_of-spelled : (names : List (List ℕ)) → (if length (spelled names) == 0 then 47 ∷ [] else spelled names) ≡ path_of names
path_of-spelled [] = refl
path_of-spelled (name ∷ names) =
    cond-false (length (spelled (name ∷ names)) == 0) _ _ (ne_eqb (length (spelled (name ∷ names))) 0 (λ e. absurd (omega arith)))

parent_of-names : (names : List (List ℕ)) (last : List ℕ) → IsName last → parent_of (path_of (names ++ last ∷ [])) ≡ Some (path_of names)
parent_of-names names last is =
    ap parent_of (path_of-push names last)
    ∙ (parent_of_behind (spelled names) last is.filled (has_slash_none last is.no_slash) ∙ ap Some (path_of-spelled names))

name_of-names : (names : List (List ℕ)) (last : List ℕ) → IsName last → name_of (path_of (names ++ last ∷ [])) ≡ last
name_of-names names last is =
    ap name_of (path_of-push names last) ∙ after_last_slash_at (spelled names) last (has_slash_none last is.no_slash)

-- ---- the child with a name

stem_of-names : (names : List (List ℕ)) → AllByRecursion IsName names → (if is_root (path_of names) then [] else path_of names) ≡ spelled names
stem_of-names [] all = refl
stem_of-names (name ∷ names) all =
    cond-false (is_root (spelled (name ∷ names))) _ _ (different_bytes (spelled (name ∷ names)) (47 ∷ []) (λ e. all.0.filled (nil_from_length name (omega (arith, ap length e, length-append name (spelled names))))))

child_of-names : (names : List (List ℕ)) (name : List ℕ) → AllByRecursion IsName names → child_of (path_of names) name ≡ path_of (names ++ name ∷ [])
child_of-names names name all = ap (λ stem. stem ++ 47 ∷ name) (stem_of-names names all) ∙ sym (path_of-push names name)

-- ---- the laws

pub root_has_no_parent : RootHasNoParent
root_has_no_parent = (refl, refl)

pub parent_drops_the_last_name : ParentDropsTheLastName
parent_drops_the_last_name names last all is = (parent_of-names names last is, name_of-names names last is)

pub child_adds_a_name : ChildAddsAName
child_adds_a_name parent name is_path is =
    let known = named parent is_path in
    let child = ap (λ text. child_of text name) known.is ∙ child_of-names known.names name known.all in (
      subst IsPath (sym child) (path_of-IsPath (known.names ++ name ∷ []) (names-push known.names name known.all is)),
      ap parent_of child ∙ (parent_of-names known.names name is ∙ ap Some (sym known.is)),
      ap name_of child ∙ name_of-names known.names name is,
    )

-- a list that is not empty has a last element
record EndsWith {X : Type 0} (xs : List X) : Type 0 where
  front : List X
  last : X
  is : xs ≡ front ++ last ∷ []

ends_with : {X : Type 0} (x : X) (xs : List X) → EndsWith (x ∷ xs)
ends_with x [] = record { front = []; last = x; is = refl }
ends_with x (y ∷ ys) =
    let rest = ends_with y ys in
    record { front = x ∷ rest.front; last = rest.last; is = ap (λ zs. x ∷ zs) rest.is }

names-front : (front : List (List ℕ)) (last : List ℕ) → AllByRecursion IsName (front ++ last ∷ []) → AllByRecursion IsName front × IsName last
names-front [] last all = (tt, all.0)
names-front (name ∷ front) last all =
    let rest = names-front front last all.1 in
    ((all.0, rest.0), rest.1)

-- what a path's parent implies for the path
record IsChild (text parent : List ℕ) : Type 0 where
  front : List (List ℕ)
  last : List ℕ
  all : AllByRecursion IsName front
  name : IsName last
  text_is : text ≡ path_of (front ++ last ∷ [])
  parent_is : path_of front ≡ parent

child_of_names : (text parent : List ℕ) (names : List (List ℕ)) → AllByRecursion IsName names → text ≡ path_of names → parent_of text ≡ Some parent → IsChild text parent
child_of_names text parent [] all is says = let root = sym (ap parent_of is) ∙ says in absurd (cc)
child_of_names text parent (name ∷ names) all is says =
    let ends = ends_with name names in
    let parts = names-front ends.front ends.last (subst (AllByRecursion IsName) ends.is all) in
    let spells = is ∙ ap path_of ends.is in
    record {
      front = ends.front;
      last = ends.last;
      all = parts.0;
      name = parts.1;
      text_is = spells;
      parent_is = same_Some _ _ (sym (parent_of-names ends.front ends.last parts.1) ∙ (sym (ap parent_of spells) ∙ says));
    }

pub paths_are_children : PathsAreChildren
paths_are_children text parent is_path says =
    let known = named text is_path in
    let child = child_of_names text parent known.names known.all known.is says in
    let last = ap name_of child.text_is ∙ name_of-names child.front child.last child.name in (
      subst IsPath child.parent_is (path_of-IsPath child.front child.all),
      subst IsName (sym last) child.name,
      ap (λ p. child_of p (name_of text)) (sym child.parent_is) ∙ (ap (child_of (path_of child.front)) last ∙ (child_of-names child.front child.last child.all ∙ sym child.text_is)),
    )

pub child_has_no_fault : (parent name : List ℕ) → fault_of parent ≡ None → HasNoSlash name → name_fault name ≡ None → fault_of (child_of parent name) ≡ None
child_has_no_fault parent name good whole fine =
    fault_of-IsPath _ (child_adds_a_name parent name (IsPath-from_fault parent good) (IsName-from_fault name whole fine)).0

-- a path's text in parts: the stem, a slash, the name
pub child_of-written : (parent name stem slash text : List ℕ) → stem ≡ (if is_root parent then [] else parent) → slash ≡ 47 ∷ [] → text ≡ stem ++ slash ++ name → text ≡ child_of parent name
child_of-written parent name stem slash text stem_is slash_is is =
    is ∙ (append_assoc stem slash name ∙ (ap (λ xs. stem ++ (xs ++ name)) slash_is ∙ ap (λ xs. xs ++ 47 ∷ name) stem_is))
