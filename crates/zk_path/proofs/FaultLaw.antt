-- A text has no fault if and only if the grammar accepts it.
use Rattle.std.proofs.Common.{◌≡◌, ◌≢◌, ℕ, ◌-◌, ◌==◌, List, [], ◌∷◌, ◌++◌, Bool, true, false, cond, length, Option, Some, None, sym, ap, subst, ◌∙◌, refl, inl, inr, ⊎_elim, arith, slice_index}
use Rattle.std.specs.List.{AllByRecursion, list_any, slice_split, onto_first}
use Rattle.std.specs.Str.{chars, bytes_eq}
use Rattle.std.proofs.lemmas.Bool.{cond-true, cond-false, cases_Bool, or_parts, or_from, eqb-true, eqb-false, ne_eqb, false_from_ne_true}
use Rattle.std.proofs.lemmas.Bool.Decides.{not_from_Decides}
use Rattle.std.proofs.lemmas.List.{append-nil, append_assoc, get_or_push, length_push}
use Rattle.std.proofs.lemmas.List.Elements.{All-from_recursion}
use Rattle.std.proofs.lemmas.List.Splits.{slice_split_none, slice_split_at}
use Rattle.std.proofs.lemmas.Slice.Eq.{bytes_eq-Decides}
use Rattle.zk_path.specs.declared.fault.PathFault.{PathFault}
use Rattle.zk_path.specs.Paths.{is_slash, is_bad_char, IsName, spelled, IsPath, earlier, is_dot_name, name_fault, first_fault, rest_fault, fault_of}
use Rattle.zk_path.proofs.Slashes.{begins_with_slash}

abbrev pub HasNoSlash : List ℕ → Type 0
HasNoSlash = AllByRecursion (λ b. is_slash b ≡ false)

-- ---- a test before another

none_from_cond : (b : Bool) (fault : PathFault) (later : Option PathFault) → cond b (Some fault) later ≡ None → (b ≡ false) × (later ≡ None)
none_from_cond true fault later e = absurd (cc)
none_from_cond false fault later e = (refl, e)

none_from_earlier : (first later : Option PathFault) → earlier first later ≡ None → (first ≡ None) × (later ≡ None)
none_from_earlier (Some fault) later e = absurd (cc)
none_from_earlier None later e = (refl, e)

-- ---- one name

bytes_differ : (xs ys : List ℕ) → bytes_eq xs ys ≡ false → xs ≢ ys
bytes_differ xs ys e = not_from_Decides (bytes_eq xs ys) (bytes_eq-Decides xs ys) e

pub different_bytes : (xs ys : List ℕ) → xs ≢ ys → bytes_eq xs ys ≡ false
different_bytes xs ys ne = false_from_ne_true (bytes_eq xs ys) (λ e. ne ((bytes_eq-Decides xs ys).0 e))

pub IsName-from_fault : (name : List ℕ) → HasNoSlash name → name_fault name ≡ None → IsName name
IsName-from_fault name whole e =
    let filled = none_from_cond (length name == 0) _ _ e in
    let dots = none_from_cond (is_dot_name name) _ _ filled.1 in
    let good = none_from_cond (list_any is_bad_char (chars name)) _ _ dots.1 in
    let differs = or_parts (bytes_eq name (46 ∷ [])) (bytes_eq name (46 ∷ 46 ∷ [])) dots.0 in
    record {
      filled = λ empty. eqb-false (length name) 0 filled.0 (ap length empty);
      not_dot = bytes_differ _ _ differs.0;
      not_dots = bytes_differ _ _ differs.1;
      no_slash = whole;
      good_chars = good.0;
    }

length_filled : (xs : List ℕ) → xs ≢ [] → (length xs == 0) ≡ false
length_filled [] ne = absurd (ne refl)
length_filled (x ∷ xs) ne = ne_eqb (length (x ∷ xs)) 0 (λ e. absurd (omega arith))

pub name_fault-IsName : (name : List ℕ) → IsName name → name_fault name ≡ None
name_fault-IsName name is =
    cond-false (length name == 0) _ _ (length_filled name is.filled)
    ∙ (cond-false (is_dot_name name) _ _ (or_from _ _ (different_bytes _ _ is.not_dot) (different_bytes _ _ is.not_dots))
    ∙ cond-false (list_any is_bad_char (chars name)) _ _ is.good_chars)

names_from_fault : (names : List (List ℕ)) → AllByRecursion HasNoSlash names → first_fault names ≡ None → AllByRecursion IsName names
names_from_fault [] whole e = tt
names_from_fault (name ∷ names) whole e =
    let both = none_from_earlier (name_fault name) (first_fault names) e in
    (IsName-from_fault name whole.0 both.0, names_from_fault names whole.1 both.1)

first_fault-names : (names : List (List ℕ)) → AllByRecursion IsName names → first_fault names ≡ None
first_fault-names [] all = refl
first_fault-names (name ∷ names) all = ap (λ o. earlier o (first_fault names)) (name_fault-IsName name all.0) ∙ first_fault-names names all.1

-- ---- a text that is split at its slashes

spelled_onto_first : (b : ℕ) (parts : List (List ℕ)) (bs : List ℕ) → spelled parts ≡ 47 ∷ bs → spelled (onto_first b parts) ≡ 47 ∷ b ∷ bs
spelled_onto_first b [] bs e = absurd (cc)
spelled_onto_first b (part ∷ parts) bs e = cc

spelled-slice_split : (bs : List ℕ) → spelled (slice_split is_slash bs) ≡ 47 ∷ bs
spelled-slice_split [] = refl
spelled-slice_split (b ∷ bs) =
    ⊎_elim
    (λ slash. ap spelled (cond-true (is_slash b) _ _ slash) ∙ (ap (λ xs. 47 ∷ xs) (spelled-slice_split bs) ∙ ap (λ x. 47 ∷ x ∷ bs) (sym (eqb-true b 47 slash))))
    (λ other. ap spelled (cond-false (is_slash b) _ _ other) ∙ spelled_onto_first b (slice_split is_slash bs) bs (spelled-slice_split bs))
    (cases_Bool (is_slash b))

no_slash-onto_first : (b : ℕ) (parts : List (List ℕ)) → is_slash b ≡ false → AllByRecursion HasNoSlash parts → AllByRecursion HasNoSlash (onto_first b parts)
no_slash-onto_first b [] other whole = ((other, tt), tt)
no_slash-onto_first b (part ∷ parts) other whole = ((other, whole.0), whole.1)

no_slash-slice_split : (bs : List ℕ) → AllByRecursion HasNoSlash (slice_split is_slash bs)
no_slash-slice_split [] = (tt, tt)
no_slash-slice_split (b ∷ bs) =
    let P : List (List ℕ) → Type 0 = AllByRecursion HasNoSlash in
    ⊎_elim
    (λ slash. subst P (sym (cond-true (is_slash b) _ _ slash)) (tt, no_slash-slice_split bs))
    (λ other. subst P (sym (cond-false (is_slash b) _ _ other)) (no_slash-onto_first b (slice_split is_slash bs) other (no_slash-slice_split bs)))
    (cases_Bool (is_slash b))

filled_from_spelled : (names : List (List ℕ)) (bs : List ℕ) → spelled names ≡ 47 ∷ bs → names ≢ []
filled_from_spelled [] bs e = λ _. absurd (cc)
filled_from_spelled (name ∷ names) bs e = λ none. absurd (cc)

-- ---- the law, in one direction

path_behind_slash : (rest : List ℕ) → rest_fault rest ≡ None → IsPath (47 ∷ rest)
path_behind_slash [] e = inl refl
path_behind_slash (b ∷ bs) e =
    let rest = b ∷ bs in
    let more = cond-false (length rest == 0) None _ (length_filled rest (λ none. absurd (cc))) in
    let good = none_from_cond (is_slash (slice_index rest (length rest - 1))) _ _ (sym more ∙ e) in
    inr (slice_split is_slash rest, filled_from_spelled _ rest (spelled-slice_split rest), names_from_fault _ (no_slash-slice_split rest) good.1, sym (spelled-slice_split rest))

pub IsPath-from_fault : (text : List ℕ) → fault_of text ≡ None → IsPath text
IsPath-from_fault text e =
    let first = begins_with_slash text e in
    subst IsPath (sym first.is) (path_behind_slash first.rest first.fault)

-- ---- and in the other

-- a text whose last byte is not a slash
record EndsWithName (text : List ℕ) : Type 0 where
  front : List ℕ
  last : ℕ
  is : text ≡ front ++ last ∷ []
  other : is_slash last ≡ false

EndsWithName-name : (name : List ℕ) → name ≢ [] → HasNoSlash name → EndsWithName name
EndsWithName-name [] filled whole = absurd (filled refl)
EndsWithName-name (b ∷ []) filled whole = record { front = []; last = b; is = refl; other = whole.0 }
EndsWithName-name (b ∷ c ∷ bs) filled whole =
    let rest = EndsWithName-name (c ∷ bs) (λ e. absurd (cc)) whole.1 in
    record { front = b ∷ rest.front; last = rest.last; is = ap (λ xs. b ∷ xs) rest.is; other = rest.other }

EndsWithName-behind : (xs ys : List ℕ) → EndsWithName ys → EndsWithName (xs ++ ys)
EndsWithName-behind xs ys ends = record {
  front = xs ++ ends.front;
  last = ends.last;
  is = ap (λ zs. xs ++ zs) ends.is ∙ sym (append_assoc xs ends.front (ends.last ∷ []));
  other = ends.other;
}

EndsWithName-names : (name : List ℕ) (names : List (List ℕ)) → IsName name → AllByRecursion IsName names → EndsWithName (name ++ spelled names)
EndsWithName-names name [] is all = subst EndsWithName (sym (append-nil name)) (EndsWithName-name name is.filled is.no_slash)
EndsWithName-names name (next ∷ names) is all =
    EndsWithName-behind name (47 ∷ next ++ spelled names) (EndsWithName-behind (47 ∷ []) (next ++ spelled names) (EndsWithName-names next names all.0 all.1))

slice_split-names : (name : List ℕ) (names : List (List ℕ)) → IsName name → AllByRecursion IsName names → slice_split is_slash (name ++ spelled names) ≡ name ∷ names
slice_split-names name [] is all =
    ap (slice_split is_slash) (append-nil name) ∙ slice_split_none is_slash name (All-from_recursion _ name is.no_slash)
slice_split-names name (next ∷ names) is all =
    slice_split_at is_slash name 47 (next ++ spelled names) (All-from_recursion _ name is.no_slash) refl
    ∙ ap (λ parts. name ∷ parts) (slice_split-names next names all.0 all.1)

rest_fault-names : (rest : List ℕ) (names : List (List ℕ)) → EndsWithName rest → slice_split is_slash rest ≡ names → AllByRecursion IsName names → rest_fault rest ≡ None
rest_fault-names rest names ends split all =
    let at_end = ap (λ xs. slice_index xs (length rest - 1)) ends.is ∙ get_or_push ends.front ends.last 0 (length rest - 1) (omega (arith, ap length ends.is, length_push ends.front ends.last)) in
    cond-false (length rest == 0) _ _ (ne_eqb (length rest) 0 (λ e. absurd (omega (arith, e, ap length ends.is, length_push ends.front ends.last))))
    ∙ (cond-false (is_slash (slice_index rest (length rest - 1))) _ _ (ap is_slash at_end ∙ ends.other)
    ∙ (ap first_fault split ∙ first_fault-names names all))

pub fault_of-spelled : (names : List (List ℕ)) → names ≢ [] → AllByRecursion IsName names → fault_of (spelled names) ≡ None
fault_of-spelled [] filled all = absurd (filled refl)
fault_of-spelled (name ∷ names) filled all =
    rest_fault-names (name ++ spelled names) (name ∷ names) (EndsWithName-names name names all.0 all.1) (slice_split-names name names all.0 all.1) all

pub fault_of-IsPath : (text : List ℕ) → IsPath text → fault_of text ≡ None
fault_of-IsPath text is =
    ⊎_elim
    (λ root. ap fault_of root)
    (λ (names, filled, all, spells). ap fault_of spells ∙ fault_of-spelled names filled all)
    is
