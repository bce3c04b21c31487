-- Entries by texts, and by the bytes of these texts.
use Rattle.std.proofs.Common.{◌≡◌, ℕ, Bool, true, false, cond, List, [], ◌∷◌, map, String, Some, Less, Equal, Greater, is_eq, refl, ap, ◌∙◌}
use Rattle.std.specs.BTreeMap.{insert_entry, is_at}
use Rattle.std.specs.Map.{lookup, remove_entry}
use Rattle.std.specs.Ordering.{match_ordering}
use Rattle.std.specs.String.{string_bytes, string_cmp}
use Rattle.std.specs.declared.cmp.Ordering.{Ordering}
use Rattle.zk_table.specs.States.{path_cmp}

abbrev pub shown : {X Y : Type 0} → String Y × X → List ℕ × X
shown entry = (string_bytes entry.0, entry.1)

-- the key and the value of an entry, by another key
abbrev pub keyed : {K L X : Type 0} → (K → L) → K × X → L × X
keyed f entry = (f entry.0, entry.1)

keyed_by : {K L X : Type 0} (f : K → L) (r : Ordering) (a b c : List (K × X)) → map (keyed f) (match_ordering r a b c) ≡ match_ordering r (map (keyed f) a) (map (keyed f) b) (map (keyed f) c)
keyed_by f Less a b c = refl
keyed_by f Equal a b c = refl
keyed_by f Greater a b c = refl

-- an entry is inserted at the same place by keys that compare alike
pub insert_keyed : {K L X : Type 0} (f : K → L) (cmp : K → K → Ordering) (by : L → L → Ordering) → ((k l : K) → cmp k l ≡ by (f k) (f l)) → (es : List (K × X)) (k : K) (v : X) → map (keyed f) (insert_entry cmp es k v) ≡ insert_entry by (map (keyed f) es) (f k) v
insert_keyed f cmp by alike [] k v = refl
insert_keyed f cmp by alike (e ∷ es) k v =
    keyed_by f (cmp k e.0) ((k, v) ∷ e ∷ es) ((e.0, v) ∷ es) (e ∷ insert_entry cmp es k v)
    ∙ ap (λ rest. match_ordering (cmp k e.0) ((f k, v) ∷ keyed f e ∷ map (keyed f) es) ((f e.0, v) ∷ map (keyed f) es) (keyed f e ∷ rest)) (insert_keyed f cmp by alike es k v)
    ∙ ap (λ r. match_ordering r ((f k, v) ∷ keyed f e ∷ map (keyed f) es) ((f e.0, v) ∷ map (keyed f) es) (keyed f e ∷ insert_entry by (map (keyed f) es) (f k) v)) (alike k e.0)

pub insert_shown : {X Y : Type 0} (es : List (String Y × X)) (k : String Y) (v : X) → map shown (insert_entry string_cmp es k v) ≡ insert_entry path_cmp (map shown es) (string_bytes k) v
insert_shown es k v = insert_keyed string_bytes string_cmp path_cmp (λ k l. refl) es k v

kept_by : {X Y : Type 0} (b : Bool) (a c : List (String Y × X)) → map shown (cond b a c) ≡ cond b (map shown a) (map shown c)
kept_by true a c = refl
kept_by false a c = refl

pub remove_shown : {X Y : Type 0} (path : List ℕ) (es : List (String Y × X)) → map shown (remove_entry (is_at (λ (k : String Y). path_cmp path (string_bytes k))) es) ≡ remove_entry (is_at (path_cmp path)) (map shown es)
remove_shown path [] = refl
remove_shown path (e ∷ es) =
    kept_by (is_eq (path_cmp path (string_bytes e.0))) es (e ∷ remove_entry (is_at (λ k. path_cmp path (string_bytes k))) es)
    ∙ ap (λ rest. cond (is_eq (path_cmp path (string_bytes e.0))) (map shown es) (shown e ∷ rest)) (remove_shown path es)

pub lookup_shown : {X Y : Type 0} (path : List ℕ) (es : List (String Y × X)) → lookup (is_at (λ (k : String Y). path_cmp path (string_bytes k))) es ≡ lookup (is_at (path_cmp path)) (map shown es)
lookup_shown path [] = refl
lookup_shown path (e ∷ es) = ap (cond (is_eq (path_cmp path (string_bytes e.0))) (Some e.1)) (lookup_shown path es)
