-- Containers and their clones have the same models.
use Rattle.std.proofs.Common.{◌≡◌, ℕ, List, [], ◌∷◌, map, String, refl, ap, ap₂}
use Rattle.std.specs.FinMap as finite
use Rattle.std.specs.List.{AllZip}
use Rattle.std.specs.String.{string_bytes}
use Rattle.zk_table.specs.States.{path_cmp}
use Rattle.zk_tree.specs.Views.{set_of, map_of}

-- a text in a set, as the set's key
abbrev key_of : {Y : Type 0} → String Y → List ℕ × Unit {0}
key_of text = (string_bytes text, tt)

texts_alike : {Y : Type 0} (ks ls : List (String Y)) → AllZip (λ k l. string_bytes l ≡ string_bytes k) ks ls → map key_of ls ≡ map key_of ks
texts_alike [] [] h = refl
texts_alike [] (l ∷ ls) h = absurd h
texts_alike (k ∷ ks) [] h = absurd h
texts_alike (k ∷ ks) (l ∷ ls) h = ap₂ (λ (bytes : List ℕ) (rest : List (List ℕ × Unit {0})). (bytes, tt) ∷ rest) h.0 (texts_alike ks ls h.1)

pub set_cloned : {Y : Type 0} (ks ls : List (String Y)) → AllZip (λ k l. string_bytes l ≡ string_bytes k) ks ls → set_of ls ≡ set_of ks
set_cloned ks ls h = ap (finite.from_entries {R = path_cmp}) (texts_alike ks ls h)

-- the entry of a map of texts, by the text's bytes
abbrev entry_of : {X Y : Type 0} → String Y × X → List ℕ × X
entry_of e = (string_bytes e.0, e.1)

entries_alike : {X Y : Type 0} (ds es : List (String Y × X)) → AllZip (λ d e. (string_bytes e.0 ≡ string_bytes d.0) × (e.1 ≡ d.1)) ds es → map entry_of es ≡ map entry_of ds
entries_alike [] [] h = refl
entries_alike [] (e ∷ es) h = absurd h
entries_alike (d ∷ ds) [] h = absurd h
entries_alike (d ∷ ds) (e ∷ es) h = ap₂ (λ entry rest. entry ∷ rest) (ap₂ (λ bytes x. (bytes, x)) h.0.0 h.0.1) (entries_alike ds es h.1)

pub map_cloned : {X Y : Type 0} (ds es : List (String Y × X)) → AllZip (λ d e. (string_bytes e.0 ≡ string_bytes d.0) × (e.1 ≡ d.1)) ds es → map_of es ≡ map_of ds
map_cloned ds es h = ap (finite.from_entries {R = path_cmp}) (entries_alike ds es h)
