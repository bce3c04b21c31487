-- The values of words, word by word.
use Rattle.std.proofs.Common.{◌≡◌, ℕ, ◌+◌, ◌<◌, Bool, true, false, List, [], ◌∷◌, ◌++◌, length, map, drop, get_or, Option, Some, None, refl, sym, ap, ◌∙◌, append_assoc, append-nil, Bor, codes}
use Rattle.std.proofs.lemmas.List.{drop_more, map-append}
use Rattle.std.specs.Str.{bytes_eq}
use Rattle.zk_cli_args.specs.Commands.{is_option, values_of, with_value}

abbrev pub texts : List (Bor (List ℕ)) → List (List ℕ)
texts words = map (λ word. word.now) words

-- after a "--" every word is a value
abbrev pub values_from : Bool → List (List ℕ) → Option (List (List ℕ))
values_from true words = Some words
values_from false words = values_of words

abbrev pub with_values : List (List ℕ) → Option (List (List ℕ)) → Option (List (List ℕ))
with_values front None = None
with_values front (Some values) = Some (front ++ values)

abbrev pub no_word : Bor (List ℕ)
no_word = record { ref_ptr = (0, 0); now = [] }

-- the next word
pub at_turn : (words : List (Bor (List ℕ))) (i : ℕ) → i < length words → texts (drop i words) ≡ (get_or words i no_word).now ∷ texts (drop (i + 1) words)
at_turn words i within = ap texts (drop_more words i no_word within)

pub one_more : (values : List (Bor (List ℕ))) (word : Bor (List ℕ)) → texts (values ++ word ∷ []) ≡ texts values ++ word.now ∷ []
one_more values word = map-append (λ (w : Bor (List ℕ)). w.now) values (word ∷ [])

value_first : (front : List (List ℕ)) (word : List ℕ) (found : Option (List (List ℕ))) → with_values front (with_value word found) ≡ with_values (front ++ word ∷ []) found
value_first front word None = refl
value_first front word (Some values) = ap Some (sym (append_assoc front (word ∷ []) values))

starts : (found : Option (List (List ℕ))) → with_values [] found ≡ found
starts None = refl
starts (Some values) = refl

-- ---- consuming a word

module _ (values values' : List (Bor (List ℕ))) (word : Bor (List ℕ)) (rest : List (List ℕ)) (ended ended' : Bool) (all : Option (List (List ℕ)))
    (so_far : with_values (texts values) (values_from ended (word.now ∷ rest)) ≡ all) where
  -- a word after the "--"
  pub takes_any : ended ≡ true → ended' ≡ true → values' ≡ values ++ word ∷ [] → with_values (texts values') (values_from ended' rest) ≡ all
  takes_any e e' v =
      let before : with_values (texts values) (Some (word.now ∷ rest)) ≡ all = rw e at so_far in
      rw (v, e') (ap (λ l. with_values l (Some rest)) (one_more values word) ∙ sym (value_first (texts values) word.now (Some rest)) ∙ before)

  -- the "--"
  pub ends_options : ended ≡ false → ended' ≡ true → values' ≡ values → true ≡ bytes_eq word.now (codes "--") → with_values (texts values') (values_from ended' rest) ≡ all
  ends_options e e' v is =
      let before : with_values (texts values) (values_of (word.now ∷ rest)) ≡ all = rw e at so_far in
      let dashes : with_values (texts values) (Some rest) ≡ all = rw (← is) at before in
      rw (v, e') dashes

  -- a value before it
  pub takes_value : ended ≡ false → ended' ≡ false → values' ≡ values ++ word ∷ [] → false ≡ bytes_eq word.now (codes "--") → false ≡ is_option word.now
      → with_values (texts values') (values_from ended' rest) ≡ all
  takes_value e e' v other value =
      let before : with_values (texts values) (values_of (word.now ∷ rest)) ≡ all = rw e at so_far in
      let after : with_values (texts values) (with_value word.now (values_of rest)) ≡ all = rw (← other, ← value) at before in
      rw (v, e') (ap (λ l. with_values l (values_of rest)) (one_more values word) ∙ sym (value_first (texts values) word.now (values_of rest)) ∙ after)

  -- an option before it
  pub takes_none : ended ≡ false → false ≡ bytes_eq word.now (codes "--") → true ≡ is_option word.now → None ≡ all
  takes_none e other option =
      let before : with_values (texts values) (values_of (word.now ∷ rest)) ≡ all = rw e at so_far in
      rw (← other, ← option) at before

-- all words were consumed
pub takes_all : (values : List (List ℕ)) (ended : Bool) → with_values values (values_from ended []) ≡ Some values
takes_all values true = ap Some (append-nil values)
takes_all values false = ap Some (append-nil values)

pub from_start : (words : List (List ℕ)) → with_values [] (values_from false words) ≡ values_of words
from_start words = starts (values_of words)
