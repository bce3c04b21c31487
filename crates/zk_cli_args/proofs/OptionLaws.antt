-- An option that takes a value, word by word.
use Rattle.std.proofs.Common.{◌≡◌, ◌≢◌, Bool, true, false, ℕ, ◌≤◌, ◌+◌, List, [], ◌∷◌, ◌++◌, ◌-◌, Bor, get_or, take, drop, length, Option, Some, None, MatchOption, option_map, if◌then◌else◌, refl, sym, ap, ◌∙◌, codes, arith, append_assoc}
use Rattle.std.proofs.lemmas.List.{take_all, take-append-drop, take-append-le}
use Rattle.std.proofs.lemmas.Slice.Eq.{bytes_eq-Decides}
use Rattle.std.specs.Str.{bytes_eq}
use Rattle.zk_cli_args.specs.Options.{ValueBeside, after, behind, flag_in, option_in, value_behind, value_in}
use Rattle.zk_cli_args.proofs.WordsLaws.{no_word, one_more, texts}

further : (front : List (List ℕ)) (word : List ℕ) (found : Option ValueBeside) → behind (front ++ word ∷ []) found ≡ behind front (behind (word ∷ []) found)
further front word None = refl
further front word (Some found) = ap (λ (l : List (List ℕ)). Some (found.0, l)) (append_assoc front (word ∷ []) found.1)

pub from_start : (found : Option ValueBeside) → behind [] found ≡ found
from_start None = refl
from_start (Some found) = refl

module _ (name prefix : List ℕ) (front : List (List ℕ)) (word : List ℕ) (back : List (List ℕ)) (all : Option ValueBeside) (so_far : behind front (option_in name prefix (word ∷ back)) ≡ all) where
  -- the "--"
  pub ends : true ≡ bytes_eq word (codes "--") → None ≡ all
  ends e = rw (← e) at so_far

  -- the option
  pub takes_behind : false ≡ bytes_eq word (codes "--") → true ≡ bytes_eq word name → behind front (value_behind back) ≡ all
  takes_behind e f = rw (← e, ← f) at so_far

  -- the option with its value
  pub takes : (value : List ℕ) → false ≡ bytes_eq word (codes "--") → false ≡ bytes_eq word name → value_in prefix word ≡ Some value → Some (value, front ++ back) ≡ all
  takes value e f g = rw (← e, ← f, g) at so_far

  -- any other word
  pub goes_on : false ≡ bytes_eq word (codes "--") → false ≡ bytes_eq word name → value_in prefix word ≡ None → behind (front ++ word ∷ []) (option_in name prefix back) ≡ all
  goes_on e f g =
      let before : behind front (behind (word ∷ []) (option_in name prefix back)) ≡ all = rw (← e, ← f, g) at so_far in
      further front word (option_in name prefix back) ∙ before

-- a word is prepended
pub one_on : (name prefix : List ℕ) (front front' words : List (Bor (List ℕ))) (all : Option ValueBeside) → 1 ≤ length words → front' ≡ front ++ get_or words 0 no_word ∷ []
    → false ≡ bytes_eq (get_or words 0 no_word).now (codes "--") → false ≡ bytes_eq (get_or words 0 no_word).now name → value_in prefix (get_or words 0 no_word).now ≡ None
    → behind (texts front) (option_in name prefix (texts words)) ≡ all → behind (texts front') (option_in name prefix (texts (take (length words - 1) (drop 1 words)))) ≡ all
one_on name prefix front front' [] all some items e f g so_far = absurd (omega (arith, some))
one_on name prefix front front' (word ∷ words) all some items e f g so_far =
    let rest : take (length (word ∷ words) - 1) words ≡ words = take_all (length (word ∷ words) - 1) words (omega arith) in
    let texts_in_front : texts front' ≡ texts front ++ word.now ∷ [] = ap texts items ∙ one_more front word in
    rw (texts_in_front, rest) (goes_on name prefix (texts front) word.now (texts words) all so_far e f g)

-- ---- a flag

further_after : (front : List (List ℕ)) (word : List ℕ) (found : Option (List (List ℕ))) → after (front ++ word ∷ []) found ≡ after front (after (word ∷ []) found)
further_after front word None = refl
further_after front word (Some others) = ap Some (append_assoc front (word ∷ []) others)

pub after_none : (found : Option (List (List ℕ))) → after [] found ≡ found
after_none None = refl
after_none (Some others) = refl

module _ (flag : List ℕ) (front : List (List ℕ)) (word : List ℕ) (back : List (List ℕ)) (all : Option (List (List ℕ))) (so_far : after front (flag_in flag (word ∷ back)) ≡ all) where
  -- the "--"
  pub flag_ends : true ≡ bytes_eq word (codes "--") → None ≡ all
  flag_ends e = rw (← e) at so_far

  -- the flag
  pub takes_flag : false ≡ bytes_eq word (codes "--") → true ≡ bytes_eq word flag → Some (front ++ back) ≡ all
  takes_flag e f = rw (← e, ← f) at so_far

  -- any other word
  pub passes : false ≡ bytes_eq word (codes "--") → false ≡ bytes_eq word flag → after (front ++ word ∷ []) (flag_in flag back) ≡ all
  passes e f =
      let before : after front (after (word ∷ []) (flag_in flag back)) ≡ all = rw (← e, ← f) at so_far in
      further_after front word (flag_in flag back) ∙ before

-- a word is prepended
pub one_passed : (flag : List ℕ) (front front' words : List (Bor (List ℕ))) (all : Option (List (List ℕ))) → 1 ≤ length words → front' ≡ front ++ get_or words 0 no_word ∷ []
    → false ≡ bytes_eq (get_or words 0 no_word).now (codes "--") → false ≡ bytes_eq (get_or words 0 no_word).now flag
    → after (texts front) (flag_in flag (texts words)) ≡ all → after (texts front') (flag_in flag (texts (take (length words - 1) (drop 1 words)))) ≡ all
one_passed flag front front' [] all some items e f so_far = absurd (omega (arith, some))
one_passed flag front front' (word ∷ words) all some items e f so_far =
    let rest : take (length (word ∷ words) - 1) words ≡ words = take_all (length (word ∷ words) - 1) words (omega arith) in
    let texts_in_front : texts front' ≡ texts front ++ word.now ∷ [] = ap texts items ∙ one_more front word in
    rw (texts_in_front, rest) (passes flag (texts front) word.now (texts words) all so_far e f)

-- ---- the value in one word

no_prefix : (prefix word : List ℕ) (test : Bool) → bytes_eq (take (length prefix) word) prefix ≡ test → ((rest : List ℕ) → word ≢ prefix ++ rest) → None ≡ (if test then Some (drop (length prefix) word) else None)
no_prefix prefix word false e none = refl
no_prefix prefix word true e none =
    let begins : take (length prefix) word ≡ prefix = (bytes_eq-Decides (take (length prefix) word) prefix).0 e in
    let whole : word ≡ prefix ++ drop (length prefix) word = sym (take-append-drop (length prefix) word) ∙ ap (λ (l : List ℕ). l ++ drop (length prefix) word) begins in
    absurd (none (drop (length prefix) word) whole)

begins_with : (prefix word : List ℕ) (n : ℕ) → n ≡ length prefix → word ≡ prefix ++ drop n word → take (length prefix) word ≡ prefix
begins_with prefix word n e whole =
    ap (take (length prefix)) whole ∙ take-append-le (length prefix) prefix (drop n word) (omega arith) ∙ take_all (length prefix) prefix (omega arith)

pub stripped : (B : Type 0) (prefix word : List ℕ) (found : Option (Bor (List ℕ)))
    → MatchOption found ((rest : List ℕ) → word ≢ prefix ++ rest) (λ x. (n : ℕ) × ((n ≡ length prefix) × (word ≡ prefix ++ drop n word) × B) × (x.now ≡ drop n word) × (length x.now + n ≡ length word))
    → option_map (λ (value : Bor (List ℕ)). value.now) found ≡ value_in prefix word
stripped B prefix word None none = no_prefix prefix word (bytes_eq (take (length prefix) word) prefix) refl none
stripped B prefix word (Some x) m =
    let same : bytes_eq (take (length prefix) word) prefix ≡ true = (bytes_eq-Decides (take (length prefix) word) prefix).1 (begins_with prefix word m.0 m.1.0 m.1.1) in
    let rest : x.now ≡ drop (length prefix) word = m.2 ∙ ap (λ (n : ℕ). drop n word) m.1.0 in
    rw same (ap Some rest)
