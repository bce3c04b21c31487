-- The words of several directories, one after another.
use Rattle.std.proofs.Common.{◌≡◌, ℕ, ◌+◌, ◌-◌, ◌<◌, ◌≤◌, Bool, true, false, ◌||◌, List, [], ◌∷◌, ◌++◌, length, map, take, drop, get_or, Option, Some, None, is_some, option_map, refl, sym, ap, ◌∙◌, append_assoc, append-nil, arith, Bor}
use Rattle.std.proofs.lemmas.List.{drop-map, drop_all, drop_more, length-drop, length-map, take_all}
use Rattle.std.specs.List.{list_any}
use Rattle.zk_cli_args.specs.Comparisons.{FolderWords, before_values, parted_all, placed, shown_option_words, value_at}
use Rattle.zk_cli_args.specs.Incidents.{parted}
use Rattle.zk_cli_args.proofs.WordsLaws.{texts}

abbrev pub options_of : List (Bor (List ℕ) × Bor (List ℕ)) → List (List ℕ × List ℕ)
options_of options = map shown_option_words options

abbrev pub values_of : List (Option (Bor (List ℕ))) → List (Option (List ℕ))
values_of values = map (option_map (λ (word : Bor (List ℕ)). word.now)) values

-- ---- the values of options

abbrev pub after_values : List (Option (List ℕ)) → List (Option (List ℕ)) × List (List ℕ) → List (Option (List ℕ)) × List (List ℕ)
after_values front rest = (front ++ rest.0, rest.1)

moved : (front : List (Option (List ℕ))) (value : Option (List ℕ)) (rest : List (Option (List ℕ)) × List (List ℕ)) → after_values (front ++ value ∷ []) rest ≡ after_values front (before_values value rest)
moved front value rest = ap (λ (l : List (Option (List ℕ))). (l, rest.1)) (append_assoc front (value ∷ []) rest.0)

pub from_none : (rest : List (Option (List ℕ)) × List (List ℕ)) → after_values [] rest ≡ rest
from_none rest = refl

pub none_left : (front : List (Option (List ℕ))) (words : List (List ℕ)) → after_values front (parted_all [] words) ≡ (front, words)
none_left front words = ap (λ (l : List (Option (List ℕ))). (l, words)) (append-nil front)

-- one option more
pub one_parted : (options : List (Bor (List ℕ) × Bor (List ℕ))) (i : ℕ) (option : Bor (List ℕ) × Bor (List ℕ)) (front : List (Option (List ℕ))) (value : Option (List ℕ)) (words rest : List (List ℕ)) (all : List (Option (List ℕ)) × List (List ℕ))
    → i < length options → option ≡ get_or options i option → (value, rest) ≡ parted option.0.now option.1.now words → after_values front (parted_all (options_of (drop i options)) words) ≡ all
    → after_values (front ++ value ∷ []) (parted_all (options_of (drop (i + 1) options)) rest) ≡ all
one_parted options i option front value words rest all within is p so_far =
    let others = options_of (drop (i + 1) options) in
    let here : options_of (drop i options) ≡ shown_option_words option ∷ others = ap options_of (drop_more options i option within ∙ ap (λ x. x ∷ drop (i + 1) options) (sym is)) in
    let taken : parted_all (shown_option_words option ∷ others) words ≡ before_values value (parted_all others rest) = ap (λ (r : Option (List ℕ) × List (List ℕ)). before_values r.0 (parted_all others r.1)) (sym p) in
    moved front value (parted_all others rest) ∙ ap (after_values front) (sym taken) ∙ ap (λ (l : List (List ℕ × List ℕ)). after_values front (parted_all l words)) (sym here) ∙ so_far

-- ---- an option of a directory that is not there

same_kind : (value : Option (Bor (List ℕ))) → is_some (option_map (λ (word : Bor (List ℕ)). word.now) value) ≡ is_some value
same_kind None = refl
same_kind (Some value) = refl

any_from : (values : List (Option (Bor (List ℕ)))) (i : ℕ) (d : Option (Bor (List ℕ))) → i < length values
    → list_any is_some (values_of (drop i values)) ≡ (is_some (get_or values i d) || list_any is_some (values_of (drop (i + 1) values)))
any_from values i d within =
    ap (λ (l : List (Option (Bor (List ℕ)))). list_any is_some (values_of l)) (drop_more values i d within) ∙ ap (λ (b : Bool). b || list_any is_some (values_of (drop (i + 1) values))) (same_kind (get_or values i d))

pub any_here : (values : List (Option (Bor (List ℕ)))) (i : ℕ) (d : Option (Bor (List ℕ))) (all : Bool) → i < length values → list_any is_some (values_of (drop i values)) ≡ all → true ≡ is_some (get_or values i d) → true ≡ all
any_here values i d all within so_far some = ap (λ (b : Bool). b || list_any is_some (values_of (drop (i + 1) values))) some ∙ sym (any_from values i d within) ∙ so_far

pub any_later : (values : List (Option (Bor (List ℕ)))) (i : ℕ) (d : Option (Bor (List ℕ))) (all : Bool) → i < length values → list_any is_some (values_of (drop i values)) ≡ all → false ≡ is_some (get_or values i d)
    → list_any is_some (values_of (drop (i + 1) values)) ≡ all
any_later values i d all within so_far none = ap (λ (b : Bool). b || list_any is_some (values_of (drop (i + 1) values))) none ∙ sym (any_from values i d within) ∙ so_far

-- those beyond
pub beyond : (values : List (Option (Bor (List ℕ)))) (count : ℕ) → list_any is_some (values_of (drop count values)) ≡ list_any is_some (drop count (values_of values))
beyond values count = ap (list_any is_some) (sym (drop-map (option_map (λ (word : Bor (List ℕ)). word.now)) count values))

pub beyond_in : (values : List (Option (Bor (List ℕ)))) (count : ℕ) → list_any is_some (values_of (take (length values - count) (drop count values))) ≡ list_any is_some (drop count (values_of values))
beyond_in values count = ap (λ (l : List (Option (Bor (List ℕ)))). list_any is_some (values_of l)) (take_all (length values - count) (drop count values) (omega (arith, length-drop count values))) ∙ beyond values count

pub none_beyond : (values : List (Option (Bor (List ℕ)))) (count : ℕ) → length values ≤ count → false ≡ list_any is_some (drop count (values_of values))
none_beyond values count short = ap (list_any is_some) (sym (drop_all count (values_of values) (omega (arith, length-map values (option_map (λ (word : Bor (List ℕ)). word.now)), short))))

-- ---- the directories

pub one_placed : (folders : List FolderWords) (values : List (Bor (List ℕ))) (logs : List (Option (List ℕ))) (i : ℕ) (value : Bor (List ℕ)) (folder : FolderWords) (all : List FolderWords) → i < length values → value ≡ get_or values i value
    → folder ≡ record { folder = value.now; logs = value_at i logs } → folders ++ placed i (texts (drop i values)) logs ≡ all → (folders ++ folder ∷ []) ++ placed (i + 1) (texts (drop (i + 1) values)) logs ≡ all
one_placed folders values logs i value folder all within is e so_far =
    let here : texts (drop i values) ≡ value.now ∷ texts (drop (i + 1) values) = ap texts (drop_more values i value within ∙ ap (λ x. x ∷ drop (i + 1) values) (sym is)) in
    append_assoc folders (folder ∷ []) (placed (i + 1) (texts (drop (i + 1) values)) logs) ∙ ap (λ f. folders ++ f ∷ placed (i + 1) (texts (drop (i + 1) values)) logs) e ∙ ap (λ l. folders ++ placed i l logs) (sym here) ∙ so_far
