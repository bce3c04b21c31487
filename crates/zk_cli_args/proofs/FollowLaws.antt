-- The words around the one that decides.
use Rattle.std.proofs.Common.{◌≡◌, ℕ, ◌-◌, ◌≤◌, List, ◌++◌, length, take, drop, map, Option, Some, None, option_map, sym, ap, ◌∙◌, arith}
use Rattle.std.proofs.lemmas.List.{drop-map, length-drop, map-append, take-map, take_all}
use Rattle.std.specs.Borrow.{Bor}
use Rattle.std.specs.List.{position_or_len}
use Rattle.zk_cli_args.specs.Follows.{after_follow, follow_at, follow_of, is_mark}

abbrev pub texts : List (Bor (List ℕ)) → List (List ℕ)
texts words = map (λ (word : Bor (List ℕ)). word.now) words

abbrev pub Asked : List (Bor (List ℕ)) → ℕ → Option (List (List ℕ)) → Type 0
Asked words mark rest = rest ≡ after_follow (texts (take (length words - mark) (drop mark words)))

asked_there : (words : List (Bor (List ℕ))) (mark : ℕ) (rest : Option (List (List ℕ))) → Asked words mark rest → rest ≡ after_follow (drop mark (texts words))
asked_there words mark rest asked =
    let whole : take (length words - mark) (drop mark words) ≡ drop mark words = take_all (length words - mark) (drop mark words) (omega (arith, length-drop mark words)) in
    asked ∙ ap (λ l. after_follow (texts l)) whole ∙ ap after_follow (sym (drop-map (λ (word : Bor (List ℕ)). word.now) mark words))

pub found : (words rest others : List (Bor (List ℕ))) (mark : ℕ) → mark ≡ position_or_len is_mark (texts words) → Asked words mark (Some (texts rest)) → others ≡ take mark words ++ rest → Some (texts others) ≡ follow_of (texts words)
found words rest others mark is asked items =
    let front : texts others ≡ take mark (texts words) ++ texts rest = ap texts items ∙ map-append (λ (word : Bor (List ℕ)). word.now) (take mark words) rest ∙ ap (λ (l : List (List ℕ)). l ++ texts rest) (sym (take-map (λ (word : Bor (List ℕ)). word.now) mark words)) in
    ap Some front ∙ ap (option_map (λ l. take mark (texts words) ++ l)) (asked_there words mark (Some (texts rest)) asked) ∙ ap (λ m. follow_at m (texts words)) is

pub not_found : (words : List (Bor (List ℕ))) (mark : ℕ) → mark ≡ position_or_len is_mark (texts words) → Asked words mark None → None ≡ follow_of (texts words)
not_found words mark is asked = ap (option_map (λ l. take mark (texts words) ++ l)) (asked_there words mark None asked) ∙ ap (λ m. follow_at m (texts words)) is
