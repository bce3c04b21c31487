-- Words that do not end with Z.
use Rattle.std.proofs.Common.{◌≡◌, ◌≢◌, ◌-◌, Bool, true, false, ℕ, List, ◌++◌, length, take, drop, refl, sym, ap, ◌∙◌, codes, if◌then◌else◌}
use Rattle.std.proofs.lemmas.List.{take-append-drop}
use Rattle.std.proofs.lemmas.Slice.Eq.{bytes_eq-Decides}
use Rattle.zk_cli_args.specs.Moments.{ends_with_zulu, without_zulu}

by_end : (word : List ℕ) (test : Bool) → ends_with_zulu word ≡ test → ((front : List ℕ) → word ≢ front ++ codes "Z") → word ≡ (if test then take (length word - 1) word else word)
by_end word false e none = refl
by_end word true e none =
    let last : drop (length word - 1) word ≡ codes "Z" = (bytes_eq-Decides (drop (length word - 1) word) (codes "Z")).0 e in
    let split : word ≡ take (length word - 1) word ++ codes "Z" = sym (take-append-drop (length word - 1) word) ∙ ap (λ (end : List ℕ). take (length word - 1) word ++ end) last in
    absurd (none (take (length word - 1) word) split)

pub whole : (word : List ℕ) → ((front : List ℕ) → word ≢ front ++ codes "Z") → word ≡ without_zulu word
whole word none = by_end word (ends_with_zulu word) refl none
