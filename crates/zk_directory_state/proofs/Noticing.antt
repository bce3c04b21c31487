-- The line of an epoch whose end is not proved, in two parts.
use Rattle.std.proofs.Common.{◌≡◌, ℕ, ℤ, List, ◌++◌, sym, ap, ◌∙◌, append_assoc}
use Rattle.std.specs.Prelude.{codes}
use Rattle.zk_directory_state.specs.Notices.{joint_line}
use Rattle.zk_format.specs.Spelling.{id_digits}

pub unproved_line : (old middle new : List ℕ) (last next : ℤ) → middle ≡ old ++ (codes "zk: unproved " ++ id_digits last) → new ≡ middle ++ (codes " " ++ id_digits next ++ codes "\n") → new ≡ old ++ joint_line last next
unfolding joint_line
unproved_line old middle new last next first rest =
    let head = codes "zk: unproved " ++ id_digits last in
    let space = codes " " in
    let end_of = codes "\n" in
    rest
    ∙ ap (λ l. l ++ ((space ++ id_digits next) ++ end_of)) first
    ∙ append_assoc old head ((space ++ id_digits next) ++ end_of)
    ∙ ap (λ l. old ++ l) (sym (append_assoc head (space ++ id_digits next) end_of) ∙ ap (λ l. l ++ end_of) (sym (append_assoc head space (id_digits next))))
