-- A reply of the expected kind is its text and a newline; any other is `err server`.
use Rattle.std.proofs.Common.{◌≡◌, ℕ, List, [], ◌∷◌, ◌++◌, Bool, true, false, Option, Some, None, ap, append_assoc, append-nil, codes}
use Rattle.std.specs.Option.{is_some}
use Rattle.zk_line_protocol.specs.Answers.{answer_line}
use Rattle.zk_line_protocol.specs.Appending.{or_nothing}

pub fitting : (answer : Option (List ℕ)) (page : List ℕ) → true ≡ is_some answer → (page ++ or_nothing answer) ++ 10 ∷ [] ≡ page ++ answer_line answer
fitting None page fits = cc
fitting (Some text) page fits = append_assoc page text (10 ∷ [])

pub unfitting : (answer : Option (List ℕ)) (page : List ℕ) → false ≡ is_some answer → (page ++ or_nothing answer) ++ codes "err server\n" ≡ page ++ answer_line answer
unfitting None page fits = ap (λ (l : List ℕ). l ++ codes "err server\n") (append-nil page)
unfitting (Some text) page fits = cc
