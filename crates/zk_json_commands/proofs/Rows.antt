-- The digits of a session, and the lines of rows.
use Rattle.std.proofs.Common.{◌≡◌, ◌≤◌, ◌<◌, ◌+◌, ◌==◌, ℕ, suc, Bool, true, false, List, [], ◌∷◌, ◌++◌, length, map, take, get_or, Some, None, refl, sym, ap, ◌∙◌, subst, append_assoc, append-nil, arith}
use Rattle.std.proofs.Math.Seq.{take-suc}
use Rattle.std.proofs.lemmas.List.{take_all}
use Rattle.std.proofs.lemmas.Bool.{eqb-true}
use Rattle.std.specs.Borrow.{Bor}
use Rattle.zk_incidents.specs.declared.top_fold.Key.{Key}
use Rattle.zk_json_commands.specs.Lines.{AppendsLines, AreLines}
use Rattle.zk_json_commands.specs.Tops.{AppendsRow, IsLine, after_zero, without_zeros}
use Rattle.zk_json_commands.proofs.Written.{lines_mapped, lines_more}

-- ---- digits

zero_or : (digit : ℕ) (digits rest : List ℕ) (b : Bool) → (digit == 48) ≡ b → after_zero (digit ∷ digits) ≡ Some rest → (digit == 48) ≡ true
zero_or digit digits rest true e h = e
zero_or digit digits rest false e h = absurd (let no : None ≡ Some rest = rw e at h in cc)

tail_of : (digit : ℕ) (digits rest : List ℕ) → (digit == 48) ≡ true → after_zero (digit ∷ digits) ≡ Some rest → digits ≡ rest
tail_of digit digits rest e h = let same : Some digits ≡ Some rest = rw e at h in cc

pub one_zero : (digits rest : List ℕ) → after_zero digits ≡ Some rest → (length rest == 0) ≡ false → without_zeros digits ≡ without_zeros rest
one_zero [] rest h some = cc
one_zero (digit ∷ []) rest h some =
    let e = zero_or digit [] rest (digit == 48) refl h in
    let is = tail_of digit [] rest e h in absurd (let bad : (length rest == 0) ≡ true = ap (λ (l : List ℕ). length l == 0) (sym is) in cc)
one_zero (digit ∷ next ∷ digits) rest h some =
    let e = zero_or digit (next ∷ digits) rest (digit == 48) refl h in
    let is = tail_of digit (next ∷ digits) rest e h in rw e (ap without_zeros is)

pub last_zero : (digits rest : List ℕ) → after_zero digits ≡ Some rest → (length rest == 0) ≡ true → digits ≡ without_zeros digits
last_zero [] rest h none = refl
last_zero (digit ∷ []) rest h none = refl
last_zero (digit ∷ next ∷ digits) rest h none =
    let e = zero_or digit (next ∷ digits) rest (digit == 48) refl h in
    let is = tail_of digit (next ∷ digits) rest e h in absurd (let bad : suc (length digits) ≡ 0 = ap length is ∙ eqb-true (length rest) 0 none in omega arith)

other_digit : (digit next : ℕ) (digits : List ℕ) (b : Bool) → (digit == 48) ≡ b → after_zero (digit ∷ next ∷ digits) ≡ None → digit ∷ next ∷ digits ≡ without_zeros (digit ∷ next ∷ digits)
other_digit digit next digits true e h = absurd (let no : Some (next ∷ digits) ≡ None = rw e at h in cc)
other_digit digit next digits false e h = rw e refl

pub no_zero : (digits : List ℕ) → after_zero digits ≡ None → digits ≡ without_zeros digits
no_zero [] h = refl
no_zero (digit ∷ []) h = refl
no_zero (digit ∷ next ∷ digits) h = other_digit digit next digits (digit == 48) refl h

-- ---- lines

abbrev pub shown_row : Bor (List ℕ) × ℕ → List ℕ × ℕ
shown_row row = (row.0.now, row.1)

-- the lines of the first rows were appended
abbrev pub AreRowsWritten : Key → List (Bor (List ℕ) × ℕ) → ℕ → List ℕ → List ℕ → Type 0
AreRowsWritten key rows count old new = AppendsLines (λ row. IsLine key (shown_row row)) (take count rows) old new

pub none_row : (key : Key) (rows : List (Bor (List ℕ) × ℕ)) (old : List ℕ) → AreRowsWritten key rows 0 old old
none_row key rows old = ([], refl, sym (append-nil old))

pub next_row : (key : Key) (rows : List (Bor (List ℕ) × ℕ)) (count : ℕ) (other : Bor (List ℕ) × ℕ) (old now new : List ℕ) → count < length rows → AreRowsWritten key rows count old now → AppendsRow key (shown_row (get_or rows count other)) now new → AreRowsWritten key rows (count + 1) old new
next_row key rows count other old now new lt so_far h =
    let one : count + 1 ≡ suc count = omega arith in
    let row = get_or rows count other in
    let more : take count rows ++ row ∷ [] ≡ take (count + 1) rows = sym (take-suc rows count other lt) ∙ ap (λ n. take n rows) (sym one) in
    subst (λ (rs : List (Bor (List ℕ) × ℕ)). AppendsLines (λ r. IsLine key (shown_row r)) rs old new) more
    (so_far.0 ++ h.0, lines_more (λ r. IsLine key (shown_row r)) (take count rows) row so_far.0 h.0 so_far.1 h.1, h.2 ∙ ap (λ t. t ++ h.0) so_far.2 ∙ append_assoc old so_far.0 h.0)

pub all_rows : (key : Key) (rows : List (Bor (List ℕ) × ℕ)) (count : ℕ) (old new : List ℕ) → length rows ≤ count → old ≡ [] → AreRowsWritten key rows count old new → AreLines (IsLine key) (map shown_row rows) new
all_rows key rows count old new le none h =
    let lines = subst (λ (rs : List (Bor (List ℕ) × ℕ)). AreLines (λ r. IsLine key (shown_row r)) rs h.0) (take_all count rows le) h.1 in
    subst (λ (t : List ℕ). AreLines (IsLine key) (map shown_row rows) t) (sym (h.2 ∙ ap (λ t. t ++ h.0) none)) (lines_mapped shown_row (IsLine key) rows h.0 lines)
