-- Lines, one after another.
use Rattle.std.proofs.Common.{◌≡◌, ◌≤◌, ◌<◌, ◌+◌, ℕ, suc, List, [], ◌∷◌, ◌++◌, length, take, get_or, refl, sym, ap, ◌∙◌, subst, append_assoc, append-nil, arith}
use Rattle.std.proofs.Math.Seq.{take-suc}
use Rattle.std.proofs.lemmas.List.{take_all}
use Rattle.zk_comparison.specs.Lines.{AppendsFindings, AreLines, IsFindingText}
use Rattle.zk_comparison.specs.Notices.{AppendsNotices, IsNotice}
use Rattle.zk_comparison.specs.Objects.{AppendsFindings as AppendsObjects, IsFindingLine}
use Rattle.zk_comparison.specs.declared.finding.Directory.{Directory}
use Rattle.zk_comparison.specs.declared.finding.Finding.{Finding}
use Rattle.zk_verification.specs.declared.mark.Mark.{Mark}

-- the lines of elements are appended
abbrev pub Appends : {A : Type 0} → (A → List ℕ → Type 0) → List A → List ℕ → List ℕ → Type 0
Appends is_line xs old new = (text : List ℕ) × AreLines is_line xs text × (new ≡ old ++ text)

-- those of the first elements
abbrev pub AreAppended : {A : Type 0} → (A → List ℕ → Type 0) → List A → ℕ → List ℕ → List ℕ → Type 0
AreAppended is_line xs count old new = Appends is_line (take count xs) old new

lines_more : {A : Type 0} (is_line : A → List ℕ → Type 0) (xs : List A) (x : A) (text line : List ℕ) → AreLines is_line xs text → is_line x line → AreLines is_line (xs ++ x ∷ []) (text ++ line)
lines_more is_line [] x text line e h = subst (λ (t : List ℕ). AreLines is_line (x ∷ []) (t ++ line)) (sym e) (line, [], h, refl, sym (append-nil line))
lines_more is_line (other ∷ xs) x text line e h = (e.0, e.1 ++ line, e.2, lines_more is_line xs x e.1 line e.3 h, ap (λ t. t ++ line) e.4 ∙ append_assoc e.0 e.1 line)

none_appended : {A : Type 0} (is_line : A → List ℕ → Type 0) (xs : List A) (old : List ℕ) → AreAppended is_line xs 0 old old
none_appended is_line xs old = ([], refl, sym (append-nil old))

pub next_appended : {A : Type 0} (is_line : A → List ℕ → Type 0) (xs : List A) (count : ℕ) (x : A) (old now new : List ℕ) → count < length xs → x ≡ get_or xs count x → AreAppended is_line xs count old now → (line : List ℕ) × is_line x line × (new ≡ now ++ line) → AreAppended is_line xs (count + 1) old new
next_appended {A} is_line xs count x old now new lt is so_far h =
    let one : count + 1 ≡ suc count = omega arith in
    let more : take count xs ++ x ∷ [] ≡ take (count + 1) xs = ap (λ (y : A). take count xs ++ y ∷ []) is ∙ sym (take-suc xs count x lt) ∙ ap (λ n. take n xs) (sym one) in
    subst (λ (ys : List A). Appends is_line ys old new) more
    (so_far.0 ++ h.0, lines_more is_line (take count xs) x so_far.0 h.0 so_far.1 h.1, h.2 ∙ ap (λ t. t ++ h.0) so_far.2 ∙ append_assoc old so_far.0 h.0)

all_appended : {A : Type 0} (is_line : A → List ℕ → Type 0) (xs : List A) (count : ℕ) (old new : List ℕ) → length xs ≤ count → AreAppended is_line xs count old new → Appends is_line xs old new
all_appended {A} is_line xs count old new le h = subst (λ (ys : List A). Appends is_line ys old new) (take_all count xs le) h

-- ---- text

pub none_written : (all : List Finding) (old : List ℕ) → AreAppended IsFindingText all 0 old old
none_written all old = none_appended IsFindingText all old

pub all_written : (all : List Finding) (count : ℕ) (old new : List ℕ) → length all ≤ count → AreAppended IsFindingText all count old new → AppendsFindings all old new
all_written all count old new le h = all_appended IsFindingText all count old new le h

-- lines alone
pub text_alone : (all : List Finding) (old text : List ℕ) → old ≡ [] → AppendsFindings all old text → AreLines IsFindingText all text
text_alone all old text none t = subst (AreLines IsFindingText all) (sym (t.2 ∙ ap (λ (o : List ℕ). o ++ t.0) none)) t.1

-- ---- objects

pub no_object : (all : List Finding) (old : List ℕ) → AreAppended IsFindingLine all 0 old old
no_object all old = none_appended IsFindingLine all old

pub all_objects : (all : List Finding) (count : ℕ) (old new : List ℕ) → length all ≤ count → AreAppended IsFindingLine all count old new → AppendsObjects all old new
all_objects all count old new le h = all_appended IsFindingLine all count old new le h

pub objects_alone : (all : List Finding) (old text : List ℕ) → old ≡ [] → AppendsObjects all old text → AreLines IsFindingLine all text
objects_alone all old text none t = subst (AreLines IsFindingLine all) (sym (t.2 ∙ ap (λ (o : List ℕ). o ++ t.0) none)) t.1

-- ---- notices

pub none_noticed : (directory : Directory) (all : List Mark) (old : List ℕ) → AreAppended (IsNotice directory) all 0 old old
none_noticed directory all old = none_appended (IsNotice directory) all old

pub all_noticed : (directory : Directory) (all : List Mark) (count : ℕ) (old new : List ℕ) → length all ≤ count → AreAppended (IsNotice directory) all count old new → AppendsNotices directory all old new
all_noticed directory all count old new le h = all_appended (IsNotice directory) all count old new le h
