-- The lines of marks, one after another.
use Rattle.std.proofs.Common.{◌≡◌, ◌≤◌, ◌<◌, ◌+◌, ℕ, ℤ, suc, List, [], ◌∷◌, ◌++◌, length, take, get_or, refl, sym, ap, ◌∙◌, subst, append_assoc, append-nil, arith}
use Rattle.std.proofs.Math.Seq.{take-suc}
use Rattle.std.proofs.lemmas.List.{take_all}
use Rattle.std.specs.List.{flat_map}
use Rattle.zk_json.specs.Times.{AppendsTime, IsTimeText}
use Rattle.zk_verification.specs.Helps.{kinds}
use Rattle.zk_verification.specs.Marks.{wrong_in}
use Rattle.zk_verification.specs.declared.help.Kind.{Kind}
use Rattle.zk_verification.specs.declared.mark.Mark.{Mark}
use Rattle.zk_verification.specs.Reports.{AppendsMark, AppendsMarks, AreMarkTexts, IsMarkText, IsReport, help_text, verdict_text}

marks_more : (all : List Mark) (mark : Mark) (text line : List ℕ) → AreMarkTexts all text → IsMarkText mark line → AreMarkTexts (all ++ mark ∷ []) (text ++ line)
marks_more [] mark text line e h = subst (λ (t : List ℕ). AreMarkTexts (mark ∷ []) (t ++ line)) (sym e) (line, [], h, refl, sym (append-nil line))
marks_more (other ∷ all) mark text line e h = (e.0, e.1 ++ line, e.2, marks_more all mark e.1 line e.3 h, ap (λ t. t ++ line) e.4 ∙ append_assoc e.0 e.1 line)

-- the first marks were appended
abbrev pub AreMarked : List Mark → ℕ → List ℕ → List ℕ → Type 0
AreMarked all count old new = AppendsMarks (take count all) old new

pub none_marked : (all : List Mark) (old : List ℕ) → AreMarked all 0 old old
none_marked all old = ([], refl, sym (append-nil old))

pub next_marked : (all : List Mark) (count : ℕ) (mark : Mark) (old now new : List ℕ) → count < length all → mark ≡ get_or all count mark → AreMarked all count old now → AppendsMark mark now new → AreMarked all (count + 1) old new
next_marked all count mark old now new lt is so_far h =
    let one : count + 1 ≡ suc count = omega arith in
    let more : take count all ++ mark ∷ [] ≡ take (count + 1) all = ap (λ (m : Mark). take count all ++ m ∷ []) is ∙ sym (take-suc all count mark lt) ∙ ap (λ n. take n all) (sym one) in
    subst (λ (ms : List Mark). AppendsMarks ms old new) more
    (so_far.0 ++ h.0, marks_more (take count all) mark so_far.0 h.0 so_far.1 h.1, h.2 ∙ ap (λ t. t ++ h.0) so_far.2 ∙ append_assoc old so_far.0 h.0)

pub all_marked : (all : List Mark) (count : ℕ) (old new : List ℕ) → length all ≤ count → AreMarked all count old new → AppendsMarks all old new
all_marked all count old new le h = subst (λ (ms : List Mark). AppendsMarks ms old new) (take_all count all le) h

-- a time alone
pub clock : (time : ℤ) (old text : List ℕ) → old ≡ [] → AppendsTime old time text → IsTimeText time text
clock time old text none t = subst (IsTimeText time) (sym (t.2 ∙ ap (λ (o : List ℕ). o ++ t.0) none)) t.1

-- the report
pub reported : (all : List Mark) (some : List Kind) (wrong : ℕ) (start marks_end helps_end text : List ℕ) → start ≡ [] → some ≡ kinds → wrong ≡ wrong_in all
    → AppendsMarks all start marks_end → helps_end ≡ marks_end ++ flat_map (help_text all) some → text ≡ helps_end ++ verdict_text wrong → IsReport all text
reported all some wrong start marks_end helps_end text none are is m h v =
    let first : marks_end ≡ m.0 = m.2 ∙ ap (λ l. l ++ m.0) none in
    let second : helps_end ≡ m.0 ++ flat_map (help_text all) kinds = h ∙ ap (λ l. l ++ flat_map (help_text all) some) first ∙ ap (λ (ks : List Kind). m.0 ++ flat_map (help_text all) ks) are in
    record {
      marked = m.0;
      are_marks = m.1;
      is = v ∙ ap (λ l. l ++ verdict_text wrong) second ∙ ap (λ n. (m.0 ++ flat_map (help_text all) kinds) ++ verdict_text n) is;
    }
