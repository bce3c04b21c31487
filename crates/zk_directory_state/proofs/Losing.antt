-- The lines of losses, one after another.
use Rattle.std.proofs.Common.{◌≡◌, ◌≤◌, ◌<◌, ◌+◌, ℕ, suc, List, [], ◌∷◌, ◌++◌, length, take, get_or, refl, sym, ap, ◌∙◌, subst, append_assoc, append-nil, arith}
use Rattle.std.proofs.Math.Seq.{take-suc}
use Rattle.std.proofs.lemmas.List.{take_all}
use Rattle.zk_directory_state.specs.Losses.{AppendsLoss, AppendsLosses, AreLossLines, IsLossLine, IsTimeBy, loss_line}
use Rattle.zk_directory_state.specs.declared.walk.Loss.{Loss}

lines_more : (losses : List Loss) (loss : Loss) (text line : List ℕ) → AreLossLines losses text → IsLossLine loss line → AreLossLines (losses ++ loss ∷ []) (text ++ line)
lines_more [] loss text line e h = subst (λ (t : List ℕ). AreLossLines (loss ∷ []) (t ++ line)) (sym e) (line, [], h, refl, sym (append-nil line))
lines_more (other ∷ losses) loss text line e h = (e.0, e.1 ++ line, e.2, lines_more losses loss e.1 line e.3 h, ap (λ t. t ++ line) e.4 ∙ append_assoc e.0 e.1 line)

-- the first losses were appended
abbrev pub AreLost : List Loss → ℕ → List ℕ → List ℕ → Type 0
AreLost losses count old new = AppendsLosses (take count losses) old new

pub none_lost : (losses : List Loss) (old : List ℕ) → AreLost losses 0 old old
none_lost losses old = ([], refl, sym (append-nil old))

pub next_lost : (losses : List Loss) (count : ℕ) (loss : Loss) (old now new : List ℕ) → count < length losses → loss ≡ get_or losses count loss → AreLost losses count old now → AppendsLoss loss now new → AreLost losses (count + 1) old new
next_lost losses count loss old now new lt is so_far h =
    let one : count + 1 ≡ suc count = omega arith in
    let more : take count losses ++ loss ∷ [] ≡ take (count + 1) losses = ap (λ (l : Loss). take count losses ++ l ∷ []) is ∙ sym (take-suc losses count loss lt) ∙ ap (λ n. take n losses) (sym one) in
    subst (λ (ls : List Loss). AppendsLosses ls old new) more
    (so_far.0 ++ h.0, lines_more (take count losses) loss so_far.0 h.0 so_far.1 h.1, h.2 ∙ ap (λ t. t ++ h.0) so_far.2 ∙ append_assoc old so_far.0 h.0)

pub all_lost : (losses : List Loss) (count : ℕ) (old new : List ℕ) → length losses ≤ count → AreLost losses count old new → AppendsLosses losses old new
all_lost losses count old new le h = subst (λ (ls : List Loss). AppendsLosses ls old new) (take_all count losses le) h

pub as_loss : (loss : Loss) (old new before before' after after' : List ℕ) → IsTimeBy loss.before before → IsTimeBy loss.after after → before' ≡ before → after' ≡ after → new ≡ old ++ loss_line loss before' after' → AppendsLoss loss old new
as_loss loss old new before before' after after' b a same_before same_after is = (loss_line loss before' after', (before', after', subst (IsTimeBy loss.before) (sym same_before) b, subst (IsTimeBy loss.after) (sym same_after) a, refl), is)
