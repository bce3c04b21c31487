-- Places that are borrowed and stay as they were.
use Rattle.std.proofs.Common.{◌≡◌, ◌≤◌, ◌∙◌, ℕ, List, length, set, get_or, Vec, sym, ap}
use Rattle.std.proofs.Props.{props}
use Rattle.std.proofs.lemmas.List.{set-get_or, length-set}
use Rattle.std.specs.Vec.{with_item}
use mathlib.Core.HLevel.{is_prop→PathP}

module _ {X Z : Type 0} (v : Vec X Z) (i : ℕ) where
  same_items : (w : X) → set v.items i w ≡ v.items → with_item v i w ≡ v
  same_items w same = λ j. record {
    ptr = v.ptr;
    len = v.len;
    cap = v.cap;
    alloc = v.alloc;
    items = same j;
    ok = is_prop→PathP (λ k. (v.len ≡ length (same k)) × (v.len ≤ v.cap)) (λ k. hlevel props) (v.ok.0 ∙ sym (length-set v.items i w), v.ok.1) v.ok j;
    small = v.small;
  }

  pub kept : (old new : X) → old ≡ get_or v.items i old → new ≡ old → with_item v i new ≡ v
  kept old new was same =
      same_items new (ap (λ (x : X). set v.items i x) (same ∙ was) ∙ set-get_or v.items i old)
