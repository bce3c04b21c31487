-- Paths start with a slash.
use Rattle.std.proofs.Common.{◌≡◌, ℕ, zero, suc, true, false, cond, List, [], ◌∷◌, insert, Some, None, is_some, refl, sym, ap}
use Rattle.std.proofs.lemmas.Bool.{false≢true, and_parts, and_from}
use Rattle.zk_path.specs.Paths.{fault_of, is_slash, rest_fault}
use Rattle.zk_path.specs.declared.fault.PathFault.TheVariants as faults
use Rattle.zk_machine.specs.Preimages.{Preimage}
use Rattle.zk_machine.specs.Restoring.{begins_with_slash, all_begin}

pub path_begins : (text : List ℕ) → fault_of text ≡ None → begins_with_slash text ≡ true
path_begins [] e = absurd (false≢true (sym (ap is_some e)))
path_begins (b ∷ rest) e = elim (is_slash b) as (λ s. cond s (rest_fault rest) (Some faults.NotAbsolute) ≡ None → s ≡ true) [
  | true ↦ λ _. refl
  | false ↦ λ e. absurd (false≢true (sym (ap is_some e)))
] e

pub all_begin-insert : (es : List Preimage) (i : ℕ) (e : Preimage) → all_begin es ≡ true → begins_with_slash e.0 ≡ true → all_begin (insert es i e) ≡ true
all_begin-insert es zero e h b = and_from _ _ b h
all_begin-insert [] (suc i) e h b = and_from _ _ b refl
all_begin-insert (x ∷ es) (suc i) e h b = and_from _ _ (and_parts _ _ h).0 (all_begin-insert es i e (and_parts _ _ h).1 b)
