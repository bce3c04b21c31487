-- The first of some snapshots that is whole.
use Rattle.std.proofs.Common.{◌≡◌, ◌-◌, ◌≤◌, ℕ, ℤ, pos, List, [], ◌∷◌, length, drop, take, get_or, Option, None, inr, arith, subst}
use Rattle.std.proofs.lemmas.List.{take_all}
use Rattle.zk_session_commands.specs.FirstKnown.{Knows, KnowsFirst}
use Rattle.zk_sessions.specs.declared.known.Known.{Known}

-- a broken one is passed over
pub passed_over : (bytes_in : List ℕ → Option (List ℕ)) (first : ℤ) (held rest : List ℤ) (zxid : ℤ) → 1 ≤ length rest → zxid ≡ get_or rest 0 (pos 0) → Knows bytes_in first zxid None → ((known : Known) → KnowsFirst bytes_in first rest known → KnowsFirst bytes_in first held known)
    → (known : Known) → KnowsFirst bytes_in first (take (length rest - 1) (drop 1 rest)) known → KnowsFirst bytes_in first held known
passed_over bytes_in first held [] zxid some is none so_far known h = absurd (omega (arith, some))
passed_over bytes_in first held (next ∷ rest) zxid some is none so_far known h =
    let all : take (length (next ∷ rest) - 1) rest ≡ rest = take_all (length (next ∷ rest) - 1) rest (omega arith) in
    so_far known (inr (subst (λ (z : ℤ). Knows bytes_in first z None) is none, subst (λ (l : List ℤ). KnowsFirst bytes_in first l known) all h))
