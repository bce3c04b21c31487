-- The numbers in names of sequential nodes: ZooKeeper Programmer's Guide, "Sequence Nodes". The
-- counter is a signed 32-bit number that wraps, so it can be negative.
use Rattle.std.specs.Prelude.{ℕ, ℤ, pos, negsuc, ◌+◌, ◌-◌, List, [], ◌∷◌, ◌++◌, length, replicate, nat_abs}
use Rattle.std.specs.Fmt.{decimal}

abbrev pub sign_of : ℤ → List ℕ
sign_of (pos n) = []
sign_of (negsuc n) = 45 ∷ []

-- at least ten characters: the sign, zeros, and the digits
abbrev pub sequence : ℤ → List ℕ
sequence number =
    sign_of number ++ replicate (10 - (length (sign_of number) + length (decimal (nat_abs number)))) 48 ++ decimal (nat_abs number)
