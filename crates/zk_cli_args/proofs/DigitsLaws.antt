-- Sixteen digits, and their 64 bits.
use Rattle.std.proofs.Common.{◌≡◌, ℕ, zero, suc, ◌<◌, ◌^◌, List, Ok, Err, get_or, refl, ap, ◌∙◌, arith}
use Rattle.std.proofs.lemmas.Nat.{from_be_bytes-to_be_bytes_8}
use Rattle.std.specs.Int.{w64, to_be_bytes, from_be_bytes, bytes_high_first}
use Rattle.hex.proofs.HexLemmas.{decode_sized-encode_lower}
use Rattle.hex.specs.Hex.{decode_sized}
use Rattle.hex.specs.declared.error.FromHexError.{FromHexError}
use Rattle.zk_format.specs.Spelling.{sixteen_digits}

pub bytes_fit : (k n i : ℕ) → get_or (bytes_high_first k n) i 0 < 256
bytes_fit zero n i = omega arith
bytes_fit (suc zero) n zero = omega arith
bytes_fit (suc (suc k)) n zero = omega arith
bytes_fit (suc k) n (suc i) = bytes_fit k n i

-- the digits of some bits are read as their bytes
pub digits_read : (word : List ℕ) (n : ℕ) → word ≡ sixteen_digits n → decode_sized word 8 ≡ Ok (to_be_bytes w64 n)
unfolding sixteen_digits
digits_read word n e = ap (λ w. decode_sized w 8) e ∙ decode_sized-encode_lower (to_be_bytes w64 n) 8 refl (bytes_fit 8 n)

-- the bits read from the digits of some bits are these bits
pub same_bits : (word bytes : List ℕ) (n : ℕ) → n < 2 ^ 64 → decode_sized word 8 ≡ Ok bytes → word ≡ sixteen_digits n → from_be_bytes w64 bytes ≡ n
same_bits word bytes n fits read e =
    let read' : decode_sized word 8 ≡ Ok (to_be_bytes w64 n) = digits_read word n e in
    let same : bytes ≡ to_be_bytes w64 n = cc in
    ap (from_be_bytes w64) same ∙ from_be_bytes-to_be_bytes_8 n fits

-- digits are read
pub digits_are_read : (word : List ℕ) (fault : FromHexError) (n : ℕ) → decode_sized word 8 ≡ Err fault → word ≡ sixteen_digits n → ⊥
digits_are_read word fault n refused e =
    let read : decode_sized word 8 ≡ Ok (to_be_bytes w64 n) = digits_read word n e in
    cc
