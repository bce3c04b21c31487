-- CRC-32: RFC 1952, section 8, after ISO 3309. Bits enter a 32-bit register, each byte's lowest bit
-- first.
use Rattle.std.specs.Prelude.{ℕ, zero, suc, ◌/◌, ◌%◌, List, [], ◌∷◌, bit_xor, nat_eq, if◌then◌else◌}

-- the polynomial without its highest term, the coefficient of x^31 in the lowest bit
abbrev pub polynomial : ℕ
polynomial = 0xEDB88320

-- the register shifted by one bit: if a 1 leaves it, the polynomial is added
unfoldable pub moved : ℕ → ℕ
moved register = if nat_eq (register % 2) 1 then bit_xor polynomial (register / 2) else register / 2

-- the register shifted by n bits, without input
abbrev pub moved_by : ℕ → ℕ → ℕ
moved_by zero register = register
moved_by (suc count) register = moved_by count (moved register)

-- the register after one more bit
abbrev pub after_bit : ℕ → ℕ → ℕ
after_bit register bit = moved (bit_xor register bit)

-- the register after n bits of a number, the lowest first
abbrev pub after_bits : ℕ → ℕ → ℕ → ℕ
after_bits zero register number = register
after_bits (suc count) register number = after_bits count (after_bit register (number % 2)) (number / 2)

unfoldable pub after_byte : ℕ → ℕ → ℕ
after_byte register byte = after_bits 8 register byte

unfoldable pub after_bytes : ℕ → List ℕ → ℕ
after_bytes register [] = register
after_bytes register (byte ∷ bytes) = after_bytes (after_byte register byte) bytes

-- the register starts with 32 ones, and its complement is the checksum
abbrev pub crc_of : List ℕ → ℕ
crc_of bytes = bit_xor (after_bytes 0xFFFFFFFF bytes) 0xFFFFFFFF
