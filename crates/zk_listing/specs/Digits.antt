-- The bytes that lower-case hexadecimal digits encode. RFC 4648, section 8, with lower-case letters.
use Rattle.std.specs.Prelude.{◌≡◌, ◌⊎◌, ℕ, true, List, Option, Some, None, Result, Ok, Err, if◌then◌else◌}
use Rattle.std.specs.Char.{is_ascii_uppercase}
use Rattle.std.specs.List.{list_any}
use Rattle.hex.specs.Hex.{decode_of, hex_digit_value}
use Rattle.hex.specs.declared.error.FromHexError.{FromHexError}

abbrev pub bytes_in : Result (List ℕ) FromHexError → Option (List ℕ)
bytes_in (Ok bytes) = Some bytes
bytes_in (Err fault) = None

-- `hex` reads capitals, too
abbrev pub bytes_of : List ℕ → Option (List ℕ)
bytes_of digits = if list_any is_ascii_uppercase digits then None else bytes_in (decode_of digits)

-- no digit, or a capital
abbrev pub IsBad : ℕ → Type 0
IsBad byte = (hex_digit_value byte ≡ None) ⊎ (is_ascii_uppercase byte ≡ true)
