-- The password of a session: the first 16 bytes of the SHA-1 (FIPS 180-4) of a secret and the
-- session's eight bytes, in big-endian order.
use Rattle.std.specs.Prelude.{ℕ, ℤ, List, ◌++◌, take}
use Rattle.std.specs.Int.{w64, to_be_bytes, cast_unsigned}
use Rattle.sha1.specs.Sha1.{sha1}

unfoldable pub password_of : List ℕ → ℤ → List ℕ
password_of secret session = take 16 (sha1 (secret ++ to_be_bytes w64 (cast_unsigned w64 session)))
