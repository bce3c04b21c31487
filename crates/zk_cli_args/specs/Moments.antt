-- A time of a command line: with `Z`, as lines have it, or without.
use Rattle.std.specs.Prelude.{ℕ, ℤ, ◌-◌, Bool, List, length, take, drop, Option, if◌then◌else◌, codes}
use Rattle.std.specs.Str.{bytes_eq}
use Rattle.zk_json.specs.Times.{time_of}

abbrev pub ends_with_zulu : List ℕ → Bool
ends_with_zulu word = bytes_eq (drop (length word - 1) word) (codes "Z")

-- without a last `Z`
abbrev pub without_zulu : List ℕ → List ℕ
without_zulu word = if ends_with_zulu word then take (length word - 1) word else word

-- the milliseconds since 1970 of a word, or None
unfoldable pub moment_of : List ℕ → Option ℤ
moment_of word = time_of (without_zulu word)
