-- Paths that a scan of the bytes accepts: a definition of this project. They are a part of the
-- paths that `Paths` defines.
use Rattle.std.specs.Prelude.{ℕ, List, [], ◌∷◌, Bool, not, ◌&&◌, ◌||◌, ◌==◌, nat_le}
use Rattle.zk_path.specs.Paths.{is_slash}

-- printable ASCII; after a slash, neither a slash nor a dot
abbrev pub may_follow : Bool → ℕ → Bool
may_follow behind_slash byte = not (behind_slash && (is_slash byte || byte == 46)) && (nat_le 32 byte && nat_le byte 126)

-- each byte may follow the one before it, and the text does not end with a slash
abbrev pub is_plain_behind : Bool → List ℕ → Bool
is_plain_behind behind_slash [] = not behind_slash
is_plain_behind behind_slash (byte ∷ bytes) = may_follow behind_slash byte && is_plain_behind (is_slash byte) bytes
