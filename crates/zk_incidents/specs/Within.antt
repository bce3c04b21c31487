-- The paths at and below a path.
use Rattle.std.specs.Prelude.{ℕ, Bool, ◌&&◌, ◌||◌, nat_eq, List, ◌++◌, codes, if◌then◌else◌}
use Rattle.std.specs.List.{starts_with}
use Rattle.std.specs.Str.{bytes_eq}

-- what the paths below a path begin with
abbrev pub front_below : List ℕ → List ℕ
front_below path = if bytes_eq path (codes "/") then path else path ++ codes "/"

-- the path itself, or one below it
abbrev pub is_within : List ℕ → Bool → List ℕ → Bool
is_within root below path = bytes_eq path root || (below && starts_with nat_eq path (front_below root))
