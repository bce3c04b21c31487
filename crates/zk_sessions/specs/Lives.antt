-- Sessions by their numbers.
use Rattle.std.specs.Prelude.{ℤ, List, Option}
use Rattle.std.specs.BTreeMap.{insert_entry, is_at}
use Rattle.std.specs.Map.{lookup}
use Rattle.std.specs.Option.{unwrap_or}
use Rattle.std.specs.Ordering.{int_cmp}
use Rattle.zk_sessions.specs.Sessions.{unknown}
use Rattle.zk_sessions.specs.declared.session.Session.{Session}

-- in order of the numbers
abbrev pub LifeTable : Type 0
LifeTable = List (ℤ × Session)

abbrev pub found : LifeTable → ℤ → Option Session
found lives session = lookup (is_at (int_cmp session)) lives

abbrev pub life_of : LifeTable → ℤ → Session
life_of lives session = unwrap_or (found lives session) unknown

abbrev pub with_life : LifeTable → ℤ → Session → LifeTable
with_life lives session life = insert_entry int_cmp lives session life

-- a session is another one from now on
abbrev pub changed : LifeTable → ℤ → (Session → Session) → LifeTable
changed lives session change = with_life lives session (change (life_of lives session))
