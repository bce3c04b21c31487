-- Inputs that append at most one entry to a server's stable part.
use Rattle.std.specs.Prelude.{◌≡◌, ◌⊎◌, [], ◌∷◌, ◌++◌}
use Rattle.zab_epoch.specs.declared.history.Entry.{Entry}
use Rattle.zab_epoch.specs.declared.stable.Stable.{Stable}
use Rattle.zab_host.specs.Hosts.{Input, Receives, IsAppendOnlyBody}

abbrev pub IsAppendOnly : {C : Type 0} → Input C → Type 0
IsAppendOnly (Receives message) = IsAppendOnlyBody message.body
IsAppendOnly input = Unit {0}

abbrev pub with_one : Stable → Entry → Stable
with_one stable entry = record { promised = stable.promised; current = stable.current; history = stable.history ++ entry ∷ [] }

-- unchanged, or one entry longer
abbrev pub GrowsByOne : Stable → Stable → Type 0
GrowsByOne before after = (after ≡ before) ⊎ ((entry : Entry) × (after ≡ with_one before entry))
