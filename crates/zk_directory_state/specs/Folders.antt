-- What a folder gives.
use Rattle.std.specs.Prelude.{◌≡◌, Option, Some, None}
use Rattle.zk_directory_state.specs.declared.folder.FolderFault.{FolderFault}
use Rattle.zk_directory_state.specs.declared.folder.FolderFault.TheVariants as faults

-- the value that is known, or any
abbrev pub IsGiven : {A : Type 0} → Option A → A → Type 0
IsGiven None given = Unit {0}
IsGiven (Some known) given = given ≡ known

-- a value that is known can be read
abbrev pub Fails : {A : Type 0} → Option A → FolderFault → Type 0
Fails known faults.Read = known ≡ None
Fails known faults.NoMemory = Unit {0}
