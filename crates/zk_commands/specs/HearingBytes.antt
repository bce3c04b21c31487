-- Reading a line byte by byte, so that no byte after it is read: a definition of this project.
use Rattle.std.specs.Prelude.{ℕ, List, [], ◌∷◌, Option, Some, None, Result, Ok, Err}
use Rattle.std.specs.Io.KnownBytes.{Consumes, IsAtEnd, Keeps}
use Rattle.zk_commands.specs.declared.session.TalkFault.{TalkFault}

-- one of the known bytes was read, or none was left
abbrev pub GivesByte : Option (List ℕ) → Option (List ℕ) → Result (Option ℕ) TalkFault → Type 0
GivesByte old new (Ok (Some byte)) = Consumes old new (byte ∷ [])
GivesByte old new (Ok None) = Consumes old new [] × IsAtEnd new
GivesByte old new (Err fault) = Keeps old new
