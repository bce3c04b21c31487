-- The contract of a call that reads a line: a definition of this project.
use Rattle.std.specs.Prelude.{◌≡◌, ◌≢◌, ◌-◌, ◌+◌, ◌^◌, ◌⊎◌, ℕ, List, [], Option, Result, Ok, Err}
use Rattle.std.specs.Io.KnownBytes.{Consumes, IsAtEnd}
use Rattle.zk_log.specs.Devices.{reads_of, read_failures_of}
use Rattle.zk_log.specs.declared.source.Source.{Source}
use Rattle.zk_commands.specs.declared.session.TalkFault.{TalkFault}
use Rattle.zk_commands.specs.declared.session.TalkFault.TheVariants as faults
use Rattle.zk_commands.specs.declared.hearing_lines.ReadLine.{ReadLine}
use Rattle.zk_commands.specs.declared.hearing_lines.ReadLine.TheVariants as heards
use Rattle.zk_commands.specs.declared.line.Line.{Line}
use Rattle.zk_commands.specs.Lines.{Holds, HearsPart, HearsLine}

abbrev pub Hears : Option (List ℕ) → Option (List ℕ) → Line → Result ReadLine TalkFault → Type 0
Hears left left' it (Ok heards.Line) = (text : List ℕ) × HearsLine left left' text × Holds it text
Hears left left' it (Ok heards.End) = Consumes left left' [] × IsAtEnd left'
Hears left left' it (Err faults.Write) = ⊥
Hears left left' it (Err fault) = HearsPart left left'

-- at the end of the input, text is a last line, and an empty text is none
abbrev pub HeardAtEnd : Line → ReadLine → Type 0
HeardAtEnd it heards.Line = (text : List ℕ) → Holds it text → text ≢ []
HeardAtEnd it heards.End = (text : List ℕ) → Holds it text → text ≡ []

-- a read failed, or the count of reads is full; otherwise no read failed
abbrev pub ReadsSo : {R T : Type 0} → Source R → Result T TalkFault → Source R → Type 0
ReadsSo old (Err faults.Read) new = (read_failures_of new ≡ read_failures_of old + 1) ⊎ ((read_failures_of new ≡ read_failures_of old) × (reads_of new ≡ 2 ^ 64 - 1))
ReadsSo old result new = read_failures_of new ≡ read_failures_of old
