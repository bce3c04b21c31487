-- What helps, by kinds of what can be wrong: a line for each kind that there is.
use Rattle.std.specs.Prelude.{ℕ, Bool, true, false, ◌&&◌, List, [], ◌∷◌, codes}
use Rattle.std.specs.List.{list_any}
use Rattle.zk_directory_state.specs.declared.fault.HistoryFault.{HistoryFault}
use Rattle.zk_directory_state.specs.declared.fault.HistoryFault.TheVariants as faults
use Rattle.zk_verification.specs.declared.help.Kind.{Kind}
use Rattle.zk_verification.specs.declared.help.Kind.TheVariants.{Snapshot, Log, Lost, Purged, Gap, Differs, Window, Unreadable, Digests}
use Rattle.zk_verification.specs.declared.mark.Mark.{Mark}
use Rattle.zk_verification.specs.declared.mark.Mark.TheVariants as marks

abbrev pub kinds : List Kind
kinds = Snapshot ∷ Log ∷ Lost ∷ Purged ∷ Gap ∷ Differs ∷ Window ∷ Unreadable ∷ Digests ∷ []

abbrev pub kind_of : HistoryFault → Kind
kind_of (faults.Snapshot snapshot fault) = Snapshot
kind_of (faults.Log log fault) = Log
kind_of (faults.Purged first) = Purged
kind_of (faults.Gap from to) = Gap
kind_of (faults.Differs log at) = Differs
kind_of (faults.Short snapshot exact) = Window
kind_of (faults.Early snapshot exact) = Window
kind_of fault = Unreadable

abbrev pub is_kind : Kind → Kind → Bool
is_kind Snapshot Snapshot = true
is_kind Log Log = true
is_kind Lost Lost = true
is_kind Purged Purged = true
is_kind Gap Gap = true
is_kind Differs Differs = true
is_kind Window Window = true
is_kind Unreadable Unreadable = true
is_kind Digests Digests = true
is_kind kind other = false

-- the mark says that something of this kind is wrong
abbrev pub is_of : Kind → Mark → Bool
is_of kind (marks.Log zxid records span ending) = false
is_of kind (marks.States snapshot exact last digests) = false
is_of kind (marks.Stopped snapshot) = false
is_of kind (marks.Joint joint missing) = missing && is_kind kind Gap
is_of kind (marks.Lost damage) = is_kind kind Lost
is_of kind (marks.Gap before after) = is_kind kind Gap
is_of kind (marks.Digest mismatch) = is_kind kind Digests
is_of kind (marks.Wrong fault) = is_kind kind (kind_of fault)

abbrev pub has_kind : Kind → List Mark → Bool
has_kind kind all = list_any (is_of kind) all

abbrev pub help_line : Kind → List ℕ
help_line Snapshot = codes "help S1 to S8: a server passes over a broken snapshot, and begins at an earlier one; move it away\n"
help_line Log = codes "help G1 to G5: a server does not start over a broken log; move the directory away, and let the server copy its leader's tree\n"
help_line Lost = codes "help lost: a server reads a log no further than to a damaged place, or does not start; move the directory away, and let the server copy its leader's tree\n"
help_line Purged = codes "help D2: earlier files were purged; take a snapshot and the logs after it from another server\n"
help_line Gap = codes "help D3, missing: transactions are missing; take the logs of another server by --logs\n"
help_line Differs = codes "help D4: the logs hold two histories; `zk compare` another server's directory, and keep the logs that agree with it\n"
help_line Window = codes "help D5, D6: a log that was written with this snapshot is missing or broken; an earlier or later snapshot serves\n"
help_line Unreadable = codes "help G6: the file cannot be read; look at its mode and its disk\n"
help_line Digests = codes "help otherDigest: this server's tree is not its leader's; move the directory away, and let the server copy its leader's tree\n"
