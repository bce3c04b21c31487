-- The logs of 3.5 to 3.8 servers: entries as in 3.4, whose records each represent a 3.4
-- transaction, as far as they can be converted in order.
use Rattle.std.specs.Prelude.{◌≡◌, ◌≢◌, ℕ, ◌+◌, ◌<◌, ◌≤◌, ℤ, pos, List, [], ◌∷◌, ◌++◌, length, Bool, false, not, ◌&&◌, Option, Some, None, map, nat_lt, int_le, Result, Ok, Err, if◌then◌else◌}
use Rattle.std.specs.FinMap.{get}
use Rattle.std.specs.List.{flat_map, list_any, list_all}
use Rattle.std.specs.Ordering.{int_eq}
use Rattle.std.specs.Str.{bytes_eq}
use Rattle.zk_mend.specs.Digests.{Owners, tree_digest}
use Rattle.zk_mend.specs.Following.{no_owners, owners_after}
use Rattle.zk_records.specs.Records.{record_of}
use Rattle.zk_records.specs.Sizes.{size_of}
use Rattle.zk_records.specs.Checksum.{adler_of}
use Rattle.zk_records.specs.Written.{framed, most_bytes}
use Rattle.zk_log.specs.Logs.{has_head, stated_length, Ends, Stands}
use Rattle.zk_log.specs.declared.fault.LogFault.TheVariants as log_faults
use Rattle.zk_log.specs.declared.loaded.Ending.{Ending}
use Rattle.zk_newer_records.specs.Changes.{owners_of}
use Rattle.zk_newer_records.specs.NewerRecords.{newer_record, listed_of, tells_why, IsSpelled}
use Rattle.zk_newer_records.specs.declared.newer_record.Encoding.{Encoding}
use Rattle.zk_newer_records.specs.declared.newer_record.Encoding.TheVariants as forms
use Rattle.zk_newer_records.specs.declared.newer_record.NewerRecord.{NewerRecord}
use Rattle.zk_table.specs.States.{NodeMap, State, owned_by, start_state}
use Rattle.zk_table.specs.Steps.{step}
use Rattle.zk_table.specs.declared.node.Node.{Node}
use Rattle.zk_table.specs.declared.txn.Txn.{Txn}
use Rattle.zk_mend.specs.Telling.{nothing_told, told_after}
use Rattle.zk_mend.specs.declared.fault.MendFault.{MendFault}
use Rattle.zk_mend.specs.declared.fault.MendFault.TheVariants as faults
use Rattle.zk_mend.specs.declared.conversion_report.ConversionReport.{ConversionReport}

-- ---- entries

-- the entry of a 3.5 to 3.8 server's record
unfoldable pub newer_entry : NewerRecord → List ℕ
newer_entry newer = framed (adler_of (newer_record newer)) (newer_record newer)

-- transactions that may be written
pub record HasNewerEntry (newer : NewerRecord) : Type 0 where
  pub spelled : IsSpelled (newer_record newer) newer
  pub short : length (newer_record newer) ≤ most_bytes

-- the transactions that records represent
abbrev pub txns_in : List NewerRecord → List Txn
txns_in newers = map (λ newer. newer.txn) newers

-- ---- the paths in the record of a closed session

-- a session owns a node; 0 is no session
abbrev pub owns : ℤ → Node → Bool
owns session node = if int_eq session (pos 0) then false else int_eq node.owner session

abbrev pub is_own : ℤ → Option Node → Bool
is_own session None = false
is_own session (Some node) = owns session node

abbrev pub is_others : ℤ → Option Node → Bool
is_others session None = false
is_others session (Some node) = not (owns session node)

-- a listed node exists and is not the session's: a 3.5 to 3.8 server deletes it, and 3.4 does not
abbrev pub closes_others : NodeMap → NewerRecord → Bool
closes_others nodes newer = list_any (λ path. is_others newer.txn.session (get nodes path)) (listed_of newer)

abbrev pub lists_own : NodeMap → ℤ → List (List ℕ) → Bool
lists_own nodes session listed = list_all (λ path. is_own session (get nodes path)) listed && list_all (λ path. list_any (bytes_eq path) listed) (owned_by nodes session)

-- the listed paths, as a set, are not the session's nodes
abbrev pub lists_others : NodeMap → ℤ → Encoding → Bool
lists_others nodes session (forms.ClosePaths listed) = not (lists_own nodes session listed)
lists_others nodes session form = false

-- ---- one record after another

-- the state after some entries
pub record LogPosition : Type 0 where
  -- the offset in the file
  pub at : ℕ
  -- the last zxid
  pub last : ℤ
  -- the table's state
  pub state : State
  -- owners that differ on the 3.5 to 3.8 server
  pub owners : Owners
  pub told : ConversionReport

-- after the header
abbrev pub start_place : LogPosition
start_place = record { at = 16; last = pos 0; state = start_state; owners = no_owners; told = nothing_told }

abbrev pub owners_next : LogPosition → NewerRecord → Owners
owners_next place newer = owners_after place.state.nodes (step place.state newer.txn).0.nodes (owners_of newer) place.owners

abbrev pub after_record : LogPosition → NewerRecord → LogPosition
after_record place newer = record {
  at = place.at + length (newer_entry newer);
  last = newer.txn.zxid;
  state = (step place.state newer.txn).0;
  owners = owners_next place newer;
  told = told_after place.told place.at newer (tree_digest (owners_next place newer) (step place.state newer.txn).0.nodes) (lists_others place.state.nodes newer.txn.session newer.form);
}

abbrev pub after_all : LogPosition → List NewerRecord → LogPosition
after_all place [] = place
after_all place (newer ∷ newers) = after_all (after_record place newer) newers

-- the fault of a record at an offset, after a zxid and over these nodes; checked in this order
abbrev pub refusal_by : ℕ → ℤ → NodeMap → NewerRecord → Option MendFault
refusal_by at last nodes newer =
    if not (tells_why newer) then Some (faults.NoReason at) else
    (if nat_lt most_bytes (size_of (record_of newer.txn)) then Some (faults.TooLong at) else
    (if int_le newer.txn.zxid last then Some (faults.Log (log_faults.Order at)) else
    (if closes_others nodes newer then Some (faults.OtherNodes at) else None)))

abbrev pub refusal : LogPosition → NewerRecord → Option MendFault
refusal place newer = refusal_by place.at place.last place.state.nodes newer

pub record MayCome (place : LogPosition) (newer : NewerRecord) : Type 0 where
  pub entry : HasNewerEntry newer
  pub goes : refusal place newer ≡ None

abbrev pub AllMayCome : LogPosition → List NewerRecord → Type 0
AllMayCome place [] = Unit {0}
AllMayCome place (newer ∷ newers) = MayCome place newer × AllMayCome (after_record place newer) newers

-- ---- where reading stops

-- a whole entry whose record has this fault
pub record IsRefusedRecord (place : LogPosition) (rest : List ℕ) (fault : MendFault) : Type 0 where
  pub newer : NewerRecord
  pub bytes : List ℕ
  pub stands : Stands rest (adler_of bytes) bytes
  pub spelled : IsSpelled bytes newer
  pub refused : refusal place newer ≡ Some fault

-- the fault of the entry here
abbrev pub IsMendFault : LogPosition → List ℕ → MendFault → Type 0
IsMendFault place rest (faults.Log (log_faults.Checksum at)) = (at ≡ place.at) × ((sum : ℕ) × (bytes : List ℕ) × Stands rest sum bytes × (sum ≢ adler_of bytes))
IsMendFault place rest (faults.Log (log_faults.TooLong at)) = (at ≡ place.at) × has_head rest × (most_bytes < stated_length rest)
IsMendFault place rest (faults.Record at) = (at ≡ place.at) × ((bytes : List ℕ) × Stands rest (adler_of bytes) bytes × ((newer : NewerRecord) → ¬ IsSpelled bytes newer))
IsMendFault place rest fault = IsRefusedRecord place rest fault

abbrev pub MendStops : LogPosition → List ℕ → Result Ending MendFault → Type 0
MendStops place rest (Ok ending) = Ends place.at rest ending
MendStops place rest (Err fault) = IsMendFault place rest fault

-- from here on the bytes are the entries of these records, and a rest at which reading stops
pub record Mends (place : LogPosition) (bytes : List ℕ) (newers : List NewerRecord) (outcome : Result Ending MendFault) : Type 0 where
  pub rest : List ℕ
  pub spelled : bytes ≡ flat_map newer_entry newers ++ rest
  pub come : AllMayCome place newers
  pub stops : MendStops (after_all place newers) rest outcome
