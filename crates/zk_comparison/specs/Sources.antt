-- The files of a directory.
use Rattle.std.specs.Prelude.{ℕ, List, Option}
use Rattle.zk_comparison.specs.declared.compared_directory.ComparedDirectory.{ComparedDirectory}

-- the names of its snapshots, and of its logs, which may be in another, and the bytes of both
pub record Source : Type 0 where
  pub snapshots : Option (List (List ℕ))
  pub snapshot_bytes : List ℕ → Option (List ℕ)
  pub logs : Option (List (List ℕ))
  pub bytes_in : List ℕ → Option (List ℕ)

abbrev pub source_of : Option (List (List ℕ)) → (List ℕ → Option (List ℕ)) → Option (List (List ℕ)) → (List ℕ → Option (List ℕ)) → Source
source_of snapshots snapshot_bytes logs bytes_in = record { snapshots = snapshots; snapshot_bytes = snapshot_bytes; logs = logs; bytes_in = bytes_in }

-- a directory, by the name that reports have
pub record NamedSource : Type 0 where
  pub name : List ℕ
  pub source : Source

-- of these folders, whose names and bytes these are
abbrev pub named_by : {S L : Type 0} → (S → Option (List (List ℕ))) → (S → List ℕ → Option (List ℕ)) → (L → Option (List (List ℕ))) → (L → List ℕ → Option (List ℕ)) → ComparedDirectory S L → NamedSource
named_by snapshots snapshot_bytes logs bytes_in it = record { name = it.name.now; source = source_of (snapshots it.snapshots) (snapshot_bytes it.snapshots) (logs it.logs) (bytes_in it.logs) }
