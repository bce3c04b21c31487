-- The words of `zk compare`.
use Rattle.std.specs.Prelude.{ℕ, List, [], ◌∷◌, Option, Some, None, option_map, if◌then◌else◌, codes}
use Rattle.std.specs.Str.{bytes_eq}
use Rattle.zk_cli_args.specs.Commands.{values_of}
use Rattle.zk_cli_args.specs.Incidents.{parted}
use Rattle.zk_cli_args.specs.declared.comparison.CompareJob.{CompareJob}

-- two directories, and those of their logs, if they are others
pub record CompareWords : Type 0 where
  pub first : List ℕ
  pub first_logs : Option (List ℕ)
  pub second : List ℕ
  pub second_logs : Option (List ℕ)

-- two values
abbrev pub compare_by : Option (List ℕ) → Option (List ℕ) → Option (List (List ℕ)) → Option CompareWords
compare_by logs others (Some (first ∷ second ∷ [])) = Some (record { first = first; first_logs = logs; second = second; second_logs = others })
compare_by logs others values = None

abbrev pub second_parted : Option (List ℕ) → Option (List ℕ) × List (List ℕ) → Option CompareWords
second_parted logs rest = compare_by logs rest.0 (values_of rest.1)

abbrev pub first_parted : Option (List ℕ) × List (List ℕ) → Option CompareWords
first_parted rest = second_parted rest.0 (parted (codes "--logs2") (codes "--logs2=") rest.1)

-- the words after the command's name
abbrev pub compare_after : List (List ℕ) → Option CompareWords
compare_after words = first_parted (parted (codes "--logs") (codes "--logs=") words)

-- the program's name, the command's, and those
abbrev pub compare_of : List (List ℕ) → Option CompareWords
compare_of [] = None
compare_of (program ∷ []) = None
compare_of (program ∷ name ∷ words) = if bytes_eq name (codes "compare") then compare_after words else None

abbrev pub words_of_compare : CompareJob → CompareWords
words_of_compare job = record {
  first = job.first.now;
  first_logs = option_map (λ logs. logs.now) job.first_logs;
  second = job.second.now;
  second_logs = option_map (λ logs. logs.now) job.second_logs;
}
