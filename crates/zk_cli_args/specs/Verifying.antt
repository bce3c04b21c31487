-- The words of `zk verify`.
use Rattle.std.specs.Prelude.{ℕ, List, [], ◌∷◌, Option, Some, None, option_map, if◌then◌else◌, codes}
use Rattle.std.specs.Str.{bytes_eq}
use Rattle.zk_cli_args.specs.Commands.{values_of}
use Rattle.zk_cli_args.specs.Incidents.{parted}
use Rattle.zk_cli_args.specs.declared.verification.VerifyJob.{VerifyJob}

-- a directory, and that of the logs, if it is another
abbrev pub VerifyWords : Type 0
VerifyWords = List ℕ × Option (List ℕ)

-- one value
abbrev pub verify_by : Option (List ℕ) → Option (List (List ℕ)) → Option VerifyWords
verify_by logs (Some (folder ∷ [])) = Some (folder, logs)
verify_by logs values = None

abbrev pub verify_parted : Option (List ℕ) × List (List ℕ) → Option VerifyWords
verify_parted rest = verify_by rest.0 (values_of rest.1)

-- the words after the command's name
abbrev pub verify_after : List (List ℕ) → Option VerifyWords
verify_after words = verify_parted (parted (codes "--logs") (codes "--logs=") words)

-- the program's name, the command's, and those
abbrev pub verify_of : List (List ℕ) → Option VerifyWords
verify_of [] = None
verify_of (program ∷ []) = None
verify_of (program ∷ name ∷ words) = if bytes_eq name (codes "verify") then verify_after words else None

abbrev pub words_of_verify : VerifyJob → VerifyWords
words_of_verify job = (job.folder.now, option_map (λ logs. logs.now) job.logs)
