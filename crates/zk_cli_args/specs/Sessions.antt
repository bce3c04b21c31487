-- The words of `zk sessions` and `zk session`.
use Rattle.std.specs.Prelude.{◌≡◌, ◌≢◌, ℕ, ℤ, List, [], ◌∷◌, Option, Some, None, FitsSigned, option_map, if◌then◌else◌, codes}
use Rattle.std.specs.Int.{w64}
use Rattle.std.specs.Str.{bytes_eq}
use Rattle.zk_format.specs.Spelling.{id_digits}
use Rattle.zk_cli_args.specs.Commands.{values_of}
use Rattle.zk_cli_args.specs.Incidents.{parted}
use Rattle.zk_cli_args.specs.Zxids.{digits_in, padded_by}
use Rattle.zk_cli_args.specs.declared.session.SessionGiven.{SessionGiven}
use Rattle.zk_cli_args.specs.declared.session.SessionJob.{SessionJob}
use Rattle.zk_cli_args.specs.declared.sessions.SessionsJob.{SessionsJob}

-- ---- `zk sessions`

-- a directory, and that of the logs, if it is another
abbrev pub SessionsWords : Type 0
SessionsWords = List ℕ × Option (List ℕ)

-- one value
abbrev pub sessions_by : Option (List ℕ) → Option (List (List ℕ)) → Option SessionsWords
sessions_by logs (Some (folder ∷ [])) = Some (folder, logs)
sessions_by logs values = None

abbrev pub sessions_parted : Option (List ℕ) × List (List ℕ) → Option SessionsWords
sessions_parted rest = sessions_by rest.0 (values_of rest.1)

-- the words after the command's name
abbrev pub sessions_after : List (List ℕ) → Option SessionsWords
sessions_after words = sessions_parted (parted (codes "--logs") (codes "--logs=") words)

-- the program's name, the command's, and those
abbrev pub sessions_of : List (List ℕ) → Option SessionsWords
sessions_of [] = None
sessions_of (program ∷ []) = None
sessions_of (program ∷ name ∷ words) = if bytes_eq name (codes "sessions") then sessions_after words else None

abbrev pub words_of_sessions : SessionsJob → SessionsWords
words_of_sessions job = (job.folder.now, option_map (λ logs. logs.now) job.logs)

-- ---- a session

-- the digits after `0x`, or the word itself
abbrev pub bare_by : List ℕ → Option (List ℕ) → List ℕ
bare_by word None = word
bare_by word (Some digits) = digits

-- these digits as sixteen
unfoldable pub widened : List ℕ → List ℕ
widened word = padded_by word (Some (bare_by word (digits_in word)))

-- the sixteen digits of its 64 bits, or those that are left without leading zeros
abbrev pub SpellsSession : List ℕ → ℤ → Type 0
SpellsSession word session = FitsSigned w64 session × (widened word ≡ id_digits session)

-- ---- `zk session`

pub record SessionWords : Type 0 where
  pub session : List ℕ
  pub folder : List ℕ
  pub logs : Option (List ℕ)

-- a session, and a directory
abbrev pub session_by : Option (List ℕ) → Option (List (List ℕ)) → Option SessionWords
session_by logs (Some (session ∷ folder ∷ [])) = Some (record { session = session; folder = folder; logs = logs })
session_by logs values = None

abbrev pub session_parted : Option (List ℕ) × List (List ℕ) → Option SessionWords
session_parted rest = session_by rest.0 (values_of rest.1)

-- the words after the command's name
abbrev pub session_after : List (List ℕ) → Option SessionWords
session_after words = session_parted (parted (codes "--logs") (codes "--logs=") words)

-- the program's name, the command's, and those
abbrev pub session_words : List (List ℕ) → Option SessionWords
session_words [] = None
session_words (program ∷ []) = None
session_words (program ∷ name ∷ words) = if bytes_eq name (codes "session") then session_after words else None

pub record IsSession (given : SessionWords) (job : SessionJob) : Type 0 where
  pub session : SpellsSession given.session job.session
  pub folder : job.folder.now ≡ given.folder
  pub logs : option_map (λ logs. logs.now) job.logs ≡ given.logs

pub record NamesSession (words : List (List ℕ)) (job : SessionJob) : Type 0 where
  pub given : SessionWords
  pub parted : session_words words ≡ Some given
  pub is : IsSession given job

abbrev pub ReadsSession : List (List ℕ) → Option SessionJob → Type 0
ReadsSession words (Some job) = NamesSession words job
ReadsSession words None = (job : SessionJob) → ¬ NamesSession words job

-- ---- calls within

abbrev pub words_of_session : SessionGiven → SessionWords
words_of_session given = record { session = given.session.now; folder = given.folder.now; logs = option_map (λ logs. logs.now) given.logs }

abbrev pub ReadsSessionWords : SessionWords → Option SessionJob → Type 0
ReadsSessionWords given (Some job) = IsSession given job
ReadsSessionWords given None = (job : SessionJob) → ¬ IsSession given job

-- the 64 bits of a word of sixteen digits, or None
abbrev pub ReadsId : List ℕ → Option ℤ → Type 0
ReadsId word (Some id) = FitsSigned w64 id × (word ≡ id_digits id)
ReadsId word None = (id : ℤ) → FitsSigned w64 id → word ≢ id_digits id

abbrev pub ReadsSessionId : List ℕ → Option ℤ → Type 0
ReadsSessionId word (Some session) = SpellsSession word session
ReadsSessionId word None = (session : ℤ) → ¬ SpellsSession word session
