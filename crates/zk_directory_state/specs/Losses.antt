-- What damaged places of logs lost: the lines on standard error.
use Rattle.std.specs.Prelude.{◌≡◌, ℕ, ℤ, List, [], ◌∷◌, ◌++◌, Option, Some, None, codes}
use Rattle.zk_directory_state.specs.Names.{log_name}
use Rattle.zk_directory_state.specs.declared.span.Moment.{Moment}
use Rattle.zk_directory_state.specs.declared.walk.Loss.{Loss}
use Rattle.zk_format.specs.Spelling.{id_digits}
use Rattle.zk_json.specs.Times.{IsTimeText}

-- where one is known
abbrev pub zxid_text : Option Moment → List ℕ
zxid_text None = codes "-"
zxid_text (Some moment) = id_digits moment.zxid

abbrev pub IsTimeBy : Option Moment → List ℕ → Type 0
IsTimeBy None text = text ≡ codes "-"
IsTimeBy (Some moment) text = IsTimeText moment.time text

-- the log
unfoldable pub loss_head : ℤ → List ℕ
loss_head log = codes "zk: lost " ++ log_name log ++ codes " "

-- the transactions before and after those that are lost
unfoldable pub loss_zxids : Option Moment → Option Moment → List ℕ
loss_zxids before after = zxid_text before ++ codes " " ++ zxid_text after ++ codes " "

-- the times of both
unfoldable pub loss_times : List ℕ → List ℕ → List ℕ
loss_times before after = before ++ codes " " ++ after ++ codes "\n"

abbrev pub loss_line : Loss → List ℕ → List ℕ → List ℕ
loss_line loss before after = loss_head loss.log ++ loss_zxids loss.before loss.after ++ loss_times before after

abbrev pub IsLossLine : Loss → List ℕ → Type 0
IsLossLine loss line = (before : List ℕ) × (after : List ℕ) × IsTimeBy loss.before before × IsTimeBy loss.after after × (line ≡ loss_line loss before after)

-- a line for each, in order
abbrev pub AreLossLines : List Loss → List ℕ → Type 0
AreLossLines [] text = text ≡ []
AreLossLines (loss ∷ losses) text = (line : List ℕ) × (rest : List ℕ) × IsLossLine loss line × AreLossLines losses rest × (text ≡ line ++ rest)

-- ---- calls

abbrev pub AppendsLoss : Loss → List ℕ → List ℕ → Type 0
AppendsLoss loss old new = (line : List ℕ) × IsLossLine loss line × (new ≡ old ++ line)

abbrev pub AppendsLosses : List Loss → List ℕ → List ℕ → Type 0
AppendsLosses losses old new = (text : List ℕ) × AreLossLines losses text × (new ≡ old ++ text)
