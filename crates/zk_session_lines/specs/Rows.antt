-- The lines of `zk sessions`.
use Rattle.std.specs.Prelude.{◌≡◌, ℕ, ℤ, Bool, true, false, List, [], ◌∷◌, ◌++◌, Option, Some, None, codes}
use Rattle.std.specs.Fmt.{decimal, signed_decimal}
use Rattle.zk_format.specs.Spelling.{id_digits}
use Rattle.zk_json.specs.Times.{IsTimeText}
use Rattle.zk_session_lines.specs.Appending.{Each, Is, Then}
use Rattle.zk_sessions.specs.Lives.{LifeTable}
use Rattle.zk_session_lines.specs.RowObjects.{IsRowObject}
use Rattle.zk_session_lines.specs.declared.line_form.LineForm.{LineForm}
use Rattle.zk_session_lines.specs.declared.line_form.LineForm.TheVariants.{Text, Json}
use Rattle.zk_sessions.specs.declared.moment.Moment.{Moment}
use Rattle.zk_sessions.specs.declared.session.Ending.{Ending}
use Rattle.zk_sessions.specs.declared.session.Session.{Session}

-- a space, and a time in UTC
abbrev pub IsSpacedTime : ℤ → List ℕ → Type 0
IsSpacedTime time text = Then (Is (32 ∷ [])) (IsTimeText time) text

-- the time of a transaction, and its zxid
abbrev pub IsMoment : Moment → List ℕ → Type 0
IsMoment moment text = Then (IsSpacedTime moment.time) (Is (32 ∷ id_digits moment.zxid)) text

-- when it was opened
abbrev pub IsOpening : Option Moment → List ℕ → Type 0
IsOpening None text = text ≡ codes " opened unknown"
IsOpening (Some moment) text = Then (Is (codes " opened")) (IsMoment moment) text

abbrev pub end_word : Bool → List ℕ
end_word true = codes " expired"
end_word false = codes " closed"

-- when and how it ended
abbrev pub IsEnding : Option Ending → List ℕ → Type 0
IsEnding None text = text ≡ codes " open"
IsEnding (Some ending) text = Then (Is (end_word ending.expired)) (IsMoment ending.moment) text

abbrev pub timeout_text : Option ℤ → List ℕ
timeout_text None = codes " timeout unknown"
timeout_text (Some timeout) = codes " timeout " ++ signed_decimal timeout

-- its writes, and its ephemeral nodes
unfoldable pub counts_text : Session → List ℕ
counts_text life =
    codes " writes " ++ decimal life.writes ++ codes " created " ++ decimal life.created ++ codes " deleted " ++ decimal life.deleted ++ codes " left " ++ decimal life.left

abbrev pub IsFacts : Session → List ℕ → Type 0
IsFacts life text = Then (IsOpening life.opened) (Then (Is (timeout_text life.timeout)) (Then (Is (counts_text life)) (IsEnding life.ended))) text

-- the line of a session
abbrev pub IsRow : ℤ × Session → List ℕ → Type 0
IsRow entry line = Then (Is (id_digits entry.0)) (Then (IsFacts entry.1) (Is (10 ∷ []))) line

-- in a form
abbrev pub IsFormedRow : LineForm → ℤ × Session → List ℕ → Type 0
IsFormedRow Text entry line = IsRow entry line
IsFormedRow Json entry line = IsRowObject entry line

-- in the order of their numbers
abbrev pub AreRows : LineForm → LifeTable → List ℕ → Type 0
AreRows form lives text = Each (IsFormedRow form) lives text
