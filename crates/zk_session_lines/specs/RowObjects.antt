-- The lines of `zk sessions --json`: the facts of the text, by name.
use Rattle.std.specs.Prelude.{◌≡◌, ℕ, ℤ, pos, negsuc, List, [], ◌∷◌, Option, Some, None, codes, decimal, true, false, Bool}
use Rattle.std.specs.Fmt.{signed_decimal}
use Rattle.json.specs.Json.{Json, null, number, string}
use Rattle.zk_json.specs.Json.{Fields, IsLineOf, id_of, object_of}
use Rattle.zk_json.specs.Times.{IsTimeText}
use Rattle.zk_sessions.specs.declared.moment.Moment.{Moment}
use Rattle.zk_sessions.specs.declared.session.Ending.{Ending}
use Rattle.zk_sessions.specs.declared.session.Session.{Session}

-- the text of the time of a transaction, if there is one
abbrev pub IsTimeOf : Option Moment → List ℕ → Type 0
IsTimeOf None time = time ≡ []
IsTimeOf (Some moment) time = IsTimeText moment.time time

abbrev pub zxid_of : Option Moment → Json
zxid_of None = null
zxid_of (Some moment) = id_of moment.zxid

abbrev pub time_of : Option Moment → List ℕ → Json
time_of None time = null
time_of (Some moment) time = string time

-- milliseconds; one below 0, which no server grants, is a text
abbrev pub timeout_by : ℤ → List ℕ → Json
timeout_by (pos number') text = number (decimal number')
timeout_by (negsuc number') text = string text

abbrev pub timeout_of : Option ℤ → List ℕ → Json
timeout_of None text = null
timeout_of (Some timeout) text = timeout_by timeout text

abbrev pub IsTimeoutText : Option ℤ → List ℕ → Type 0
IsTimeoutText None text = text ≡ []
IsTimeoutText (Some timeout) text = text ≡ signed_decimal timeout

abbrev pub end_moment : Option Ending → Option Moment
end_moment None = None
end_moment (Some ending) = Some ending.moment

abbrev pub ended_name : Bool → List ℕ
ended_name true = codes "expired"
ended_name false = codes "closed"

abbrev pub end_name : Option Ending → List ℕ
end_name None = codes "open"
end_name (Some ending) = ended_name ending.expired

abbrev pub row_fields : ℤ → Session → List ℕ → List ℕ → List ℕ → Fields
row_fields session life opened timeout ended =
    (codes "session", id_of session)
    ∷ (codes "openedZxid", zxid_of life.opened)
    ∷ (codes "openedTime", time_of life.opened opened)
    ∷ (codes "timeout", timeout_of life.timeout timeout)
    ∷ (codes "writes", number (decimal life.writes))
    ∷ (codes "created", number (decimal life.created))
    ∷ (codes "deleted", number (decimal life.deleted))
    ∷ (codes "left", number (decimal life.left))
    ∷ (codes "end", string (end_name life.ended))
    ∷ (codes "endZxid", zxid_of (end_moment life.ended))
    ∷ (codes "endTime", time_of (end_moment life.ended) ended)
    ∷ []

-- the object of a session, and a newline
abbrev pub IsRowObject : ℤ × Session → List ℕ → Type 0
IsRowObject entry line =
    (opened : List ℕ) × (timeout : List ℕ) × (ended : List ℕ) × IsTimeOf entry.1.opened opened × IsTimeoutText entry.1.timeout timeout × IsTimeOf (end_moment entry.1.ended) ended
    × IsLineOf (object_of (row_fields entry.0 entry.1 opened timeout ended)) line
