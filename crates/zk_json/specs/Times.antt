-- Times in UTC: `2026-11-27T14:03`, with seconds or with milliseconds. RFC 3339, "Internet Date/Time
-- Format", by the reader of `jiff`.
use Rattle.std.specs.Prelude.{◌≡◌, ℕ, ℤ, pos, ◌*ℤ◌, int_div, Bool, false, ◌&&◌, ◌||◌, ◌==◌, List, [], ◌∷◌, ◌++◌, length, Option, Some, None, option_map, if◌then◌else◌, codes}
use Rattle.std.specs.Char.{is_ascii_digit}
use Rattle.std.specs.Fmt.{signed_decimal}
use Rattle.std.specs.Result.{result_ok}
use Rattle.jiff_core.specs.DateTime.{civil_nanos}
use Rattle.jiff_core.specs.Timestamp.{IsTimestampNanos}
use Rattle.jiff_core.specs.declared.civil.datetime.DateTime.{DateTime}
use Rattle.jiff_fmt.specs.Temporal.{parse_timestamp}
use Rattle.jiff_fmt.specs.Text.{datetime_text, zulu_text}

-- a digit at each d, and the other bytes of the form
abbrev pub fits_one : ℕ → ℕ → Bool
fits_one sign byte = if sign == 100 then is_ascii_digit byte else byte == sign

abbrev pub fits : List ℕ → List ℕ → Bool
fits [] word = length word == 0
fits (sign ∷ form) [] = false
fits (sign ∷ form) (byte ∷ word) = fits_one sign byte && fits form word

abbrev pub has_form : List ℕ → Bool
has_form word = fits (codes "dddd-dd-ddTdd:dd") word || fits (codes "dddd-dd-ddTdd:dd:dd") word || fits (codes "dddd-dd-ddTdd:dd:dd.ddd") word

-- whole milliseconds
abbrev pub milliseconds : ℤ → ℤ
milliseconds nanoseconds = int_div nanoseconds (pos 1000000)

abbrev pub instant_of : List ℕ → Option ℤ
instant_of word = option_map milliseconds (result_ok (parse_timestamp (word ++ codes "Z")))

-- the milliseconds since 1970 of a word, or None
unfoldable pub time_of : List ℕ → Option ℤ
time_of word = if has_form word then instant_of word else None

-- ---- in lines

-- nanoseconds since 1970
abbrev pub nanoseconds : ℤ → ℤ
nanoseconds milliseconds = milliseconds *ℤ pos 1000000

-- what a clock in UTC shows at an instant, to milliseconds: `2026-11-27T14:53:34.997Z`
abbrev pub IsClockText : ℤ → List ℕ → Type 0
IsClockText nanosecond text = (clock : DateTime) × (civil_nanos clock ≡ nanosecond) × (text ≡ datetime_text false 84 (Some 3) clock ++ zulu_text false)

-- the text of a time, in milliseconds since 1970: that of a clock, or its number before the year -9999 and after 9999
pub data IsTimeText (time : ℤ) (text : List ℕ) : Type 0 where
  Shown : (clock : IsClockText (nanoseconds time) text) → IsTimeText time text
  Counted : (far : ¬ IsTimestampNanos (nanoseconds time)) (number : text ≡ signed_decimal time) → IsTimeText time text

-- the text of a time is appended
abbrev pub AppendsTime : List ℕ → ℤ → List ℕ → Type 0
AppendsTime old time new = (text : List ℕ) × IsTimeText time text × (new ≡ old ++ text)

abbrev pub AppendsInstant : List ℕ → ℤ → List ℕ → Type 0
AppendsInstant old nanosecond new = (text : List ℕ) × IsClockText nanosecond text × (new ≡ old ++ text)
