-- A line is read as a command if and only if it is the command's line.
use Rattle.std.proofs.Common.{◌≡◌, ℕ, ℤ, ◌^◌, ◌<◌, Bool, true, false, cond, List, [], ◌∷◌, ◌++◌, Option, Some, None, Result, Ok, Err, refl, sym, ap, subst, ◌∙◌}
use Rattle.std.proofs.lemmas.Slice.Eq.{bytes_eq-Decides}
use Rattle.std.specs.Prelude.{FitsSigned, codes}
use Rattle.std.specs.Fmt.{decimal}
use Rattle.std.specs.Int.{w64}
use Rattle.std.specs.List.{AllByRecursion}
use Rattle.std.specs.Option.{ok_or}
use Rattle.std.specs.Str.{bytes_eq}
use Rattle.zk_debug.specs.declared.breakpoint.Breakpoint.{Breakpoint}
use Rattle.zk_debug.specs.declared.breakpoint.Breakpoint.TheVariants as breakpoints
use Rattle.zk_debug.specs.declared.breakpoint.Kind.{Kind}
use Rattle.zk_debug.specs.declared.breakpoint.Kind.TheVariants as kinds
use Rattle.zk_format.specs.Listings.{IsListedPath}
use Rattle.zk_listing.specs.Reading.{id_at, path_at}
use Rattle.zk_format.specs.Spelling.{id_digits, quoted}
use Rattle.zk_listing.proofs.Exact.{bind_some, some_is}
use Rattle.zk_listing.proofs.LineLaws.{id_exact}
use Rattle.zk_listing.proofs.QuotedLaws.{path_exact}
use Rattle.zk_debug.specs.Commands.{kind_text, breakpoint_text, command_text, IsBreakpoint, IsCommand, Says, ReadsCommand}
use Rattle.zk_debug.specs.Reading.{Makes, whole, looked_up, word_in, field_in, kind_words, kind_from, made, breakpoint_words, breakpoint_with, breakpoint_by, breakpoint_from, number_from, alone_words, alone_from, with_words, with_from, command_by, command_from}
use Rattle.zk_debug.specs.declared.command.Command.{Command}
use Rattle.zk_debug.specs.declared.command.Command.TheVariants as commands
use Rattle.zk_debug.specs.declared.command_fault.CommandFault.{CommandFault}
use Rattle.zk_debug.specs.declared.command_fault.CommandFault.TheVariants as faults
use Rattle.zk_debug.proofs.Words.{whole_takes, whole_again, number_takes, number_again, looked_up_is, line_alone, line_with}

made_is : {X Y : Type 0} (make : X → Y) (read : Option X) (y : Y) → made make read ≡ Some y → (x : X) × (read ≡ Some x) × (make x ≡ y)
made_is make None y h = absurd (let bad : None ≡ Some y = h in cc)
made_is make (Some x) y h = (x, refl, some_is (make x) y h)

-- ---- what is read is written so

-- a word, and a field after it that is one of these
abbrev MakesOf : {Y : Type 0} → (Y → Type 0) → (Y → List ℕ) → List ℕ → (List ℕ → Option Y) → Type 0
MakesOf {Y} Is text word read = (field : List ℕ) (y : Y) → read field ≡ Some y → Is y × (word ++ 32 ∷ field ≡ text y)

makes_of : {X Y : Type 0} (make : X → Y) (spell : X → List ℕ) (Fits : X → Type 0) (from : List ℕ → Option X) (Is : Y → Type 0) (text : Y → List ℕ) (word : List ℕ)
    → ((field : List ℕ) (x : X) → from field ≡ Some x → Fits x × (field ≡ spell x)) → ((x : X) → Fits x → Is (make x)) → ((x : X) → word ++ 32 ∷ spell x ≡ text (make x)) → MakesOf Is text word (λ field. made make (from field))
makes_of {X} {Y} make spell Fits from Is text word takes is same = λ field y h.
    let p = made_is make (from field) y h in
    let found = takes field p.0 p.1 in
    let one : Is (make p.0) × (word ++ 32 ∷ field ≡ text (make p.0)) = (is p.0 found.0, ap (λ (xs : List ℕ). word ++ 32 ∷ xs) found.1 ∙ same p.0) in
    subst (λ (v : Y). Is v × (word ++ 32 ∷ field ≡ text v)) p.2 one

id_takes : (field : List ℕ) (id : ℤ) → whole (id_at field) ≡ Some id → FitsSigned w64 id × (field ≡ id_digits id)
id_takes = whole_takes id_digits (FitsSigned w64) id_at id_exact

path_takes : (field path : List ℕ) → whole (path_at field) ≡ Some path → IsListedPath path × (field ≡ quoted path)
path_takes = whole_takes quoted IsListedPath path_at path_exact

kind_takes : (word : List ℕ) (kind : Kind) → kind_from word ≡ Some kind → Unit {0} × (word ≡ kind_text kind)
unfolding kind_from
kind_takes word kind h =
    (tt, looked_up_is (λ (w : List ℕ) (k : Kind). w ≡ kind_text k) kind_words (refl, (refl, (refl, (refl, (refl, (refl, (refl, (refl, (refl, tt))))))))) word kind h)

breakpoints_made : AllByRecursion (λ e. MakesOf IsBreakpoint breakpoint_text e.0 e.1) breakpoint_words
breakpoints_made = (
  makes_of breakpoints.At id_digits (FitsSigned w64) (λ field. whole (id_at field)) IsBreakpoint breakpoint_text (codes "at") id_takes (λ id fits. fits) (λ id. refl),
  (
    makes_of breakpoints.Path quoted IsListedPath (λ field. whole (path_at field)) IsBreakpoint breakpoint_text (codes "path") path_takes (λ path fits. fits) (λ path. refl),
    (
      makes_of breakpoints.Session id_digits (FitsSigned w64) (λ field. whole (id_at field)) IsBreakpoint breakpoint_text (codes "session") id_takes (λ id fits. fits) (λ id. refl),
      (
        makes_of breakpoints.Kind kind_text (λ kind. Unit {0}) kind_from IsBreakpoint breakpoint_text (codes "kind") kind_takes (λ kind fits. tt) (λ kind. refl),
        tt,
      ),
    ),
  ),
)

by_breakpoint_field : (text : List ℕ) (b : Breakpoint) (field : Option (List ℕ)) → field_in text ≡ field → breakpoint_by (word_in text) field ≡ Some b → IsBreakpoint b × (text ≡ breakpoint_text b)
unfolding breakpoint_with
by_breakpoint_field text b None e found = absurd (let bad : None ≡ Some b = found in cc)
by_breakpoint_field text b (Some field) e found =
    let p = bind_some (looked_up (word_in text) breakpoint_words) (λ read. read field) b found in
    let made_so = looked_up_is (MakesOf IsBreakpoint breakpoint_text) breakpoint_words breakpoints_made (word_in text) p.0 p.1 field b p.2 in
    (made_so.0, line_with text field e ∙ made_so.1)

breakpoint_takes : (text : List ℕ) (b : Breakpoint) → breakpoint_from text ≡ Some b → IsBreakpoint b × (text ≡ breakpoint_text b)
unfolding breakpoint_from
breakpoint_takes text b h = by_test (bytes_eq text (codes "error")) refl h
  where
    by_test : (v : Bool) → bytes_eq text (codes "error") ≡ v → cond v (Some breakpoints.Error) (breakpoint_by (word_in text) (field_in text)) ≡ Some b → IsBreakpoint b × (text ≡ breakpoint_text b)
    by_test true same found =
        let is : breakpoints.Error ≡ b = some_is breakpoints.Error b found in
        let one : IsBreakpoint breakpoints.Error × (text ≡ breakpoint_text breakpoints.Error) = (tt, (bytes_eq-Decides text (codes "error")).0 same) in
        subst (λ (v : Breakpoint). IsBreakpoint v × (text ≡ breakpoint_text v)) is one
    by_test false other later = by_breakpoint_field text b (field_in text) refl later

commands_made : AllByRecursion (λ e. MakesOf IsCommand command_text e.0 e.1) with_words
commands_made = (
  makes_of commands.Goto id_digits (FitsSigned w64) (λ field. whole (id_at field)) IsCommand command_text (codes "goto") id_takes (λ id fits. fits) (λ id. refl),
  (
    makes_of commands.Node quoted IsListedPath (λ field. whole (path_at field)) IsCommand command_text (codes "node") path_takes (λ path fits. fits) (λ path. refl),
    (
      makes_of commands.Break breakpoint_text IsBreakpoint breakpoint_from IsCommand command_text (codes "break") breakpoint_takes (λ b fits. fits) (λ b. refl),
      (
        makes_of commands.Clear decimal (λ n. n < 2 ^ 32) number_from IsCommand command_text (codes "clear") number_takes (λ n fits. fits) (λ n. refl),
        tt,
      ),
    ),
  ),
)

abbrev Alone : List ℕ → Command → Type 0
Alone word c = IsCommand c × (word ≡ command_text c)

by_command_field : (line : List ℕ) (c : Command) (field : Option (List ℕ)) → field_in line ≡ field → command_by (word_in line) field ≡ Some c → IsCommand c × (line ≡ command_text c)
unfolding alone_from with_from
by_command_field line c None e found =
    let is = looked_up_is Alone alone_words ((tt, refl), ((tt, refl), ((tt, refl), ((tt, refl), ((tt, refl), ((tt, refl), ((tt, refl), tt))))))) (word_in line) c found in
    (is.0, line_alone line e ∙ is.1)
by_command_field line c (Some field) e found =
    let p = bind_some (looked_up (word_in line) with_words) (λ read. read field) c found in
    let made_so = looked_up_is (MakesOf IsCommand command_text) with_words commands_made (word_in line) p.0 p.1 field c p.2 in
    (made_so.0, line_with line field e ∙ made_so.1)

command_takes : (line : List ℕ) (c : Command) → command_from line ≡ Some c → IsCommand c × (line ≡ command_text c)
unfolding command_from
command_takes line c h = by_command_field line c (field_in line) refl h

-- ---- what is written is read so

kind_again : (kind : Kind) → kind_from (kind_text kind) ≡ Some kind
unfolding kind_from
kind_again kinds.CreateOld = refl
kind_again kinds.Create = refl
kind_again kinds.Delete = refl
kind_again kinds.SetData = refl
kind_again kinds.SetAcl = refl
kind_again kinds.OpenSession = refl
kind_again kinds.CloseSession = refl
kind_again kinds.Error = refl
kind_again kinds.Multi = refl

id_again : (id : ℤ) → FitsSigned w64 id → whole (id_at (id_digits id)) ≡ Some id
id_again = whole_again id_digits (FitsSigned w64) id_at id_exact

path_again : (path : List ℕ) → IsListedPath path → whole (path_at (quoted path)) ≡ Some path
path_again = whole_again quoted IsListedPath path_at path_exact

breakpoint_again : (b : Breakpoint) → IsBreakpoint b → breakpoint_from (breakpoint_text b) ≡ Some b
unfolding breakpoint_from breakpoint_with word_in field_in
breakpoint_again (breakpoints.At zxid) fits = ap (made breakpoints.At) (id_again zxid fits)
breakpoint_again (breakpoints.Path path) fits = ap (made breakpoints.Path) (path_again path fits)
breakpoint_again (breakpoints.Prefix path) fits = absurd fits
breakpoint_again (breakpoints.Session session) fits = ap (made breakpoints.Session) (id_again session fits)
breakpoint_again (breakpoints.Kind kind) fits = ap (made breakpoints.Kind) (kind_again kind)
breakpoint_again breakpoints.Error fits = refl

command_again : (c : Command) → IsCommand c → command_from (command_text c) ≡ Some c
unfolding command_from alone_from with_from word_in field_in
command_again commands.Step fits = refl
command_again (commands.StepBy count) fits = absurd fits
command_again commands.Back fits = refl
command_again commands.Run fits = refl
command_again commands.RunBack fits = refl
command_again (commands.Goto zxid) fits = ap (made commands.Goto) (id_again zxid fits)
command_again commands.Tree fits = refl
command_again (commands.Node path) fits = ap (made commands.Node) (path_again path fits)
command_again commands.Last fits = refl
command_again (commands.Break breakpoint) fits = ap (made commands.Break) (breakpoint_again breakpoint fits)
command_again (commands.Clear number) fits = ap (made commands.Clear) (number_again number fits)
command_again commands.Reset fits = refl

-- ---- reading a line

said : (line : List ℕ) (c : Command) → Says line c → command_from line ≡ Some c
said line c says = ap command_from says.spelled ∙ command_again c says.fits

pub reads_command : (line : List ℕ) (r : Result Command CommandFault) → Makes r (command_from line) → ReadsCommand line r
reads_command line (Ok c) h =
    let is = command_takes line c h in
    (record { fits = is.0; spelled = is.1 }, λ other says. some_is other c (sym (said line other says) ∙ h))
reads_command line (Err faults.Malformed) h = λ c says. let bad : None ≡ Some c = sym h ∙ said line c says in cc
reads_command line (Err faults.NoMemory) h = tt

-- a single word that is not a command is a malformed line
alone_by : (read : Option Command) (r : Result Command CommandFault) → r ≡ ok_or read faults.Malformed → Makes r read
alone_by (Some c) r e = rw e refl
alone_by None r e = rw e refl

pub alone_makes : (read : Option Command) (r : Result Command CommandFault) (word : List ℕ) → read ≡ alone_from word → r ≡ ok_or read faults.Malformed → Makes r (alone_from word)
alone_makes read r word same e = subst (Makes r) same (alone_by read r e)
