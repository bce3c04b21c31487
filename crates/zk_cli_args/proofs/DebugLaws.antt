-- The debugger that words name.
use Rattle.std.proofs.Common.{◌≡◌, ◌∙◌, ℕ, ◌≤◌, ◌-◌, Bool, true, false, List, [], ◌∷◌, Bor, get_or, take, drop, length, Option, Some, None, refl, sym, ap, subst, codes, arith, option_map, is_some, ◌||◌}
use Rattle.std.proofs.lemmas.List.{take_all}
use Rattle.zk_cli_args.specs.Commands.{values_of}
use Rattle.zk_cli_args.specs.Debugs.{IsOver, NamesDebugBehind, NamesDebugFrom, NamesDebugLine, NamesDebugPlain, NamesDebugPrompted, ReadsDebugAfter, ReadsDebugBehind, ReadsDebugLine, ReadsDebugNamed, ReadsDebugPrompted, ReadsDebugValues, ReadsDebugWith, SpellsFrom, debug_logs_of, debug_script_of, logged, prompted, starting}
use Rattle.zk_cli_args.specs.Ensembles.{flag_or, value_or}
use Rattle.zk_cli_args.specs.Folders.{ReadsUntil, SpellsUntil}
use Rattle.zk_cli_args.specs.Lines.{ReadsDirectoryDebug, needs_directory}
use Rattle.zk_cli_args.specs.Options.{ValueBeside, flag_in, option_in}
use Rattle.zk_cli_args.specs.declared.debugging.FolderDebug.{FolderDebug}
use Rattle.zk_cli_args.specs.declared.folders.Until.{Until}
use Rattle.zk_cli_args.proofs.WordsLaws.{no_word, texts}

named_behind : (words : List (List ℕ)) (program name : List ℕ) (rest : List (List ℕ)) (read : Option FolderDebug) → words ≡ program ∷ name ∷ rest → ReadsDebugNamed name rest read → ReadsDebugLine words read
named_behind words program name rest (Some it) e r =
    record { program = program; rest = rest; spelled = e ∙ ap (λ (n : List ℕ). program ∷ n ∷ rest) r.0; named = r.1 }
named_behind words program name rest None e r = λ it names.
    let both : program ∷ name ∷ rest ≡ names.program ∷ codes "debug" ∷ names.rest = sym e ∙ names.spelled in
    let same_name : name ≡ codes "debug" = cc both in
    let same_rest : names.rest ≡ rest = cc both in
    r it same_name (subst (λ (l : List (List ℕ)). NamesDebugBehind l it) same_rest names.named)

pub if_named : (name : List ℕ) (words : List (List ℕ)) (read : Option FolderDebug) → name ≡ codes "debug" → ReadsDebugBehind words read → ReadsDebugNamed name words read
if_named name words (Some it) e r = (e, r)
if_named name words None e r = λ it same. r it

-- after the names of the program and the command
pub from_words : (words : List (Bor (List ℕ))) (read : Option FolderDebug) → 2 ≤ length words → ReadsDebugNamed (get_or words 1 no_word).now (texts (take (length words - 2) (drop 2 words))) read
    → ReadsDebugLine (texts words) read
from_words [] read some r = absurd (omega (arith, some))
from_words (program ∷ []) read some r = absurd (omega (arith, some))
from_words (program ∷ name ∷ words) read some r =
    let rest : take (length (program ∷ name ∷ words) - 2) words ≡ words = take_all (length (program ∷ name ∷ words) - 2) words (omega arith) in
    named_behind (texts (program ∷ name ∷ words)) program.now name.now (texts words) read refl (subst (λ (l : List (Bor (List ℕ))). ReadsDebugNamed name.now (texts l) read) rest r)

-- ---- the directory of logs

logs : (given : Option (List ℕ)) (words others : List (List ℕ)) (read : Option FolderDebug) → logged words ≡ (given, others) → ReadsDebugWith given others read → ReadsDebugBehind words read
logs given words others (Some it) e r = record {
  logs = r.0 ∙ sym (ap (λ (found : Option (List ℕ) × List (List ℕ)). found.0) e);
  others = subst (λ (found : Option (List ℕ) × List (List ℕ)). NamesDebugFrom found.1 it) (sym e) r.1;
}
logs given words others None e r = λ it names. r it (subst (λ (found : Option (List ℕ) × List (List ℕ)). NamesDebugFrom found.1 it) e names.others)

pub unlogged : (words : List (List ℕ)) (read : Option FolderDebug) → option_in (codes "--logs") (codes "--logs=") words ≡ None → ReadsDebugWith None words read → ReadsDebugBehind words read
unlogged words read e r = logs None words words read (ap (λ (found : Option ValueBeside). value_or found words) e) r

pub is_logged : (words : List (List ℕ)) (given : List ℕ) (others : List (List ℕ)) (read : Option FolderDebug) → option_in (codes "--logs") (codes "--logs=") words ≡ Some (given, others) → ReadsDebugWith (Some given) others read → ReadsDebugBehind words read
is_logged words given others read e r = logs (Some given) words others read (ap (λ (found : Option ValueBeside). value_or found words) e) r

-- ---- the start

starts : (given word : Option (List ℕ)) (from : Option Until) (words others : List (List ℕ)) (read : Option FolderDebug) → starting words ≡ (word, others) → SpellsFrom word from → ReadsDebugAfter given from others read → ReadsDebugWith given words read
starts given word from words others (Some it) e spelled r = (
  r.0,
  record {
    start = subst (λ (found : Option (List ℕ) × List (List ℕ)). SpellsFrom found.0 it.from) (sym e) (subst (λ (f : Option Until). SpellsFrom word f) (sym r.1) spelled);
    others = subst (λ (found : Option (List ℕ) × List (List ℕ)). NamesDebugPrompted found.1 it) (sym e) r.2;
  },
)
starts given word from words others None e spelled r = λ it names. r it (subst (λ (found : Option (List ℕ) × List (List ℕ)). NamesDebugPrompted found.1 it) e names.others)

pub from_snapshot : (given : Option (List ℕ)) (words : List (List ℕ)) (read : Option FolderDebug) → option_in (codes "--from") (codes "--from=") words ≡ None → ReadsDebugAfter given None words read → ReadsDebugWith given words read
from_snapshot given words read e r = starts given None None words words read (ap (λ (found : Option ValueBeside). value_or found words) e) refl r

pub is_from : (given : Option (List ℕ)) (words : List (List ℕ)) (word : List ℕ) (others : List (List ℕ)) (from : Until) (read : Option FolderDebug) → option_in (codes "--from") (codes "--from=") words ≡ Some (word, others)
    → ReadsUntil word (Some from) → ReadsDebugAfter given (Some from) others read → ReadsDebugWith given words read
is_from given words word others from read e spelled r = starts given (Some word) (Some from) words others read (ap (λ (found : Option ValueBeside). value_or found words) e) spelled r

no_start : (word : List ℕ) (from : Option Until) → ReadsUntil word None → SpellsFrom (Some word) from → ⊥
no_start word None none spelled = spelled
no_start word (Some from) none spelled = none from spelled

pub has_no_start : (given : Option (List ℕ)) (words : List (List ℕ)) (word : List ℕ) (others : List (List ℕ)) → option_in (codes "--from") (codes "--from=") words ≡ Some (word, others)
    → ReadsUntil word None → ReadsDebugWith given words None
has_no_start given words word others e none = λ it names.
    no_start word it.from none (subst (λ (found : Option ValueBeside). SpellsFrom (value_or found words).0 it.from) e names.start)

-- ---- the flag

flags : (given : Option (List ℕ)) (from : Option Until) (flag : Bool) (words others : List (List ℕ)) (read : Option FolderDebug) → prompted words ≡ (flag, others) → ReadsDebugPrompted given from flag others read → ReadsDebugAfter given from words read
flags given from flag words others (Some it) e r = (
  r.0,
  r.1,
  record {
    flag = r.2 ∙ sym (ap (λ (found : Bool × List (List ℕ)). found.0) e);
    others = subst (λ (found : Bool × List (List ℕ)). NamesDebugPlain found.1 it) (sym e) r.3;
  },
)
flags given from flag words others None e r = λ it names.
    r it (names.flag ∙ ap (λ (found : Bool × List (List ℕ)). found.0) e) (subst (λ (found : Bool × List (List ℕ)). NamesDebugPlain found.1 it) e names.others)

pub unprompted : (given : Option (List ℕ)) (from : Option Until) (words : List (List ℕ)) (read : Option FolderDebug) → flag_in (codes "--prompt") words ≡ None → ReadsDebugPrompted given from false words read → ReadsDebugAfter given from words read
unprompted given from words read e r = flags given from false words words read (ap (λ (found : Option (List (List ℕ))). flag_or found words) e) r

pub is_prompted : (given : Option (List ℕ)) (from : Option Until) (words others : List (List ℕ)) (read : Option FolderDebug) → flag_in (codes "--prompt") words ≡ Some others → ReadsDebugPrompted given from true others read → ReadsDebugAfter given from words read
is_prompted given from words others read e r = flags given from true words others read (ap (λ (found : Option (List (List ℕ))). flag_or found words) e) r

-- ---- the values

of_given : (given : Option (List ℕ)) (from : Option Until) (prompts : Bool) (words values : List (List ℕ)) (read : Option FolderDebug) → values_of words ≡ Some values → ReadsDebugValues given from prompts values read → ReadsDebugPrompted given from prompts words read
of_given given from prompts words values (Some it) e r =
    (r.0, r.1, r.2, record { values = values; given = e; named = subst (λ (p : Bool). IsOver p values it.folder.now (debug_script_of it)) (sym r.2) r.3 })
of_given given from prompts words values None e r = λ it same names.
    let values' : names.values ≡ values = cc (sym names.given ∙ e) in
    r it.folder.now (debug_script_of it) (subst (λ (p : Bool). IsOver p values it.folder.now (debug_script_of it)) same (subst (λ (l : List (List ℕ)). IsOver it.prompts l it.folder.now (debug_script_of it)) values' names.named))

pub of_values : (given : Option (List ℕ)) (from : Option Until) (prompts : Bool) (words values : List (List ℕ)) (read : Option FolderDebug) → values_of words ≡ Some values → ReadsDebugValues given from prompts values read → ReadsDebugPrompted given from prompts words read
of_values given from prompts words values read e r = of_given given from prompts words values read e r

pub has_no_values : (given : Option (List ℕ)) (from : Option Until) (prompts : Bool) (words : List (List ℕ)) → values_of words ≡ None → ReadsDebugPrompted given from prompts words None
has_no_values given from prompts words e = λ it same names. absurd (cc (sym e ∙ names.given))

-- ---- what only a directory has

has_some : (x : Option (Bor (List ℕ))) (word : Option (List ℕ)) → option_map (λ (w : Bor (List ℕ)). w.now) x ≡ word → is_some x ≡ is_some word
has_some None None e = refl
has_some None (Some w) e = absurd (cc e)
has_some (Some x) None e = absurd (cc e)
has_some (Some x) (Some w) e = refl

has_from : (word : Option (List ℕ)) (from : Option Until) → SpellsFrom word from → is_some from ≡ is_some word
has_from None from e = ap is_some e
has_from (Some word) None e = absurd e
has_from (Some word) (Some from) e = refl

need : (words : List (List ℕ)) (it : FolderDebug) → NamesDebugBehind words it → needs_directory it ≡ (is_some (logged words).0 || is_some (starting (logged words).1).0)
need words it p =
    let logs : is_some it.logs ≡ is_some (logged words).0 = has_some it.logs (logged words).0 p.logs in
    let from : is_some it.from ≡ is_some (starting (logged words).1).0 = has_from (starting (logged words).1).0 it.from p.others.start in
    ap (λ (b : Bool). b || is_some it.from) logs ∙ ap (λ (b : Bool). is_some (logged words).0 || b) from

both_need : (words : List (List ℕ)) (it other : FolderDebug) → NamesDebugLine words it → NamesDebugLine words other → needs_directory it ≡ needs_directory other
both_need words it other p q =
    let both : p.program ∷ codes "debug" ∷ p.rest ≡ q.program ∷ codes "debug" ∷ q.rest = sym p.spelled ∙ q.spelled in
    let rest : q.rest ≡ p.rest = cc both in
    need p.rest it p.named ∙ sym (need p.rest other (subst (λ (r : List (List ℕ)). NamesDebugBehind r other) rest q.named))

pub same_need : (words : List (List ℕ)) (it : FolderDebug) → ReadsDebugLine words (Some it) → needs_directory it ≡ false → ReadsDirectoryDebug words None
same_need words it p none = λ other q. sym (both_need words it other p q) ∙ none

pub no_line : (words : List (List ℕ)) → ReadsDebugLine words None → ReadsDirectoryDebug words None
no_line words none = λ it p. absurd (none it p)
