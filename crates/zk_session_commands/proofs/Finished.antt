-- What is known after all records, and the lines of a session's life.
use Rattle.std.proofs.Common.{◌≡◌, ℕ, Option, List, [], ◌∷◌, ◌++◌, refl, sym, ap, ◌∙◌, subst, append_assoc, append-nil}
use Rattle.std.specs.String.{string_bytes}
use Rattle.zk_newer_records.specs.declared.newer_record.NewerRecord.{NewerRecord}
use Rattle.zk_newer_records.specs.Folds.{AllFollow}
use Rattle.zk_session_commands.specs.Reports.{IsSession, IsSessions}
use Rattle.zk_session_lines.specs.Appending.{Appends}
use Rattle.zk_sessions.specs.Known.{Follows, after, after_all}
use Rattle.zk_sessions.specs.Lives.{found}
use Rattle.zk_session_lines.specs.Rows.{AreRows}
use Rattle.zk_session_commands.specs.SessionLives.{IsLifeFrom, IsSessionText}
use Rattle.zk_session_commands.specs.SessionLives as lives
use Rattle.zk_session_lines.specs.declared.line_form.LineForm.{LineForm}
use Rattle.zk_sessions.specs.declared.known.Known.{Known}
use Rattle.zk_sessions.specs.declared.session.Session.{Session}
use Rattle.zk_session_commands.specs.declared.asked_session.AskedSession.{AskedSession}
use Rattle.zk_session_commands.specs.declared.session_life.SessionLife.{SessionLife}

known_told : (start new : Known) (records : List NewerRecord) → AllFollow Follows start records new → new ≡ after_all start records
known_told start new [] e = e
known_told start new (newer ∷ records) f = known_told f.0 new records f.2 ∙ ap (λ (k : Known). after_all k records) f.1

pub sessions_told : (form : LineForm) (start new : Known) (records : List NewerRecord) (text : List ℕ) → AllFollow Follows start records new → AreRows form new.lives text → IsSessions form start records text
sessions_told form start new records text f rows = subst (λ (k : Known). AreRows form k.lives text) (known_told start new records f) rows

-- ---- the life of a session

-- a life so far leads to one after more records
record IsTold (start : SessionLife) (records : List NewerRecord) (new : SessionLife) : Type 0 where
  pub known : new.known ≡ after_all start.known records
  pub lines : Appends (IsLifeFrom start.asked.form start.asked.session start.known records) (string_bytes start.text) (string_bytes new.text)

life_told : (start new : SessionLife) (records : List NewerRecord) → AllFollow lives.Follows start records new → IsTold start records new
life_told start new [] e = record {
  known = ap (λ (s : SessionLife). s.known) e;
  lines = ([], refl, ap (λ (s : SessionLife). string_bytes s.text) e ∙ sym (append-nil (string_bytes start.text)));
}
life_told start new (newer ∷ records) f =
    let next = f.0 in
    let one = f.1 in
    let more = life_told next new records f.2 in
    let line = one.line in
    let rest = subst (λ (k : Known). IsLifeFrom start.asked.form start.asked.session k records more.lines.0) one.known
    (subst (λ (a : AskedSession). IsLifeFrom a.form a.session next.known records more.lines.0) one.asked more.lines.1) in
    record {
      known = more.known ∙ ap (λ (k : Known). after_all k records) one.known;
      lines = (line.0 ++ more.lines.0, (line.0, more.lines.0, line.1, rest, refl), more.lines.2 ∙ ap (λ (l : List ℕ). l ++ more.lines.0) line.2 ∙ append_assoc (string_bytes start.text) line.0 more.lines.0);
    }

pub session_told : (asked : AskedSession) (known : Known) (start new folded : SessionLife) (records : List NewerRecord) (life : Option Session) (lines text : List ℕ) → start.asked ≡ asked → start.known ≡ known → string_bytes start.text ≡ [] → AllFollow lives.Follows start records folded
    → IsSessionText asked.form asked.session life lines text → folded ≡ new → life ≡ found new.known.lives asked.session → lines ≡ string_bytes new.text → IsSession asked.form asked.session known records text
session_told asked known start new folded records life lines text of_asked of_known empty f h same of_life of_lines =
    let told = life_told start new records (subst (λ (s : SessionLife). AllFollow lives.Follows start records s) same f) in
    let line_text = subst (λ (k : Known). IsLifeFrom asked.form asked.session k records told.lines.0) of_known
    (subst (λ (a : AskedSession). IsLifeFrom a.form a.session start.known records told.lines.0) of_asked told.lines.1) in
    let is : lines ≡ told.lines.0 = of_lines ∙ told.lines.2 ∙ ap (λ (l : List ℕ). l ++ told.lines.0) empty in
    let after_known : new.known ≡ after_all known records = told.known ∙ ap (λ (k : Known). after_all k records) of_known in
    let known_life : life ≡ found (after_all known records).lives asked.session = of_life ∙ ap (λ (k : Known). found k.lives asked.session) after_known in (
      told.lines.0,
      line_text,
      subst (λ (l : List ℕ). IsSessionText asked.form asked.session (found (after_all known records).lives asked.session) l text) is
          (subst (λ (o : Option Session). IsSessionText asked.form asked.session o lines text) known_life h),
    )
