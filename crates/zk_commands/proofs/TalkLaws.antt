-- A session, turn by turn.
use Rattle.std.proofs.Common.{◌≡◌, ◌∙◌, ◌+◌, ℕ, List, [], ◌∷◌, ◌++◌, Bool, Option, Result, Ok, Err, refl, sym, ap, subst, inl, inr, append_assoc, append-nil}
use Rattle.std.specs.Io.KnownBytes.{Appends}
use Rattle.zk_records.specs.Sinks.{write_failures_of}
use Rattle.zk_log.specs.Devices.{read_failures_of}
use Rattle.zk_records.specs.declared.sink.Sink.{Sink}
use Rattle.zk_log.specs.declared.source.Source.{Source}
use Rattle.zk_commands.specs.Prompts.{prompt_text}
use Rattle.zk_commands.specs.declared.session.Session.{Session}
use Rattle.zk_commands.specs.declared.session.TalkFault.{TalkFault}
use Rattle.zk_commands.specs.declared.session.TalkFault.TheVariants as faults
use Rattle.zk_commands.specs.declared.session.Turn.TheVariants as turns
use Rattle.zk_commands.specs.HearingLines.{ReadsSo}
use Rattle.zk_commands.specs.Lines.{HearsLines}
use Rattle.zk_commands.specs.Talking.{AnswersHeard, Exchanges, TakesTurn, Talked, Talks, WritesSo, last_turn}
use Rattle.zk_commands.proofs.BytesLaws.{appended_nothing, appended_more}
use Rattle.zk_commands.proofs.LineLaws.{no_lines, one_more_line}

-- n lines were read, and their output written
pub record Reached (prompts : Bool) (old : Session) (left left' before after : Option (List ℕ)) (new : Session) : Type 0 where
  pub lines : List (List ℕ)
  pub heard : HearsLines left left' lines
  pub text : List ℕ
  pub talks : Talks prompts old lines text new
  pub wrote : Appends before after text

pub none_yet : (prompts : Bool) (old : Session) (left before : Option (List ℕ)) → Reached prompts old left left before before old
none_yet prompts old left before = record { lines = []; heard = no_lines left; text = []; talks = (refl, refl); wrote = appended_nothing before }

module _ (prompts : Bool) (line answer : List ℕ) (between new : Session) (one : AnswersHeard between line answer turns.GoesOn new) where
  talks_more : (old : Session) (lines : List (List ℕ)) (text : List ℕ) → Talks prompts old lines text between → Talks prompts old (lines ++ line ∷ []) (text ++ (prompt_text prompts between.debugger ++ answer)) new
  talks_more old [] text h = (
    answer,
    [],
    new,
    ap (λ (l : List ℕ). l ++ (prompt_text prompts between.debugger ++ answer)) h.0
        ∙ ap (λ (s : Session). prompt_text prompts s.debugger ++ answer) h.1
        ∙ ap (λ (l : List ℕ). prompt_text prompts old.debugger ++ l) (sym (append-nil answer)),
    subst (λ (s : Session). AnswersHeard s line answer turns.GoesOn new) h.1 one,
    (refl, refl),
  )
  talks_more old (first ∷ lines) text h =
      let one_turn = prompt_text prompts between.debugger ++ answer in
      let prompt = prompt_text prompts old.debugger in (
        h.0,
        h.1 ++ one_turn,
        h.2,
        ap (λ (l : List ℕ). l ++ one_turn) h.3 ∙ append_assoc prompt (h.0 ++ h.1) one_turn ∙ ap (λ (l : List ℕ). prompt ++ l) (append_assoc h.0 h.1 one_turn),
        h.4,
        talks_more h.2 lines h.1 h.5,
      )

module _ (prompts : Bool) (old : Session) (left middle left' before mid after : Option (List ℕ)) (between new : Session) (h : Reached prompts old left middle before mid between) where
  -- one more turn
  pub one_more_turn : Exchanges prompts between middle left' mid after turns.GoesOn new → Reached prompts old left left' before after new
  one_more_turn one = record {
    lines = h.lines ++ one.line ∷ [];
    heard = one_more_line left middle left' h.lines h.heard one.line one.heard;
    text = h.text ++ (prompt_text prompts between.debugger ++ one.answer);
    talks = talks_more prompts one.line one.answer between new one.answers old h.lines h.text h.talks;
    wrote = appended_more before mid after h.text (prompt_text prompts between.debugger ++ one.answer) h.wrote one.wrote;
  }

  -- the last turn
  pub talked : (result : Result (Unit {0}) TalkFault) → TakesTurn prompts between middle left' mid after (last_turn result) new → Talked prompts old left left' before after result new
  talked result last = record {
    lines = h.lines;
    left_then = middle;
    heard = h.heard;
    text = h.text;
    at = between;
    talks = h.talks;
    written_then = mid;
    wrote = h.wrote;
    last = last;
  }

-- ---- devices, after turns in which none failed

pub reads_then : (T U : Type 0) {R : Type 0} (old middle new : Source R) (fault : TalkFault) → read_failures_of middle ≡ read_failures_of old → ReadsSo {T = T} middle (Err fault) new → ReadsSo {T = U} old (Err fault) new
reads_then T U old middle new faults.Read e (inl h) = inl (h ∙ ap (λ (n : ℕ). n + 1) e)
reads_then T U old middle new faults.Read e (inr h) = inr (h.0 ∙ e, h.1)
reads_then T U old middle new faults.Write e h = h ∙ e
reads_then T U old middle new faults.NoMemory e h = h ∙ e

pub writes_then : (T U : Type 0) {W : Type 0} (old middle new : Sink W) (fault : TalkFault) → write_failures_of middle ≡ write_failures_of old → WritesSo {T = T} middle (Err fault) new → WritesSo {T = U} old (Err fault) new
writes_then T U old middle new faults.Read e h = h ∙ e
writes_then T U old middle new faults.Write e h = h ∙ ap (λ (n : ℕ). n + 1) e
writes_then T U old middle new faults.NoMemory e h = h ∙ e
