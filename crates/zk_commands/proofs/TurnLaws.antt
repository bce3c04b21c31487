-- A turn, by how far it went.
use Rattle.std.proofs.Common.{◌≡◌, ◌∙◌, ℕ, List, [], ◌∷◌, ◌++◌, Bool, Option, Some, None, Result, Ok, Err, refl, sym, ap, subst, inl, inr, append_assoc, append-nil}
use Rattle.std.specs.Io.KnownBytes.{Appends, Consumes, IsAtEnd}
use Rattle.zk_records.specs.Sinks.{writer_of, AppendsSome}
use Rattle.zk_records.specs.declared.sink.Sink.{Sink}
use Rattle.zk_log_commands.specs.Writing.{Wrote}
use Rattle.zk_commands.specs.Prompts.{prompt_text, Puts}
use Rattle.zk_commands.specs.declared.session.Session.{Session}
use Rattle.zk_commands.specs.declared.session.TalkFault.{TalkFault}
use Rattle.zk_commands.specs.declared.session.TalkFault.TheVariants as faults
use Rattle.zk_commands.specs.declared.session.Turn.{Turn}
use Rattle.zk_commands.specs.declared.session.Turn.TheVariants as turns
use Rattle.zk_commands.specs.HearingLines.{Hears}
use Rattle.zk_commands.specs.Lines.{HearsLine}
use Rattle.zk_commands.specs.Talking.{AnswersHeard, AppendsHeard, Exchanges, IsFront, PutsAnswer, TakesTurn}
use Rattle.zk_commands.specs.declared.hearing_lines.ReadLine.TheVariants as heards
use Rattle.zk_commands.specs.declared.line.Line.{Line}
use Rattle.zk_commands.proofs.BytesLaws.{consumed_nothing, appended_kept, appended_more}

pub front_all : (text : List ℕ) → IsFront text text
front_all text = ([], sym (append-nil text))

-- a part of the output was written
pub put_broken : (old : Session) (line start end page : List ℕ) (before after : Option (List ℕ)) (turn : Turn) (new : Session) → start ≡ [] → page ≡ end → AppendsHeard old line start end turn new → AppendsSome before after page → PutsAnswer old line before after (Err faults.Write) new
put_broken old line start end page before after turn new empty same h some =
    let whole : h.answer ≡ page = sym (same ∙ h.told ∙ ap (λ (l : List ℕ). l ++ h.answer) empty) in
    (h.answer, turn, h.answers, some.0, (some.1.0, whole ∙ some.1.2), some.1.3)

module _ (prompts : Bool) (old : Session) (left : Option (List ℕ)) where
  abbrev prompt : List ℕ
  prompt = prompt_text prompts old.debugger

  -- the prompt could not be written
  pub turn_unprompted : {O : Type 0} (contents : O → Option (List ℕ)) (sink sink' : Sink O) (fault : TalkFault) → Puts contents sink prompt (Err fault) sink' → TakesTurn prompts old left left (contents (writer_of sink)) (contents (writer_of sink')) (Err fault) old
  turn_unprompted contents sink sink' faults.Read h = absurd h
  turn_unprompted contents sink sink' faults.Write h = (h.bytes.0, h.bytes.1.3, inl (consumed_nothing left, (h.bytes.1.0, h.bytes.1.2)))
  turn_unprompted contents sink sink' faults.NoMemory h =
      ([], appended_kept (contents (writer_of sink)) (contents (writer_of sink')) h.bytes, (inl (record { read = []; consumed = consumed_nothing left; unended = tt }), (prompt, refl)))

  module _ (left' before after : Option (List ℕ)) where
    -- no line was read after it
    pub turn_unheard : (it : Line) (fault : TalkFault) → Appends before after prompt → Hears left left' it (Err fault) → TakesTurn prompts old left left' before after (Err fault) old
    turn_unheard it faults.Read wrote h = (prompt, wrote, (h, refl))
    turn_unheard it faults.Write wrote h = absurd h
    turn_unheard it faults.NoMemory wrote h = (prompt, wrote, (inl h, front_all prompt))

    -- the input was at its end
    pub turn_ended : (it : Line) → Appends before after prompt → Hears left left' it (Ok heards.End) → TakesTurn prompts old left left' before after (Ok turns.Ends) old
    turn_ended it wrote h = inr (h.0, h.1, wrote, refl)

    module _ (middle : Option (List ℕ)) (wrote : Appends before middle prompt) (line : List ℕ) (heard : HearsLine left left' line) (new : Session) where
      exchanged : (turn : Turn) (answer : List ℕ) → AnswersHeard old line answer turn new → Appends middle after answer → Exchanges prompts old left left' before after turn new
      exchanged turn answer answers put = record {
        line = line;
        heard = heard;
        answer = answer;
        answers = answers;
        wrote = appended_more before middle after prompt answer wrote put;
      }

      front_more : (front answer : List ℕ) → IsFront front answer → IsFront (prompt ++ front) (prompt ++ answer)
      front_more front answer h = (h.0, ap (λ (l : List ℕ). prompt ++ l) h.1 ∙ sym (append_assoc prompt front h.0))

      -- a line was read, with this output
      pub turn_answered : (result : Result Turn TalkFault) → PutsAnswer old line middle after result new → TakesTurn prompts old left left' before after result new
      turn_answered (Ok turns.GoesOn) h = exchanged turns.GoesOn h.0 h.1 h.2
      turn_answered (Ok turns.Ends) h = inl (exchanged turns.Ends h.0 h.1 h.2)
      turn_answered (Err faults.Read) h = absurd h
      turn_answered (Err faults.Write) h = (
        prompt ++ h.3,
        appended_more before middle after prompt h.3 wrote h.5,
        inr (record { line = line; heard = heard; answer = h.0; turn = h.1; new = new; answers = h.2; front = front_more h.3 h.0 h.4 }),
      )
      turn_answered (Err faults.NoMemory) h = (prompt, subst (λ (l : List ℕ). Appends before after l) (append-nil prompt) (appended_more before middle after prompt [] wrote h), (inr (line, heard), front_all prompt))
