-- A line with its reply, or without.
use Rattle.std.proofs.Common.{◌≡◌, ℕ, List, [], ◌∷◌, ◌++◌, Option, Some, None, Result, Ok, Err, OnOk, OnErr, refl, sym, ap, ◌∙◌}
use Rattle.zk_line_protocol.specs.Answers.{said_line}
use Rattle.zk_line_protocol.specs.Connections.{doing, when_told, IsTold}
use Rattle.zk_line_protocol.specs.declared.ask.Ask.{Ask}
use Rattle.zk_line_protocol.specs.declared.ask.Action.{Action}
use Rattle.zk_line_protocol.specs.declared.ask.Action.TheVariants as deeds
use Rattle.zk_line_protocol.specs.declared.ask.Immediate.{Immediate}
use Rattle.zk_line_protocol.specs.declared.connection_state.ConnectionState.{ConnectionState}
use Rattle.zk_line_protocol.specs.Lines.{Line, read_line}
use Rattle.zk_line_protocol.specs.ParsedLines.{text_in}
use Rattle.zk_line_protocol.specs.declared.expected_reply.ExpectedReply.{ExpectedReply}
use Rattle.zk_front.specs.Fronts.{Answer, front, line_doing}
use Rattle.zk_front.specs.Reaching.{Answers, AnswersNot}
use Rattle.zk_front.proofs.FrontLaws.{at_once, when_asked, asked_at_least, told_by}

-- the line that was read is the one that was executed
same_doing : (s s' : ConnectionState) (deed : Action) (read text : Option (List ℕ)) (l : Line) → text ≡ text_in read → doing s text ≡ (s', deed) → read ≡ read_line l → line_doing s l ≡ (s', deed)
same_doing s s' deed read text l is e same = ap (λ (r : Option (List ℕ)). doing s (text_in r)) (sym same) ∙ ap (λ (t : Option (List ℕ)). doing s t) (sym is) ∙ e

module _ {S : Type 0} (does : S → Ask → Answer → S → Type 0) where
  pub answered_told : {E : Type 0} (old new : S) (s s' s'' : ConnectionState) (ask : Ask) (wish : ExpectedReply) (told : Answer) (read text : Option (List ℕ)) (page page' : List ℕ) (r : Result (Unit {0}) E) → does old ask told new → text ≡ text_in read → doing s text ≡ (s', deeds.Asks ask wish)
      → OnOk r (IsTold (when_told s' wish told) s'' page page') → OnOk r ((l : Line) → read ≡ read_line l → Answers does old new s s'' l page page')
  answered_told old new s s' s'' ask wish told read text page page' (Ok x) d is e t = λ l same. let b = told_by (when_told s' wish told) s'' page page' t in record {
    exchanges = (ask, told) ∷ [];
    follows = (new, d, refl);
    bytes = b.0;
    out_more = b.2;
    goes = λ ls more. when_asked s s' l ask wish told (s'', b.0) ls more (same_doing s s' (deeds.Asks ask wish) read text l is e same) b.1;
  }
  answered_told old new s s' s'' ask wish told read text page page' (Err x) d is e t = tt

  pub not_answered : {E : Type 0} (old new : S) (s s' : ConnectionState) (ask : Ask) (wish : ExpectedReply) (told : Answer) (read text : Option (List ℕ)) (r : Result (Unit {0}) E) → does old ask told new → text ≡ text_in read → doing s text ≡ (s', deeds.Asks ask wish)
      → OnErr r ((l : Line) → read ≡ read_line l → AnswersNot does old new s l)
  not_answered old new s s' ask wish told read text (Ok x) d is e = tt
  not_answered old new s s' ask wish told read text (Err x) d is e = λ l same. record {
    exchanges = (ask, told) ∷ [];
    follows = (new, d, refl);
    begins = λ ls. asked_at_least s s' l ask wish told ls (same_doing s s' (deeds.Asks ask wish) read text l is e same);
  }

  pub answered_at_once : {E : Type 0} (it : S) (s s' : ConnectionState) (saying : Immediate) (read text : Option (List ℕ)) (page page' : List ℕ) (r : Result (Unit {0}) E) → text ≡ text_in read → doing s text ≡ (s', deeds.Says saying) → OnOk r (page' ≡ page ++ said_line saying)
      → OnOk r ((l : Line) → read ≡ read_line l → Answers does it it s s' l page page')
  answered_at_once it s s' saying read text page page' (Ok x) is e more = λ l same. record {
    exchanges = [];
    follows = refl;
    bytes = said_line saying;
    out_more = more;
    goes = λ ls told. at_once s s' l saying ls told (same_doing s s' (deeds.Says saying) read text l is e same);
  }
  answered_at_once it s s' saying read text page page' (Err x) is e more = tt

  -- an allocation failed, and nothing was asked
  pub not_taken : {E : Type 0} (it : S) (s : ConnectionState) (read : Option (List ℕ)) (r : Result (Unit {0}) E) → OnErr r ((l : Line) → read ≡ read_line l → AnswersNot does it it s l)
  not_taken it s read (Ok x) = tt
  not_taken it s read (Err x) = λ l same. record { exchanges = []; follows = refl; begins = λ ls. (front s (l ∷ ls) [], refl) }
