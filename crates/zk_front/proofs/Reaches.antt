-- The progress of a connection.
use Rattle.std.proofs.Common.{◌≡◌, ℕ, ◌<◌, List, [], ◌∷◌, ◌++◌, Bool, true, false, length, Option, Some, None, Result, Ok, Err, refl, sym, ap, subst, ◌∙◌, append_assoc, append-nil, length-append, arith}
use Rattle.std.specs.Io.KnownBytes.{Appends}
use Rattle.std.specs.String.{string_bytes}
use Rattle.std.proofs.KnownBytes.{Appends-trans}
use Rattle.std.proofs.lemmas.List.{map-append}
use Rattle.std.proofs.lemmas.List.Elements.{filter-append}
use Rattle.zk_records.specs.Sinks.{AppendsSome}
use Rattle.zk_line_protocol.specs.Lines.{Line, line, lines_in, IsUnended}
use Rattle.zk_line_protocol.specs.Connections.{fresh}
use Rattle.zk_line_protocol.specs.declared.connection_state.ConnectionState.{ConnectionState}
use Rattle.zk_front.specs.Fronts.{Answer, Output, joined, front}
use Rattle.zk_front.specs.Serving.{Exchange, asked_in, told_in, Begins, IsWhole}
use Rattle.zk_line_protocol.specs.Pendings.{Holds}
use Rattle.zk_front.specs.Reaching.{Answers, AnswersNot, Reached, Stopped, Ended, EndsLine, Flushes, AtEnd}
use Rattle.zk_front.specs.declared.fault.FrontFault.{FrontFault}
use Rattle.zk_front.specs.declared.fault.FrontFault.TheVariants as faults
use Rattle.zk_line_protocol.specs.declared.ask.Ask.{Ask}
use Rattle.zk_front.specs.declared.connection.Connection.{Connection}
use Rattle.zk_line_protocol.proofs.LineLaws.{one_line, last_line, no_line, unended_more}
use Rattle.zk_front.proofs.FrontLaws.{joined_joined, follows_more}

told_more : (xs ys : List Exchange) (told : List Answer) → told_in (xs ++ ys) ++ told ≡ told_in xs ++ (told_in ys ++ told)
told_more xs ys told = ap (λ (l : List Answer). l ++ told) (map-append (λ x. x.1) xs ys) ∙ append_assoc (told_in xs) (told_in ys) told

asked_more : (xs ys : List Exchange) → asked_in (xs ++ ys) ≡ asked_in xs ++ asked_in ys
asked_more xs ys = map-append (λ x. x.0) xs ys

pub appends_nothing : (c : Option (List ℕ)) → Appends c c []
appends_nothing None = tt
appends_nothing (Some xs) = sym (append-nil xs)

pub no_more : (asked : List Ask) (bytes : List ℕ) (s : ConnectionState) → joined asked bytes (front s [] []) ≡ (asked, bytes)
unfolding front
no_more asked bytes s = rw (append-nil asked, append-nil bytes) refl

-- a pair of asks and bytes is asks and is bytes
pub whole_by : (ls : List Line) (xs : List Exchange) (written : List ℕ) → front fresh ls (told_in xs) ≡ (asked_in xs, written) → IsWhole ls xs written
whole_by ls xs written e = (ap (λ (x : Output). x.0) (sym e), ap (λ (x : Output). x.1) (sym e))

whole_last : (text : List ℕ) → IsUnended text → 0 < length text → lines_in text ≡ line text false ∷ []
whole_last [] u some = absurd (omega arith)
whole_last (b ∷ bs) u some = last_line b bs u

module _ {S : Type 0} (does : S → Ask → Answer → S → Type 0) (service0 : S) (contents0 : Option (List ℕ)) where
  -- more bytes of a line arrived
  pub bytes_came : (read text : List ℕ) (it it' : Connection) (service : S) (contents : Option (List ℕ)) → Reached does service0 contents0 read it service contents → IsUnended text
      → ((partial : List ℕ) → Holds it.pending partial → Holds it'.pending (partial ++ text)) → it'.standing ≡ it.standing → string_bytes it'.page ≡ string_bytes it.page → it'.lines ≡ it.lines
      → Reached does service0 contents0 (read ++ text) it' service contents
  bytes_came read text it it' service contents h u holds same_standing same_page same_lines = record {
    done = h.done;
    partial = h.partial ++ text;
    lines = λ more. ap lines_in (append_assoc read text more) ∙ h.lines (text ++ more) ∙ ap (λ (l : List ℕ). h.done ++ lines_in l) (sym (append_assoc h.partial text more));
    unended = unended_more h.partial text h.unended u;
    ended = h.ended;
    holds = holds h.partial h.holds;
    exchanges = h.exchanges;
    follows = h.follows;
    written = h.written;
    appended = h.appended;
    goes = λ ls told. rw (same_standing, same_page) (h.goes ls told);
    counted = same_lines ∙ h.counted;
  }

  -- the buffer was written
  pub page_written : (read : List ℕ) (it it' : Connection) (service : S) (contents contents' : Option (List ℕ)) → Reached does service0 contents0 read it service contents → Flushes it contents it' contents' → Reached does service0 contents0 read it' service contents'
  page_written read it it' service contents contents' h f = record {
    done = h.done;
    partial = h.partial;
    lines = h.lines;
    unended = h.unended;
    ended = h.ended;
    holds = rw f.pending h.holds;
    exchanges = h.exchanges;
    follows = h.follows;
    written = h.written ++ string_bytes it.page;
    appended = Appends-trans contents0 contents contents' h.written (string_bytes it.page) h.appended f.wrote;
    goes = λ ls told. rw (f.standing, f.empty, append-nil (h.written ++ string_bytes it.page)) (h.goes ls told);
    counted = f.lines ∙ h.counted;
  }

  module _ (read : List ℕ) (it : Connection) (service : S) (contents : Option (List ℕ)) (h : Reached does service0 contents0 read it service contents) where
    -- a prefix of the buffer is written, and the rest may not be
    stopped_by : (more : List ℕ) (contents' : Option (List ℕ)) (bytes rest : List ℕ) → string_bytes it.page ≡ bytes ++ rest → Appends contents contents' bytes → Stopped does service0 contents0 (read ++ more) service contents'
    stopped_by more contents' bytes rest split appended = record {
      exchanges = h.exchanges;
      follows = h.follows;
      written = h.written ++ bytes;
      appended = Appends-trans contents0 contents contents' h.written bytes h.appended appended;
      begins =
          let later : Output = front it.standing (lines_in (h.partial ++ more)) [] in (
            ([] ++ later.0, rest ++ later.1),
            ap (λ (told : List Answer). front fresh (lines_in (read ++ more)) told) (sym (append-nil (told_in h.exchanges))) ∙ ap (λ (ls : List Line). front fresh ls (told_in h.exchanges ++ [])) (h.lines more)
                ∙ h.goes (lines_in (h.partial ++ more)) [] ∙ ap (λ (l : List ℕ). joined (asked_in h.exchanges) l later) (ap (λ (p : List ℕ). h.written ++ p) split ∙ sym (append_assoc h.written bytes rest))
                ∙ ap (λ (l : List ℕ). (asked_in h.exchanges ++ later.0, l)) (append_assoc (h.written ++ bytes) rest later.1),
          );
    }

    pub broke_off : (more : List ℕ) (contents' : Option (List ℕ)) → AppendsSome contents contents' (string_bytes it.page) → Stopped does service0 contents0 (read ++ more) service contents'
    broke_off more contents' s = stopped_by more contents' s.0 s.1.0 s.1.2 s.1.3

    pub stopped_here : (more : List ℕ) → Stopped does service0 contents0 (read ++ more) service contents
    stopped_here more = stopped_by more contents [] (string_bytes it.page) refl (appends_nothing contents)

    -- the asks and results of one more line
    module _ (service' : S) (ls : List Line) (xs : List Exchange) (told : List Answer) where
      later_told : front fresh (h.done ++ ls) (told_in (h.exchanges ++ xs) ++ told) ≡ joined (asked_in h.exchanges) (h.written ++ string_bytes it.page) (front it.standing ls (told_in xs ++ told))
      later_told = ap (λ (t : List Answer). front fresh (h.done ++ ls) t) (told_more h.exchanges xs told) ∙ h.goes ls (told_in xs ++ told)

    -- a line has no reply, and others may come after it
    module _ (service' : S) (ended : Bool) (a : AnswersNot does service service' it.standing (line h.partial ended)) (later : List Line) where
      not_answered_begins : Begins (front fresh (h.done ++ line h.partial ended ∷ later) (told_in (h.exchanges ++ a.exchanges))) (asked_in (h.exchanges ++ a.exchanges)) h.written
      not_answered_begins =
          let b = a.begins later in (
            (b.0.0, string_bytes it.page ++ b.0.1),
            ap (λ (t : List Answer). front fresh (h.done ++ line h.partial ended ∷ later) t) (map-append (λ x. x.1) h.exchanges a.exchanges)
                ∙ h.goes (line h.partial ended ∷ later) (told_in a.exchanges)
                ∙ ap (λ (x : Output). joined (asked_in h.exchanges) (h.written ++ string_bytes it.page) x) b.1
                ∙ joined_joined (asked_in h.exchanges) (asked_in a.exchanges) (h.written ++ string_bytes it.page) [] b.0
                ∙ ap (λ (l : List Ask). joined l ((h.written ++ string_bytes it.page) ++ []) b.0) (sym (asked_more h.exchanges a.exchanges))
                ∙ ap (λ (l : List ℕ). (asked_in (h.exchanges ++ a.exchanges) ++ b.0.0, l)) (ap (λ (l : List ℕ). l ++ b.0.1) (append-nil (h.written ++ string_bytes it.page)) ∙ append_assoc h.written (string_bytes it.page) b.0.1),
          )

    pub line_not_answered : (service' : S) → AnswersNot does service service' it.standing (line h.partial true) → (more : List ℕ) → Stopped does service0 contents0 (read ++ 10 ∷ more) service' contents
    line_not_answered service' a more = record {
      exchanges = h.exchanges ++ a.exchanges;
      follows = follows_more does service0 service service' h.exchanges a.exchanges h.follows a.follows;
      written = h.written;
      appended = h.appended;
      begins = subst (λ (ls : List Line). Begins (front fresh ls (told_in (h.exchanges ++ a.exchanges))) (asked_in (h.exchanges ++ a.exchanges)) h.written)
          (sym (h.lines (10 ∷ more) ∙ ap (λ (ls : List Line). h.done ++ ls) (one_line h.partial more h.unended))) (not_answered_begins service' true a (lines_in more));
    }

    -- a line has its reply
    module _ (it' : Connection) (service' : S) (ended : Bool) (a : Answers does service service' it.standing it'.standing (line h.partial ended) (string_bytes it.page) (string_bytes it'.page)) where
      pub answered_goes : (ls : List Line) (told : List Answer) → front fresh (h.done ++ line h.partial ended ∷ ls) (told_in (h.exchanges ++ a.exchanges) ++ told) ≡ joined (asked_in (h.exchanges ++ a.exchanges)) (h.written ++ string_bytes it'.page) (front it'.standing ls told)
      answered_goes ls told =
          ap (λ (t : List Answer). front fresh (h.done ++ line h.partial ended ∷ ls) t) (told_more h.exchanges a.exchanges told)
          ∙ h.goes (line h.partial ended ∷ ls) (told_in a.exchanges ++ told)
          ∙ ap (λ (x : Output). joined (asked_in h.exchanges) (h.written ++ string_bytes it.page) x) (a.goes ls told)
          ∙ joined_joined (asked_in h.exchanges) (asked_in a.exchanges) (h.written ++ string_bytes it.page) a.bytes (front it'.standing ls told)
          ∙ ap (λ (l : List Ask). joined l ((h.written ++ string_bytes it.page) ++ a.bytes) (front it'.standing ls told)) (sym (asked_more h.exchanges a.exchanges))
          ∙ ap (λ (l : List ℕ). joined (asked_in (h.exchanges ++ a.exchanges)) l (front it'.standing ls told)) (append_assoc h.written (string_bytes it.page) a.bytes ∙ ap (λ (l : List ℕ). h.written ++ l) (sym a.out_more))

    pub line_answered : (it' : Connection) (service' : S) → EndsLine does it service true it' service' → Reached does service0 contents0 (read ++ 10 ∷ []) it' service' contents
    line_answered it' service' e = let a = e.answers h.partial h.holds in record {
      done = h.done ++ line h.partial true ∷ [];
      partial = [];
      lines = λ more. ap lines_in (append_assoc read (10 ∷ []) more) ∙ h.lines (10 ∷ more) ∙ ap (λ (ls : List Line). h.done ++ ls) (one_line h.partial more h.unended) ∙ sym (append_assoc h.done (line h.partial true ∷ []) (lines_in more));
      unended = tt;
      ended = filter-append (λ l. l.ended) h.done (line h.partial true ∷ []) ∙ ap (λ (ls : List Line). ls ++ line h.partial true ∷ []) h.ended;
      holds = e.next;
      exchanges = h.exchanges ++ a.exchanges;
      follows = follows_more does service0 service service' h.exchanges a.exchanges h.follows a.follows;
      written = h.written;
      appended = h.appended;
      goes = λ ls told. ap (λ (l : List Line). front fresh l (told_in (h.exchanges ++ a.exchanges) ++ told)) (append_assoc h.done (line h.partial true ∷ []) ls) ∙ answered_goes it' service' true a ls told;
      counted = omega (arith, e.counted, h.counted, length-append h.done (line h.partial true ∷ []));
    }

    -- ---- the end of the input

    pub lines_to_end : lines_in read ≡ h.done ++ lines_in h.partial
    lines_to_end = ap lines_in (sym (append-nil read)) ∙ h.lines [] ∙ ap (λ (l : List ℕ). h.done ++ lines_in l) (append-nil h.partial)

    pub nothing_left : h.partial ≡ [] → AtEnd does service0 contents0 read it service contents
    nothing_left none =
        let all : lines_in read ≡ h.done ++ [] = lines_to_end ∙ ap (λ (l : List ℕ). h.done ++ lines_in l) none ∙ ap (λ (ls : List Line). h.done ++ ls) no_line in record {
          exchanges = h.exchanges;
          follows = h.follows;
          written = h.written;
          appended = h.appended;
          answered = ap (λ (ls : List Line). front fresh ls (told_in h.exchanges)) all ∙ ap (λ (t : List Answer). front fresh (h.done ++ []) t) (sym (append-nil (told_in h.exchanges))) ∙ h.goes [] [] ∙ no_more (asked_in h.exchanges) (h.written ++ string_bytes it.page) it.standing;
          counted = h.counted ∙ ap length (sym (append-nil h.done)) ∙ ap length (sym all);
        }

    pub last_answered : (it' : Connection) (service' : S) → 0 < length h.partial → EndsLine does it service false it' service' → AtEnd does service0 contents0 read it' service' contents
    last_answered it' service' some e =
        let a = e.answers h.partial h.holds in
        let all : lines_in read ≡ h.done ++ line h.partial false ∷ [] = lines_to_end ∙ ap (λ (ls : List Line). h.done ++ ls) (whole_last h.partial h.unended some) in record {
          exchanges = h.exchanges ++ a.exchanges;
          follows = follows_more does service0 service service' h.exchanges a.exchanges h.follows a.follows;
          written = h.written;
          appended = h.appended;
          answered = ap (λ (ls : List Line). front fresh ls (told_in (h.exchanges ++ a.exchanges))) all ∙ ap (λ (t : List Answer). front fresh (h.done ++ line h.partial false ∷ []) t) (sym (append-nil (told_in (h.exchanges ++ a.exchanges)))) ∙ answered_goes it' service' false a [] []
              ∙ no_more (asked_in (h.exchanges ++ a.exchanges)) (h.written ++ string_bytes it'.page) it'.standing;
          counted = e.counted ∙ omega (arith, h.counted, length-append h.done (line h.partial false ∷ [])) ∙ ap length (sym all);
        }

    pub last_not_answered : (service' : S) → 0 < length h.partial → AnswersNot does service service' it.standing (line h.partial false) → Ended does service0 contents0 read service' contents (Err faults.NoMemory)
    last_not_answered service' some a = record {
      exchanges = h.exchanges ++ a.exchanges;
      follows = follows_more does service0 service service' h.exchanges a.exchanges h.follows a.follows;
      written = h.written;
      appended = h.appended;
      served = subst (λ (ls : List Line). Begins (front fresh ls (told_in (h.exchanges ++ a.exchanges))) (asked_in (h.exchanges ++ a.exchanges)) h.written)
          (sym (lines_to_end ∙ ap (λ (ls : List Line). h.done ++ ls) (whole_last h.partial h.unended some))) (not_answered_begins service' false a []);
    }

module _ {S : Type 0} (does : S → Ask → Answer → S → Type 0) (service0 : S) (contents0 : Option (List ℕ)) (read : List ℕ) (it : Connection) (service : S) (contents : Option (List ℕ)) (h : AtEnd does service0 contents0 read it service contents) where
  pub all_written : (it' : Connection) (contents' : Option (List ℕ)) → Flushes it contents it' contents' → Ended does service0 contents0 read service contents' (Ok it'.lines)
  all_written it' contents' f = record {
    exchanges = h.exchanges;
    follows = h.follows;
    written = h.written ++ string_bytes it.page;
    appended = Appends-trans contents0 contents contents' h.written (string_bytes it.page) h.appended f.wrote;
    served = (f.lines ∙ h.counted, whole_by (lines_in read) h.exchanges (h.written ++ string_bytes it.page) h.answered);
  }

  pub not_written : (contents' : Option (List ℕ)) → AppendsSome contents contents' (string_bytes it.page) → Ended does service0 contents0 read service contents' (Err faults.Write)
  not_written contents' s = record {
    exchanges = h.exchanges;
    follows = h.follows;
    written = h.written ++ s.0;
    appended = Appends-trans contents0 contents contents' h.written s.0 h.appended s.1.3;
    served = (([], s.1.0), h.answered ∙ rw (append-nil (asked_in h.exchanges)) (ap (λ (l : List ℕ). (asked_in h.exchanges, l)) (ap (λ (p : List ℕ). h.written ++ p) s.1.2 ∙ sym (append_assoc h.written s.0 s.1.0))));
  }

-- the cases of a result that `?` passes on
pub by_fault : {T : Type 0} (P : Result T FrontFault → Type 0) (r : Result T FrontFault) (e : FrontFault) → r ≡ Err e → P (Err e) → P r
by_fault {T} P r e is p = subst (λ (x : Result T FrontFault). P x) (sym is) p
