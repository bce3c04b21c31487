-- Serving, by the result of its last read.
use Rattle.std.proofs.Common.{◌≡◌, ℕ, List, [], ◌∷◌, ◌++◌, Option, Some, None, Result, Ok, Err, refl, sym, ap, subst, ◌∙◌, append_assoc, append-nil}
use Rattle.std.specs.Prelude.{IfErr, IfOk}
use Rattle.std.specs.List.{filter}
use Rattle.std.specs.Io.KnownBytes.{Consumes, Keeps, IsAtEnd}
use Rattle.std.specs.String.{string_bytes}
use Rattle.std.proofs.lemmas.List.Elements.{filter-append}
use Rattle.zk_line_protocol.specs.Lines.{Line, lines_in, ended_in, IsUnended}
use Rattle.zk_line_protocol.specs.Connections.{fresh}
use Rattle.zk_line_protocol.specs.declared.connection_state.ConnectionState.{ConnectionState}
use Rattle.zk_front.specs.Fronts.{Answer, front}
use Rattle.zk_front.specs.Serving.{asked_in, told_in, Serves, reads_failed}
use Rattle.zk_front.specs.Reaching.{Reached, Stopped, Ended, IsStop, IsFresh}
use Rattle.zk_front.specs.declared.fault.FrontFault.{FrontFault}
use Rattle.zk_front.specs.declared.fault.FrontFault.TheVariants as faults
use Rattle.zk_line_protocol.specs.declared.ask.Ask.{Ask}
use Rattle.zk_front.specs.declared.connection.Connection.{Connection}
use Rattle.zk_line_protocol.proofs.LineLaws.{last_line, no_line}
use Rattle.zk_front.proofs.Reaches.{lines_to_end, no_more, appends_nothing, whole_by}

-- ---- reads

pub consumed_more : (a b c : Option (List ℕ)) (front piece : List ℕ) → Consumes a b front → Consumes b c piece → Consumes a c (front ++ piece)
consumed_more None b c front piece p q = tt
consumed_more (Some xs) None c front piece p q = absurd p
consumed_more (Some xs) (Some ys) None front piece p q = absurd q
consumed_more (Some xs) (Some ys) (Some zs) front piece p q = p ∙ ap (λ (l : List ℕ). front ++ l) q ∙ sym (append_assoc front piece zs)

pub consumed_same : (a b c : Option (List ℕ)) (front : List ℕ) → Consumes a b front → Keeps b c → Consumes a c front
consumed_same None b c front p q = tt
consumed_same (Some xs) None c front p q = absurd p
consumed_same (Some xs) (Some ys) None front p q = absurd q
consumed_same (Some xs) (Some ys) (Some zs) front p q = p ∙ ap (λ (l : List ℕ). front ++ l) (sym q)

pub consumed_nothing : (a : Option (List ℕ)) → Consumes a a []
consumed_nothing None = tt
consumed_nothing (Some xs) = refl

none_ended : (text : List ℕ) → IsUnended text → filter (λ l. l.ended) (lines_in text) ≡ []
none_ended [] u = ap (filter (λ (l : Line). l.ended)) no_line
none_ended (b ∷ bs) u = ap (filter (λ (l : Line). l.ended)) (last_line b bs u)

module _ {S : Type 0} (does : S → Ask → Answer → S → Type 0) where
  pub begun : (it : Connection) (service : S) (contents : Option (List ℕ)) → IsFresh it → Reached does service contents [] it service contents
  begun it service contents f = record {
    done = [];
    partial = [];
    lines = λ more. refl;
    unended = tt;
    ended = refl;
    holds = f.holds;
    exchanges = [];
    follows = refl;
    written = [];
    appended = appends_nothing contents;
    goes = λ ls told. rw (f.standing, f.page) refl;
    counted = f.lines;
  }

  module _ (service0 : S) (contents0 : Option (List ℕ)) (read : List ℕ) (it : Connection) (service : S) (contents : Option (List ℕ)) (h : Reached does service0 contents0 read it service contents) (empty : string_bytes it.page ≡ []) where
    ended_here : ended_in read ≡ h.done
    ended_here = ap (filter (λ (l : Line). l.ended)) (lines_to_end does service0 contents0 read it service contents h) ∙ filter-append (λ (l : Line). l.ended) h.done (lines_in h.partial) ∙ ap (λ (ls : List Line). filter (λ l. l.ended) h.done ++ ls) (none_ended h.partial h.unended) ∙ append-nil (filter (λ (l : Line). l.ended) h.done) ∙ h.ended

    exact_here : front fresh (ended_in read) (told_in h.exchanges) ≡ (asked_in h.exchanges, h.written)
    exact_here =
        ap (λ (ls : List Line). front fresh ls (told_in h.exchanges)) (ended_here ∙ sym (append-nil h.done)) ∙ ap (λ (t : List Answer). front fresh (h.done ++ []) t) (sym (append-nil (told_in h.exchanges))) ∙ h.goes [] [] ∙ no_more (asked_in h.exchanges) (h.written ++ string_bytes it.page) it.standing
        ∙ ap (λ (l : List ℕ). (asked_in h.exchanges, l)) (ap (λ (p : List ℕ). h.written ++ p) empty ∙ append-nil h.written)

    pub read_failed : Ended does service0 contents0 read service contents (Err faults.Read)
    read_failed = record { exchanges = h.exchanges; follows = h.follows; written = h.written; appended = h.appended; served = whole_by (ended_in read) h.exchanges h.written exact_here }

    pub turns_used : Ended does service0 contents0 read service contents (Err faults.Endless)
    turns_used = record { exchanges = h.exchanges; follows = h.follows; written = h.written; appended = h.appended; served = whole_by (ended_in read) h.exchanges h.written exact_here }

  pub stopped_by : (service0 : S) (contents0 : Option (List ℕ)) (read : List ℕ) (service : S) (contents : Option (List ℕ)) (fault : FrontFault) → IsStop fault → Stopped does service0 contents0 read service contents → Ended does service0 contents0 read service contents (Err fault)
  stopped_by service0 contents0 read service contents faults.Read s h = absurd s
  stopped_by service0 contents0 read service contents faults.Endless s h = absurd s
  stopped_by service0 contents0 read service contents faults.Write s h = record { exchanges = h.exchanges; follows = h.follows; written = h.written; appended = h.appended; served = h.begins }
  stopped_by service0 contents0 read service contents faults.NoMemory s h = record { exchanges = h.exchanges; follows = h.follows; written = h.written; appended = h.appended; served = h.begins }

  pub served : (service0 service : S) (remaining remaining' contents0 contents : Option (List ℕ)) (read : List ℕ) (result : Result ℕ FrontFault) → Consumes remaining remaining' read → Ended does service0 contents0 read service contents result → IfOk result (λ lines. IsAtEnd remaining')
      → Serves does service0 service remaining remaining' contents0 contents result
  served service0 service remaining remaining' contents0 contents read result consumed h end = record { read = read; consumed = consumed; exchanges = h.exchanges; follows = h.follows; written = h.written; appended = h.appended; served = h.served; end = end }

-- what holds for every number of lines holds for the result
pub at_end_if : (remaining : Option (List ℕ)) (result : Result ℕ FrontFault) → IsAtEnd remaining → IfOk result (λ lines. IsAtEnd remaining)
at_end_if remaining (Ok x) e = e
at_end_if remaining (Err x) e = tt

-- an allocation failed before the first read
pub nothing_served : {S : Type 0} (does : S → Ask → Answer → S → Type 0) (service : S) (remaining contents : Option (List ℕ)) → Serves does service service remaining remaining contents contents (Err faults.NoMemory)
nothing_served does service remaining contents = record { read = []; consumed = consumed_nothing remaining; exchanges = []; follows = refl; written = []; appended = appends_nothing contents; served = (front fresh (lines_in []) [], refl); end = tt }

-- ---- the end of serving, by its cause

pub no_read_failed : (n : ℕ) (r : Result ℕ FrontFault) → IfErr r IsStop → n ≡ reads_failed n r
no_read_failed n (Ok x) s = refl
no_read_failed n (Err faults.Read) s = absurd s
no_read_failed n (Err faults.Endless) s = absurd s
no_read_failed n (Err faults.Write) s = refl
no_read_failed n (Err faults.NoMemory) s = refl

pub not_endless : {P : Type 0} (r : Result ℕ FrontFault) → IfErr r IsStop → r ≡ Err faults.Endless → P
not_endless {P} r s e = absurd (subst (λ (x : Result ℕ FrontFault). IfErr x IsStop) e s)

pub stops_not_endless : {P : Type 0} (r : Result ℕ FrontFault) (kind : FrontFault) → IsStop kind → r ≡ Err kind → r ≡ Err faults.Endless → P
stops_not_endless {P} r kind s is e = not_endless r (subst (λ (x : Result ℕ FrontFault). IfErr x IsStop) (sym is) s) e
