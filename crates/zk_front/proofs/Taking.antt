-- A line that was executed, and lines of a chunk.
use Rattle.std.proofs.Common.{◌≡◌, inl, inr, ℕ, List, [], ◌∷◌, ◌++◌, true, Option, Result, Ok, Err, OnOk, sym, subst, ◌∙◌, append_assoc, append-nil}
use Rattle.std.specs.Prelude.{IfErr}
use Rattle.std.specs.String.{string_bytes}
use Rattle.zk_records.specs.Sinks.{AppendsSome}
use Rattle.zk_front.specs.Fronts.{Answer}
use Rattle.zk_line_protocol.specs.Lines.{IsUnended}
use Rattle.zk_front.specs.Reaching.{Reached, Stopped, EndsLine, EndsNoLine, Flushes, MayFlush, Goes, Stops, StopsInLine, Added}
use Rattle.zk_front.specs.declared.fault.FrontFault.{FrontFault}
use Rattle.zk_front.specs.declared.fault.FrontFault.TheVariants as faults
use Rattle.zk_line_protocol.specs.declared.ask.Ask.{Ask}
use Rattle.zk_front.specs.declared.connection.Connection.{Connection}
use Rattle.zk_front.proofs.Reaches.{bytes_came, page_written, line_answered, line_not_answered, stopped_here, broke_off}

module _ {S : Type 0} (does : S → Ask → Answer → S → Type 0) (old mid : Connection) (service : S) (contents : Option (List ℕ)) (text : List ℕ) (u : IsUnended text) (added : Added old mid text) where
  pub came : Goes does old service contents text mid service contents
  came service0 contents0 read h = bytes_came does service0 contents0 read text old mid service contents h u added.holds added.standing added.page added.lines

  pub line_goes : (new fin : Connection) (service' : S) (contents' : Option (List ℕ)) → EndsLine does mid service true new service' → MayFlush new contents fin contents' → Goes does old service contents (text ++ 10 ∷ []) fin service' contents'
  line_goes new fin service' contents' e (inl f) = λ service0 contents0 read h.
      let a = line_answered does service0 contents0 (read ++ text) mid service contents (came service0 contents0 read h) new service' e in
      subst (λ (r : List ℕ). Reached does service0 contents0 r fin service' contents') (append_assoc read text (10 ∷ [])) (page_written does service0 contents0 ((read ++ text) ++ 10 ∷ []) new fin service' contents contents' a f)
  line_goes new fin service' contents' e (inr same) = λ service0 contents0 read h.
      let a = line_answered does service0 contents0 (read ++ text) mid service contents (came service0 contents0 read h) new service' e in
      rw (same.0, same.1) (subst (λ (r : List ℕ). Reached does service0 contents0 r new service' contents) (append_assoc read text (10 ∷ [])) a)

  pub line_stops_asked : (service' : S) → EndsNoLine does mid service true service' → StopsInLine does old service contents text faults.NoMemory service' contents
  line_stops_asked service' e = (
    tt,
    λ more service0 contents0 read h.
        let a = came service0 contents0 read h in
        subst (λ (r : List ℕ). Stopped does service0 contents0 r service' contents) (append_assoc read text (10 ∷ more)) (line_not_answered does service0 contents0 (read ++ text) mid service contents a service' (e a.partial a.holds) more),
  )

  pub line_stops_writing : (new : Connection) (service' : S) (contents' : Option (List ℕ)) → EndsLine does mid service true new service' → AppendsSome contents contents' (string_bytes new.page) → StopsInLine does old service contents text faults.Write service' contents'
  line_stops_writing new service' contents' e broke = (
    tt,
    λ more service0 contents0 read h.
        let a = line_answered does service0 contents0 (read ++ text) mid service contents (came service0 contents0 read h) new service' e in
        subst (λ (r : List ℕ). Stopped does service0 contents0 r service' contents') (append_assoc (read ++ text) (10 ∷ []) more ∙ append_assoc read text (10 ∷ more)) (broke_off does service0 contents0 ((read ++ text) ++ 10 ∷ []) new service' contents a more contents' broke),
  )

pub line_stops_adding : {S : Type 0} (does : S → Ask → Answer → S → Type 0) (old : Connection) (service : S) (contents : Option (List ℕ)) (text : List ℕ) → StopsInLine does old service contents text faults.NoMemory service contents
line_stops_adding does old service contents text = (tt, λ more service0 contents0 read h. stopped_here does service0 contents0 read old service contents h (text ++ 10 ∷ more))

-- what holds for a fault's kind holds for the fault
pub by_kind : (P : FrontFault → Type 0) (kind fault : FrontFault) → fault ≡ kind → P kind → P fault
by_kind P kind fault is p = subst (λ (f : FrontFault). P f) (sym is) p

pub fault_at : {T : Type 0} (P : FrontFault → Type 0) (r : Result T FrontFault) (fault kind : FrontFault) → r ≡ Err fault → fault ≡ kind → P kind → IfErr r P
fault_at {T} P r fault kind is same p = subst (λ (x : Result T FrontFault). IfErr x P) (sym is) (subst (λ (f : FrontFault). P f) (sym same) p)

module _ {S : Type 0} (does : S → Ask → Answer → S → Type 0) (old mid : Connection) (service : S) (contents : Option (List ℕ)) (text : List ℕ) (u : IsUnended text) (added : Added old mid text) (new fin : Connection) (service' : S) (contents' : Option (List ℕ)) (e : EndsLine does mid service true new service') where
  pub goes_if : (r : Result (Unit {0}) FrontFault) → OnOk r (MayFlush new contents fin contents') → OnOk r (Goes does old service contents (text ++ 10 ∷ []) fin service' contents')
  goes_if (Ok x) f = line_goes does old mid service contents text u added new fin service' contents' e f
  goes_if (Err x) f = tt

  pub stops_if : (r : Result (Unit {0}) FrontFault) → IfErr r (λ fault. (fault ≡ faults.Write) × AppendsSome contents contents' (string_bytes new.page)) → IfErr r (λ fault. StopsInLine does old service contents text fault service' contents')
  stops_if (Ok x) f = tt
  stops_if (Err x) f = subst (λ (fault : FrontFault). StopsInLine does old service contents text fault service' contents') (sym f.0) (line_stops_writing does old mid service contents text u added new service' contents' e f.1)

-- ---- lines of a chunk

module _ {S : Type 0} (does : S → Ask → Answer → S → Type 0) (old now : Connection) (service service' : S) (contents contents' : Option (List ℕ)) (taken : List ℕ) (so_far : Goes does old service contents taken now service' contents') where
  pub goes_more : (more : List ℕ) (new : Connection) (service'' : S) (contents'' : Option (List ℕ)) → Goes does now service' contents' more new service'' contents'' → Goes does old service contents (taken ++ more) new service'' contents''
  goes_more more new service'' contents'' next = λ service0 contents0 read h.
      subst (λ (r : List ℕ). Reached does service0 contents0 r new service'' contents'') (append_assoc read taken more) (next service0 contents0 (read ++ taken) (so_far service0 contents0 read h))

  pub stops_in_line : (text more : List ℕ) (fault : FrontFault) (service'' : S) (contents'' : Option (List ℕ)) → StopsInLine does now service' contents' text fault service'' contents'' → Stops does old service contents (taken ++ (text ++ 10 ∷ more)) fault service'' contents''
  stops_in_line text more fault service'' contents'' s = (
    s.0,
    λ service0 contents0 read h.
        subst (λ (r : List ℕ). Stopped does service0 contents0 r service'' contents'') (append_assoc read taken (text ++ 10 ∷ more)) (s.1 more service0 contents0 (read ++ taken) (so_far service0 contents0 read h)),
  )

  pub stops_keeping : (text : List ℕ) → Stops does old service contents (taken ++ text) faults.NoMemory service' contents'
  stops_keeping text = (
    tt,
    λ service0 contents0 read h.
        subst (λ (r : List ℕ). Stopped does service0 contents0 r service' contents') (append_assoc read taken text) (stopped_here does service0 contents0 (read ++ taken) now service' contents' (so_far service0 contents0 read h) text),
  )

  pub goes_keeping : (new : Connection) (text : List ℕ) → IsUnended text → Added now new text → Goes does old service contents (taken ++ text) new service' contents'
  goes_keeping new text u added = goes_more text new service' contents' (came does now new service' contents' text u added)

pub goes_nowhere : {S : Type 0} (does : S → Ask → Answer → S → Type 0) (it : Connection) (service : S) (contents : Option (List ℕ)) → Goes does it service contents [] it service contents
goes_nowhere does it service contents = λ service0 contents0 read h. subst (λ (r : List ℕ). Reached does service0 contents0 r it service contents) (sym (append-nil read)) h

module _ {S : Type 0} (does : S → Ask → Answer → S → Type 0) (old mid fin : Connection) (service service' : S) (contents contents' contents'' : Option (List ℕ)) (piece : List ℕ) (so_far : Goes does old service contents piece mid service' contents') where
  pub goes_flushed : (r : Result (Unit {0}) FrontFault) → OnOk r (Flushes mid contents' fin contents'') → OnOk r (Goes does old service contents piece fin service' contents'')
  goes_flushed (Ok x) f = λ service0 contents0 read h. page_written does service0 contents0 (read ++ piece) mid fin service' contents' contents'' (so_far service0 contents0 read h) f
  goes_flushed (Err x) f = tt

  pub stops_flushing : (r : Result (Unit {0}) FrontFault) → IfErr r (λ fault. (fault ≡ faults.Write) × AppendsSome contents' contents'' (string_bytes mid.page)) → IfErr r (λ fault. Stops does old service contents piece fault service' contents'')
  stops_flushing (Ok x) f = tt
  stops_flushing (Err x) f = subst (λ (fault : FrontFault). Stops does old service contents piece fault service' contents'') (sym f.0) ((
    tt,
    λ service0 contents0 read h.
        subst (λ (r : List ℕ). Stopped does service0 contents0 r service' contents'') (append-nil (read ++ piece)) (broke_off does service0 contents0 (read ++ piece) mid service' contents' (so_far service0 contents0 read h) [] contents'' f.1),
  ))
