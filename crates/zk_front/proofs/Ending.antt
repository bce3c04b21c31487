-- The end of the input, by the reply to the last line.
use Rattle.std.proofs.Common.{◌≡◌, ℕ, ◌<◌, List, [], false, length, Option, Result, Ok, Err, OnOk, sym, ap, subst, ◌∙◌}
use Rattle.std.specs.Prelude.{IfErr}
use Rattle.zk_front.specs.Fronts.{Answer}
use Rattle.zk_line_protocol.specs.Pendings.{Holds}
use Rattle.zk_front.specs.Reaching.{EndsLine, EndsNoLine, EndsAll, EndsEarly, Ended, Finishes}
use Rattle.zk_front.specs.declared.fault.FrontFault.{FrontFault}
use Rattle.zk_front.specs.declared.fault.FrontFault.TheVariants as faults
use Rattle.zk_line_protocol.specs.declared.ask.Ask.{Ask}
use Rattle.zk_front.specs.declared.connection.Connection.{Connection}
use Rattle.zk_front.proofs.Reaches.{nothing_left, last_answered, last_not_answered, not_written}
use Rattle.zk_records.specs.Sinks.{AppendsSome}
use Rattle.std.specs.String.{string_bytes}

module _ {S : Type 0} (does : S → Ask → Answer → S → Type 0) where
  pub ends_empty : (old : Connection) (service : S) → ((text : List ℕ) → Holds old.pending text → text ≡ []) → EndsAll does old service old service
  ends_empty old service none = λ service0 contents0 contents read h. nothing_left does service0 contents0 read old service contents h (none h.partial h.holds)

  pub ends_all : (old new : Connection) (service service' : S) (r : Result (Unit {0}) FrontFault) → ((text : List ℕ) → Holds old.pending text → 0 < length text) → OnOk r (EndsLine does old service false new service') → OnOk r (EndsAll does old service new service')
  ends_all old new service service' (Ok x) some e = λ service0 contents0 contents read h. last_answered does service0 contents0 read old service contents h new service' (some h.partial h.holds) e
  ends_all old new service service' (Err x) some e = tt

  pub ends_early : (old : Connection) (service service' : S) (r : Result (Unit {0}) FrontFault) → ((text : List ℕ) → Holds old.pending text → 0 < length text) → IfErr r (λ fault. (fault ≡ faults.NoMemory) × EndsNoLine does old service false service')
      → IfErr r (λ fault. (fault ≡ faults.NoMemory) × EndsEarly does old service service')
  ends_early old service service' (Ok x) some e = tt
  ends_early old service service' (Err x) some e = (e.0, λ service0 contents0 contents read h. last_not_answered does service0 contents0 read old service contents h service' (some h.partial h.holds) (e.1 h.partial h.holds))

module _ {S : Type 0} (does : S → Ask → Answer → S → Type 0) where
  pub ends_unwritten : (old mid : Connection) (service service' : S) (contents contents' : Option (List ℕ)) (fault : FrontFault) → EndsAll does old service mid service' → fault ≡ faults.Write → AppendsSome contents contents' (string_bytes mid.page) → (result : Result ℕ FrontFault) → result ≡ Err fault → Finishes does old service contents result service' contents'
  ends_unwritten old mid service service' contents contents' fault ends is broke result gives = λ service0 contents0 read h.
      subst (λ (r : Result ℕ FrontFault). Ended does service0 contents0 read service' contents' r) (sym (gives ∙ ap (λ (f : FrontFault). Err f) is)) (not_written does service0 contents0 read mid service' contents (ends service0 contents0 contents read h) contents' broke)
