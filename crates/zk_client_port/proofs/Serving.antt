-- The connections of a server, one after another.
use Rattle.std.proofs.Common.{◌≡◌, ◌∙◌, ◌<◌, ℕ, zero, suc, List, length, set, get_or, refl, sym, ap, subst}
use Rattle.std.proofs.lemmas.Option.{slice_get_read}
use Rattle.zab_broadcast.specs.Calls.{Setting}
use Rattle.zk_client_port.specs.Execution.{served}
use Rattle.zk_client_port.specs.Serving.{Breaks, KeepsTree, Serves}
use Rattle.zk_client_port.specs.declared.execution.Moment.{Moment}
use Rattle.zk_client_port.specs.declared.fault.ServeFault.TheVariants as faults
use Rattle.zk_client_port.specs.Turns.{Server, cut_off_with, ServesFirst, ServesPlace, Executed, CutOff}
use Rattle.zk_client_port.specs.declared.expected.Expected.{Expected}
use Rattle.zk_connections.specs.Connections.{lost}
use Rattle.zk_connections.specs.declared.connection.Connection.{Connection}
use Rattle.zk_hub.specs.declared.outcome.Outcome.{Outcome}
use Rattle.zk_hub.specs.declared.request.Outstanding.{Outstanding}
use Rattle.zk_requests.specs.declared.call.Call.{Call}

module _ {S : Type 0} (setting : Setting Call) (moment : Moment) where
  pub none_served : (it : Server S) → ServesFirst setting moment zero it it
  none_served it = refl

  pub one_more : (places : ℕ) (old between new : Server S) → ServesFirst setting moment places old between → ServesPlace setting moment places between new
      → ServesFirst setting moment (suc places) old new
  one_more places old between new first next = (between, first, next)

  -- the connection's input is executed
  pub executed : (place : ℕ) (old new : Server S) (before after : Connection) → place < length old.connections → before ≡ get_or old.connections place before
      → Serves setting moment (served old.host old.hub before) old.admission (served new.host new.hub after) new.admission → new.connections ≡ set old.connections place after
      → ServesPlace setting moment place old new
  executed place old new before after within is serves written =
      Executed before after (slice_get_read old.connections (length old.connections) place before refl within is) serves written

  -- or memory ran out
  pub lost_at : (place : ℕ) (old new : Server S) (before after : Connection) (hub : List (Outstanding Expected Outcome)) (its : List Connection)
      → place < length old.connections → before ≡ get_or old.connections place before → KeepsTree old.host new.host
      → Breaks setting moment (served old.host old.hub before) old.admission (served new.host hub after) new.admission faults.Connection → new.hub ≡ hub
      → its ≡ set old.connections place (lost after) → new.connections ≡ cut_off_with hub its → ServesPlace setting moment place old new
  lost_at place old new before after hub its within is kept breaks same were written =
      CutOff before after (slice_get_read old.connections (length old.connections) place before refl within is) kept
      (subst (λ (requests : List (Outstanding Expected Outcome)). Breaks setting moment (served old.host old.hub before) old.admission (served new.host requests after) new.admission faults.Connection) (sym same) breaks)
      (written ∙ ap (cut_off_with hub) were ∙ ap (λ (requests : List (Outstanding Expected Outcome)). cut_off_with requests (set old.connections place (lost after))) (sym same))
