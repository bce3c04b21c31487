-- A host whose store fails.
use Rattle.std.proofs.Common.{◌≡◌, inl, inr, List, Result, Ok, Err, ap, ◌∙◌}
use Rattle.zab_broadcast.specs.Calls.{Setting}
use Rattle.zab_broadcast.specs.declared.state.State.{State}
use Rattle.zab_epoch.specs.declared.message.Message.{Message}
use Rattle.zab_epoch.specs.declared.stable.Stable.{Stable}
use Rattle.zab_host.specs.declared.fault.HostFault.{HostFault}
use Rattle.zab_host.specs.declared.fault.HostFault.TheVariants as faults
use Rattle.zab_host.specs.declared.fault.ReceiveFault.TheVariants as receive_faults
use Rattle.zab_host.specs.declared.storage.StoreFault.{StoreFault}
use Rattle.zab_host.specs.Hosts.{HostView, Input, IsRejected, StepsTo, host}

module _ {C S : Type 0} (may_recover : S → Stable → Type 0) (setting : Setting C) (input : Input C) (old mid new : HostView C S) (state : new.state ≡ mid.state) (outbox : new.outbox ≡ mid.outbox) where
  -- the host that an input leaves, with the store that has failed
  moved : (s : State) (messages : List (Message C)) → mid ≡ host s messages old.storage → new ≡ host s messages new.storage
  moved s messages is =
      ap (λ (it : State). host it new.outbox new.storage) (state ∙ ap (λ (v : HostView C S). v.state) is)
      ∙ ap (λ (it : List (Message C)). host s it new.storage) (outbox ∙ ap (λ (v : HostView C S). v.outbox) is)

  steps : (received : Result (Unit {0}) HostFault) → StepsTo setting old input mid received → StepsTo setting (host old.state old.outbox new.storage) input new received
  steps (Ok x) h = record { fits = h.fits; now = moved _ _ h.now; returned = h.returned }
  steps (Err faults.NoServer) h = (moved old.state old.outbox h.0, h.1)
  steps (Err faults.OutOfOrder) h = (moved old.state old.outbox h.0, h.1)
  steps (Err faults.NotServing) h = record { fits = h.fits; now = moved _ _ h.now; returned = h.returned }
  steps (Err faults.EpochFull) h = record { fits = h.fits; now = moved _ _ h.now; returned = h.returned }
  steps (Err faults.NoMemory) (inl is) = inl (moved old.state old.outbox is)
  steps (Err faults.NoMemory) (inr lost) = inr (lost.0, moved _ _ lost.1)

  pub store_fails : (received : Result (Unit {0}) HostFault) (fault : StoreFault) → StepsTo setting old input mid received
      → IsRejected may_recover setting old input new (receive_faults.Store fault)
  store_fails received fault h = (received, steps received h)
