-- How the command ends if the chronicle is rejected, by the seats and receipts that were closed.
use Rattle.std.proofs.Common.{◌≡◌, ℕ, List, inl, inr, refl, subst}
use Rattle.zk_servers.specs.Closing.{IsRefusal}
use Rattle.zk_servers.specs.declared.calls.Made.{Made}
use Rattle.zk_servers.specs.declared.fault.CloseFault.{CloseFault}
use Rattle.zk_servers.specs.declared.fault.CloseFault.TheVariants as faults
use Rattle.zk_servers.specs.declared.record.Receipt.{Receipt}
use Rattle.zk_servers.specs.declared.record.Record.{Record}
use Rattle.zk_serve.specs.Closing.{Closes}
use Rattle.zk_serve.specs.declared.accepting.Served.{Served}
use Rattle.zk_serve.specs.declared.accepting.Served.TheVariants as served

module _ (records : List Record) (seats seats' : List (List Made)) (receipts receipts' : List Receipt) (before : Served) (fault : CloseFault) where
  refused_as : (found : CloseFault) → seats' ≡ seats → receipts' ≡ receipts → fault ≡ found → IsRefusal records seats' receipts' fault → IsRefusal records seats receipts found
  refused_as found same told is refused =
      subst (λ (f : CloseFault). IsRefusal records seats receipts f) is
      (subst (λ (r : List Receipt). IsRefusal records seats r fault) told (subst (λ (s : List (List Made)). IsRefusal records s receipts' fault) same refused))

  pub miscounts : seats' ≡ seats → receipts' ≡ receipts → fault ≡ faults.Count → IsRefusal records seats' receipts' fault → Closes seats receipts before served.Miscounted
  miscounts same told is refused = (records, inr (inl (refused_as faults.Count same told is refused, refl)))

  pub mismatches : (at : ℕ) → seats' ≡ seats → receipts' ≡ receipts → fault ≡ faults.Receipt at → IsRefusal records seats' receipts' fault → Closes seats receipts before (served.Mismatched at)
  mismatches at same told is refused = (records, inr (inr (at, refused_as (faults.Receipt at) same told is refused, refl)))
