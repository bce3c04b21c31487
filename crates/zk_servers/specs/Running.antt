-- The effect of all servers' threads.
use Rattle.std.specs.Prelude.{◌≡◌, ◌<◌, ℕ, List, [], ◌∷◌, ◌++◌, length, map, slice_index_or}
use Rattle.zk_model.specs.declared.event.Event.{Event}
use Rattle.zk_servers.specs.declared.record.Receipt.{Receipt}
use Rattle.zk_servers.specs.declared.calls.Made.{Made}
use Rattle.zk_servers.specs.declared.serving.Worker.{Worker}
use Rattle.zk_servers.specs.declared.serving.Worked.{Worked}
use Rattle.zk_servers.specs.declared.running.Turns.{Turns}
use Rattle.std.specs.declared.thread.PromisedHandle.{PromisedHandle}
use Rattle.zk_servers.specs.Turns.{DidTurns}

-- for each server: its seat before, its jobs, and after `turns` turns its seat, its receipts and
-- the number of jobs that were passed over
abbrev pub AllServed : ℕ → List (List Made) → List (List Event) → List (List Made) → List (List Receipt) → List ℕ → Type 0
AllServed turns [] [] [] [] [] = Unit {0}
AllServed turns (before ∷ befores) (jobs ∷ rest) (after ∷ afters) (receipts ∷ told) (passed ∷ counts) =
    DidTurns before jobs turns after receipts passed × AllServed turns befores rest afters told counts
AllServed turns befores rest afters told counts = ⊥

abbrev pub all_of : List (List Receipt) → List Receipt
all_of [] = []
all_of (receipts ∷ told) = receipts ++ all_of told

-- each server did its turns, and the receipts are those of all, server by server
pub record DidRun (before : List (List Made)) (jobs : List (List Event)) (turns : ℕ) (after : List (List Made)) (receipts : List Receipt) (passed : List ℕ) : Type 0 where
  pub told : List (List Receipt)
  pub served : AllServed turns before jobs after told passed
  pub all : receipts ≡ all_of told

module _ {L : Type 0} where
  abbrev pub AllDid : List (Worker L) → ℕ → List (Worked L) → Type 0
  AllDid workers turns worked =
      (length worked ≡ length workers)
      × ((at : ℕ) (before : Worker L) (after : Worked L) → at < length workers
      → (let b = slice_index_or workers at before in let a = slice_index_or worked at after in DidTurns b.seat b.jobs.items turns a.seat a.receipts.items a.passed))

  abbrev pub ArePromised : List (Worker L) → ℕ → List (PromisedHandle (Worked L) (Turns L)) → Type 0
  ArePromised workers turns children =
      (length children ≡ length workers)
      × ((at : ℕ) (worker : Worker L) (child : PromisedHandle (Worked L) (Turns L)) → at < length workers
      → ((slice_index_or children at child).promise.worker.value ≡ slice_index_or workers at worker) × ((slice_index_or children at child).promise.turns ≡ turns))

  abbrev pub AreWorkers : List (List Made) → List (List Event) → List (Worker L) → Type 0
  AreWorkers seats jobs workers = (map (λ w. w.seat) workers ≡ seats) × (map (λ w. w.jobs.items) workers ≡ jobs)

  abbrev pub told_by : List (Worked L) → List (List Receipt)
  told_by worked = map (λ w. w.receipts.items) worked

  abbrev pub IsRunOf : List (Worked L) → List (List Made) → List Receipt → List ℕ → Type 0
  IsRunOf worked seats receipts passed =
      (seats ≡ map (λ w. w.seat) worked) × (receipts ≡ all_of (told_by worked)) × (passed ≡ map (λ w. w.passed) worked)
