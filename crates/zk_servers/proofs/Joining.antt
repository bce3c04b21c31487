-- The results of threads, in three lists.
use Rattle.std.proofs.Common.{◌≡◌, ℕ, suc, ◌+◌, ◌<◌, List, [], ◌∷◌, length, map, refl, sym, ap, subst, ◌∙◌, arith}
use Rattle.zk_model.specs.declared.event.Event.{Event}
use Rattle.zk_servers.specs.declared.record.Receipt.{Receipt}
use Rattle.zk_servers.specs.declared.calls.Made.{Made}
use Rattle.zk_servers.specs.declared.serving.Worker.{Worker}
use Rattle.zk_servers.specs.declared.serving.Worked.{Worked}
use Rattle.zk_servers.specs.Running.{AllDid, AllServed, AreWorkers, DidRun, IsRunOf, told_by}

module _ {L : Type 0} where
  served_by : (turns : ℕ) (workers : List (Worker L)) (worked : List (Worked L)) → AllDid workers turns worked
      → AllServed turns (map (λ w. w.seat) workers) (map (λ w. w.jobs.items) workers) (map (λ w. w.seat) worked) (told_by worked) (map (λ w. w.passed) worked)
  served_by turns [] [] did = tt
  served_by turns [] (d ∷ ds) did = absurd (omega (arith, did.0))
  served_by turns (w ∷ ws) [] did = absurd (omega (arith, did.0))
  served_by turns (w ∷ ws) (d ∷ ds) did = (
    did.1 0 w d (omega arith),
    served_by turns ws ds (omega (arith, did.0), λ at before after below. did.1 (suc at) before after (omega (arith, below))),
  )

  pub run_is : (turns : ℕ) (seats : List (List Made)) (jobs : List (List Event)) (workers : List (Worker L)) (worked : List (Worked L)) (after : List (List Made)) (receipts : List Receipt) (passed : List ℕ)
      → AreWorkers seats jobs workers → AllDid workers turns worked → IsRunOf worked after receipts passed → DidRun seats jobs turns after receipts passed
  run_is turns seats jobs workers worked after receipts passed are did is = record {
    told = told_by worked;
    served =
        subst (λ s. AllServed turns s jobs after (told_by worked) passed) are.0
        (subst (λ j. AllServed turns (map (λ (w : Worker L). w.seat) workers) j after (told_by worked) passed) are.1
        (subst (λ a. AllServed turns (map (λ (w : Worker L). w.seat) workers) (map (λ (w : Worker L). w.jobs.items) workers) a (told_by worked) passed) (sym is.0)
        (subst (λ p. AllServed turns (map (λ (w : Worker L). w.seat) workers) (map (λ (w : Worker L). w.jobs.items) workers) (map (λ (w : Worked L). w.seat) worked) (told_by worked) p) (sym is.2)
        (served_by turns workers worked did))));
    all = is.1;
  }
