use Rattle.std.proofs.Common.{◌≡◌, ℕ, List, length, replicate, None, sym, ap, ◌∙◌, arith}
use Rattle.zab_model.specs.Runs.{Sight}
use Rattle.zab_model.specs.Worlds.{new_world}
use Rattle.zk_requests.specs.declared.call.Call.{Call}
use Rattle.zk_model.specs.Ensembles.{fresh, ensemble, new_ensemble}
use Rattle.zk_ensemble.specs.Views.{below_by}
use Rattle.zk_model.proofs.Lists.{length_replicate}
use Rattle.zk_ensemble.proofs.Keeping.{none_aside}
use Rattle.zk_ensemble.proofs.Runs.{new_of_run}
use Rattle.zk_ensemble.proofs.ensemble.Ensemble.with.Goals as goal

pub invariant_of-result : goal.invariant_of-result
invariant_of-result c =
    let below = c.in_ok-world.world in
    let rs = c.loop.replicas.items in
    let count = c.servers-servers.result in
    let all : c.loop.counter ≡ count = omega (arith, c.loop-test.false, c.loop.auto.counter-end) in
    let r = new_of_run (below_by below) rs
    (ap (λ (s : Sight (List ℕ) Call). ensemble s.world rs) c.in_ok-world.ensures
    ∙ ap (ensemble (new_world count)) (c.loop.invariant.0 ∙ ap (λ (n : ℕ). replicate n fresh) all)
    ∙ ap (λ (s : Sight (List ℕ) Call). new_ensemble s.servers) (sym c.in_ok-world.ensures)) in
    record {
      run = r;
      places = ap length c.loop.invariant.1 ∙ length_replicate c.loop.counter None ∙ sym (ap length c.loop.invariant.0 ∙ length_replicate c.loop.counter fresh);
      aside = none_aside (below_by below) rs r c.loop.counter c.loop.kept.items c.loop.invariant.1;
    }
