-- One life of a world after another.
use Rattle.std.proofs.Common.{◌≡◌, List, [], ◌∷◌, ◌++◌, length, map, refl, ap, ◌∙◌}
use Rattle.zab_model.specs.declared.event.Event.{Event}
use Rattle.zab_model.specs.Worlds.{World, Profile, new_world, happens}
use Rattle.zab_model.specs.Runs.{after, run}
use Rattle.zab_host_laws.specs.Recovery.{shift_event, restart_all, recovered_world, past_of_world, RecoveriesAreOneRun}
use Rattle.zab_host_laws.proofs.Forgetting.{run_past}
use Rattle.zab_host_laws.proofs.Bouncing.{goes_on}

after_both : {C : Type 0} (profile : Profile C) (w : World C) (a b : List (Event C)) → after profile w (a ++ b) ≡ after profile (after profile w a) b
after_both profile w [] b = refl
after_both profile w (event ∷ a) b = after_both profile (happens profile w event).0 a b

pub one_run : {C : Type 0} (profile : Profile C) → RecoveriesAreOneRun profile
one_run profile servers first second new =
    let w = (run profile servers first).0 in
    let bounces = restart_all (length w.servers) in
    let more = map (shift_event (length w.messages)) second in
    after_both profile (new_world servers) (first ++ bounces) more
    ∙ ap (λ x. after profile x more) (after_both profile (new_world servers) first bounces ∙ goes_on profile w)
    ∙ run_past profile (past_of_world w) (recovered_world w.servers) second new
