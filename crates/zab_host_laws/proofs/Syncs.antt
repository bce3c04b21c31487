-- A host's syncs are those of a run.
use Rattle.std.proofs.Common.{◌≡◌, ℕ, List, length, sym, ap, subst, ◌∙◌, arith}
use Rattle.std.proofs.lemmas.List.{take_all}
use Rattle.std.specs.List.{Contains}
use Rattle.zab_agreement_laws.specs.Syncs.{AreCaught}
use Rattle.zab_broadcast.specs.declared.syncs.Caught.{Caught}
use Rattle.zab_model.specs.declared.event.Event.{Event}
use Rattle.zab_model.specs.Runs.{run, syncs_of, syncs_after}
use Rattle.zab_model.specs.Worlds.{World, Profile}
use Rattle.zab_host_laws.specs.Hosts.{new_network, after_steps, HostsAreARun}
use Rattle.zab_host_laws.specs.Syncs.{HostSyncsAreCaught}

pub syncs_are_caught : {C : Type 0} (profile : Profile C) → ((servers : ℕ) (events : List (Event C)) → AreCaught profile servers events) → HostsAreARun profile → HostSyncsAreCaught profile
syncs_are_caught {C} profile caught hosts servers steps may =
    let one = hosts servers steps may in
    let network = after_steps profile (new_network servers) steps in
    let same : (number : ℕ) → syncs_after profile servers one.0 (length one.0) number ≡ syncs_of network number =
    (λ number. ap (λ (events : List (Event C)). syncs_of (run profile servers events).0 number) (take_all (length one.0) one.0 (omega arith))
    ∙ ap (λ (w : World C). syncs_of w number) one.2) in
    record {
      events = one.0;
      tags = one.1;
      is = one.2;
      caught = λ number it has. caught servers one.0 (length one.0) number it (subst (λ (l : List Caught). Contains l it) (sym (same number)) has);
    }
