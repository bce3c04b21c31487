-- One more release of a host.
use Rattle.std.proofs.Common.{◌≡◌, ◌≢◌, ℕ, Bool, true, false, List, [], ◌∷◌, ◌++◌, map, Some, refl, sym, ap, ◌∙◌, subst}
use Rattle.std.proofs.lemmas.List.{append_assoc, append-nil}
use Rattle.zab_broadcast.specs.declared.state.State.{State}
use Rattle.zab_broadcast.specs.Rules.{restored}
use Rattle.zab_model.specs.ProcessStates.{standing}
use Rattle.zab_model.specs.Worlds.{Profile, server_at}
use Rattle.zab_host_laws.specs.Hosts as steps
use Rattle.zab_host_laws.specs.Hosts.{Network, Step, new_network, after_step, after_steps}
use Rattle.zab_host.specs.Hosts.{Input}
use Rattle.zab_host_laws.specs.Composition.{step_of, after_inputs, messages_in, AreSteps, RestartsFrom}
use Rattle.zab_host_laws.specs.Fits.{AllFor, HostsKeepTheirNumbers, AcceptedInputsAreSteps}
use Rattle.zab_host_laws.specs.Releases.{Release, restart_of, steps_in, WereSent, ReceiveWhatWasSent}
use Rattle.zab_host_laws.specs.Tags.{tags_in}
use Rattle.zk_server_laws.proofs.Lengths.{long_after}
use Rattle.zk_server_laws.proofs.Requests.{tags_both}

abbrev pub release : {C : Type 0} → ℕ → List (Input C) → Bool → Release C
release number inputs crashes = record { number = number; inputs = inputs; crashes = crashes }

pub steps_both : {C : Type 0} (a b : List (Release C)) → steps_in (a ++ b) ≡ steps_in a ++ steps_in b
steps_both [] b = refl
steps_both (it ∷ a) b =
    let m = map (step_of it.number) it.inputs in
    let r = restart_of it.number it.crashes in
    ap (λ l. m ++ (r ++ l)) (steps_both a b) ∙ ap (λ l. m ++ l) (sym (append_assoc r (steps_in a) (steps_in b))) ∙ sym (append_assoc m (r ++ steps_in a) (steps_in b))

module _ {C : Type 0} (profile : Profile C) where
  pub both_steps : (c : Network C) (a b : List (Step C)) → after_steps profile c (a ++ b) ≡ after_steps profile (after_steps profile c a) b
  both_steps c [] b = refl
  both_steps c (step ∷ a) b = both_steps (after_step profile c step) a b

  pub heard_push : (c : Network C) (outs : List (Release C)) (it : Release C) → ReceiveWhatWasSent profile c outs → WereSent (after_steps profile c (steps_in outs)) it.inputs
      → ReceiveWhatWasSent profile c (outs ++ it ∷ [])
  heard_push c [] it heard sent = (sent, tt)
  heard_push c (o ∷ outs) it heard sent =
      let m = map (step_of o.number) o.inputs in
      let r = restart_of o.number o.crashes in
      let c1 = after_steps profile (after_steps profile c m) r in
      let e : after_steps profile c (m ++ (r ++ steps_in outs)) ≡ after_steps profile c1 (steps_in outs) =
      both_steps c m (r ++ steps_in outs) ∙ both_steps (after_steps profile c m) r (steps_in outs) in
      (heard.0, heard_push c1 outs it heard.1 (subst (λ (n : Network C). WereSent n it.inputs) e sent))

  no_tags : (number : ℕ) (crashes : Bool) → tags_in profile (restart_of number crashes) ≡ []
  no_tags number true = refl
  no_tags number false = refl

  pub tags_push : (outs : List (Release C)) (it : Release C)
      → tags_in profile (steps_in (outs ++ it ∷ [])) ≡ tags_in profile (steps_in outs) ++ tags_in profile (map (step_of it.number) it.inputs)
  tags_push outs it =
      let m = map (step_of it.number) it.inputs in
      let r = restart_of it.number it.crashes in
      ap (tags_in profile) (steps_both outs (it ∷ []) ∙ ap (λ l. steps_in outs ++ (m ++ l)) (append-nil r))
      ∙ tags_both profile (steps_in outs) (m ++ r)
      ∙ ap (λ l. tags_in profile (steps_in outs) ++ l) (tags_both profile m r ∙ ap (λ l. tags_in profile m ++ l) (no_tags it.number it.crashes) ∙ append-nil (tags_in profile m))

-- ---- the network

module _ {C : Type 0} (profile : Profile C) (servers : ℕ) where
  abbrev pub net : List (Release C) → Network C
  net outs = after_steps profile (new_network servers) (steps_in outs)

  abbrev pub left_by : ℕ → Bool → State → State
  left_by number true state = restored servers number state.peer.stable
  left_by number false state = state

  pub record Pushed (outs : List (Release C)) (number : ℕ) (inputs : List (Input C)) (crashes : Bool) (whole : State) : Type 0 where
    pub state : server_at (net (outs ++ release number inputs crashes ∷ [])).servers number ≡ Some (standing true (left_by number crashes (after_inputs profile.setting whole inputs)))
    pub messages : (net outs).messages ++ messages_in profile.setting whole inputs ≡ (net (outs ++ release number inputs crashes ∷ [])).messages
    pub others : (other : ℕ) → other ≢ number → server_at (net (outs ++ release number inputs crashes ∷ [])).servers other ≡ server_at (net outs).servers other

  module _ (accepted : AcceptedInputsAreSteps profile) (numbers : HostsKeepTheirNumbers profile) (outs : List (Release C)) (number : ℕ) (inputs : List (Input C)) (whole : State)
      (at : server_at (net outs).servers number ≡ Some (standing true whole)) (fits : AllFor profile.setting whole inputs) where
    m : List (Step C)
    m = map (step_of number) inputs

    done : State
    done = after_inputs profile.setting whole inputs

    c1 : Network C
    c1 = after_steps profile (net outs) m

    a : AreSteps profile (net outs) number (standing true whole) inputs
    a = (accepted servers (steps_in outs) number (standing true whole) inputs at fits).0

    pub pushed : (crashes : Bool) → Pushed outs number inputs crashes whole
    unfolding m c1 done
    pushed false =
        let e : net (outs ++ release number inputs false ∷ []) ≡ c1 =
        ap (after_steps profile (new_network servers)) (steps_both outs (release number inputs false ∷ []))
        ∙ both_steps profile (new_network servers) (steps_in outs) (m ++ [])
        ∙ ap (after_steps profile (net outs)) (append-nil m) in
        record {
          state = subst (λ (n : Network C). server_at n.servers number ≡ Some (standing true done)) (sym e) a.state;
          messages = sym (ap (λ (n : Network C). n.messages) e ∙ a.messages);
          others = λ other differs. ap (λ (n : Network C). server_at n.servers other) e ∙ a.others other differs;
        }
    pushed true =
        let e1 : after_steps profile (new_network servers) (steps_in outs ++ m) ≡ c1 = both_steps profile (new_network servers) (steps_in outs) m in
        let at1 = subst (λ (n : Network C). server_at n.servers number ≡ Some (standing true done)) (sym e1) a.state in
        let r : RestartsFrom profile c1 number (standing true done) =
        subst (λ (n : Network C). RestartsFrom profile n number (standing true done)) e1 (accepted servers (steps_in outs ++ m) number (standing true done) [] at1 tt).1 in
        let n = numbers servers (steps_in outs ++ m) number (standing true done) at1 in
        let many : done.peer.servers ≡ servers = n.servers ∙ long_after profile servers (steps_in outs ++ m) in
        let me : done.peer.me ≡ number = n.me in
        let e : net (outs ++ release number inputs true ∷ []) ≡ after_step profile c1 (steps.Restarts number) =
        ap (after_steps profile (new_network servers)) (steps_both outs (release number inputs true ∷ []))
        ∙ both_steps profile (new_network servers) (steps_in outs) (m ++ (steps.Restarts number ∷ []))
        ∙ both_steps profile (net outs) m (steps.Restarts number ∷ []) in
        let state_is : server_at (after_step profile c1 (steps.Restarts number)).servers number ≡ Some (standing true (restored servers number done.peer.stable)) =
        r.state ∙ ap (λ k. Some (standing true (restored k done.peer.me done.peer.stable))) many ∙ ap (λ k. Some (standing true (restored servers k done.peer.stable))) me in
        record {
          state = ap (λ (x : Network C). server_at x.servers number) e ∙ state_is;
          messages = sym (ap (λ (x : Network C). x.messages) e ∙ r.messages ∙ a.messages);
          others = λ other differs. ap (λ (x : Network C). server_at x.servers other) e ∙ r.others other differs ∙ a.others other differs;
        }
