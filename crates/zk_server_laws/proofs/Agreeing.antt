-- Running servers agree.
use Rattle.std.proofs.Common.{◌≡◌, ◌≢◌, ◌⊎◌, ℕ, ◌==◌, Bool, true, false, arith, List, ◌++◌, refl, sym, ap, ◌∙◌, subst, subst₂}
use Rattle.std.proofs.lemmas.Bool.Decides.{nat_tests}
use Rattle.zab_epoch.specs.declared.history.Entry.{Entry}
use Rattle.zab_epoch.specs.declared.stable.Stable.{Stable}
use Rattle.zab_laws.specs.Prefixes.{IsPrefix}
use Rattle.zab_model.specs.Runs.{delivered_list, delivered_of}
use Rattle.zab_model.specs.Worlds.{Profile}
use Rattle.zab_host_laws.specs.Hosts.{Step, new_network, after_steps}
use Rattle.zab_host_laws.specs.Agreement.{HostsAgree}
use Rattle.zk_server_laws.specs.Schedules.{Site, Runs, Stopped, ShowsSite, SitesAgree, SchedulesAreSteps, ServersAgree, delivered_in, after_events}
use Rattle.zk_server_laws.proofs.Alone.{lone_agrees}

module _ {C S : Type 0} (profile : Profile C) (may_recover : S → Stable → Type 0) (boots : S → ℕ) (servers : ℕ) where
  abbrev network_list : List (Step C) → ℕ → List Entry
  network_list steps number = delivered_of (after_steps profile (new_network servers) steps) number

  agree_at : (first all : List (Step C)) (p q : ℕ) (one other : Site C S) → ShowsSite profile may_recover boots servers first p one → ShowsSite profile may_recover boots servers all q other
      → IsPrefix (network_list first p) (network_list all q) ⊎ IsPrefix (network_list all q) (network_list first p)
      → SitesAgree profile may_recover boots servers one other
  agree_at first all p q (Stopped last boot used turn storage) other a b agree = tt
  agree_at first all p q (Runs host boot used) (Stopped last boot2 used2 turn storage) a b agree = tt
  agree_at first all p q (Runs one boot used) (Runs other boot2 used2) a b agree =
      let e : network_list first p ≡ delivered_in profile may_recover boots servers one.state =
      ap delivered_list a.1.1.0 ∙ sym (ap (delivered_in profile may_recover boots servers) a.1.1.1.same) in
      let f : network_list all q ≡ delivered_in profile may_recover boots servers other.state =
      ap delivered_list b.1.1.0 ∙ sym (ap (delivered_in profile may_recover boots servers) b.1.1.1.same) in
      subst₂ (λ (l m : List Entry). IsPrefix l m ⊎ IsPrefix m l) e f agree

  pub agree : SchedulesAreSteps profile may_recover boots servers → HostsAgree profile → servers ≢ 1 → ServersAgree profile may_recover boots servers
  agree are hosts many x before between new may p q serves_p serves_q =
      let s = are x before between many new may in
      agree_at s.first (s.first ++ s.later) p q ((after_events profile x before).site p) ((after_events profile x (before ++ between)).site q)
      (s.shows p serves_p) (s.shows_then q serves_q) (hosts servers s.first s.later s.may p q)

pub agree_all : {C S : Type 0} (profile : Profile C) (may_recover : S → Stable → Type 0) (boots : S → ℕ) (servers : ℕ)
    → SchedulesAreSteps profile may_recover boots servers → HostsAgree profile → ServersAgree profile may_recover boots servers
agree_all profile may_recover boots servers are hosts = by_test (servers == 1) refl
  where
    by_test : (b : Bool) → (servers == 1) ≡ b → ServersAgree profile may_recover boots servers
    by_test true is =
        (let one : servers ≡ 1 = grind (arith, nat_tests) in
        subst (λ (n : ℕ). ServersAgree profile may_recover boots n) (sym one) (lone_agrees profile may_recover boots))
    by_test false is =
        (let many : servers ≢ 1 = λ same. absurd (grind (arith, nat_tests)) in
        agree profile may_recover boots servers are hosts many)
