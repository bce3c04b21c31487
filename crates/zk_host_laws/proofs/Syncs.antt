-- What is read after a sync.
use Rattle.std.proofs.Common.{◌≡◌, ℕ, ◌≤◌, List, length, take, sym, ap, subst, ◌∙◌, arith}
use Rattle.std.proofs.lemmas.List.{take_all, length-take-le}
use Rattle.std.specs.List.{Contains}
use Rattle.zab_broadcast.specs.declared.syncs.Caught.{Caught}
use Rattle.zab_epoch.specs.declared.history.Entry.{Entry}
use Rattle.zab_host_laws.specs.NeverBack.{HostsOnlyGrow}
use Rattle.zab_host_laws.specs.Syncs.{SyncsAreCaught, HostSyncsAreCaught}
use Rattle.zab_laws.specs.Prefixes.{IsPrefix}
use Rattle.zab_laws.proofs.PrefixLaws.{prefix_by_length, prefix_take}
use Rattle.zab_model.specs.declared.event.Event.{Event}
use Rattle.zab_model.specs.Runs.{run, delivered_of, delivered_after, syncs_of}
use Rattle.zab_model.specs.Worlds.{World, Profile}
use Rattle.zab_host_laws.specs.Hosts.{Network, new_network, after_steps}
use Rattle.zk_host_laws.specs.HostTrees.{HostEnsemble, Action, Releases, steps_of, after_action, hosts_after, shown_by}
use Rattle.zk_host_laws.specs.Guarantees.{SyncsAreShown, SyncedReadsAreCurrent}
use Rattle.zk_host_laws.proofs.Orders.{network_is}
use Rattle.zk_host_laws.proofs.Showing.{AllMatch, all_match, shown_now}
use Rattle.zk_requests.specs.declared.call.Call.{Call}

module _ (profile : Profile Call) (servers : ℕ) (x : HostEnsemble) (all : AllMatch x) (caught : SyncsAreCaught profile servers x.network) where
  delivered_is : (number : ℕ) → delivered_after profile servers caught.events (length caught.events) number ≡ delivered_of x.network number
  delivered_is number =
      ap (λ (events : List (Event Call)). delivered_of (run profile servers events).0 number) (take_all (length caught.events) caught.events (omega arith))
      ∙ ap (λ (w : World Call). delivered_of w number) caught.is

  shown_front : (number : ℕ) (it : Caught) (has : Contains (syncs_of x.network number) it) → it.length ≤ (x.host number).shown
      → IsPrefix (delivered_after profile servers caught.events (caught.caught number it has).place (caught.caught number it has).leader) (shown_by x number)
  shown_front number it has low =
      let c = caught.caught number it has in
      let leads : List Entry = delivered_after profile servers caught.events c.place c.leader in
      let all_of : List Entry = delivered_of x.network number in
      let front : IsPrefix leads all_of = subst (λ (l : List Entry). IsPrefix leads l) (delivered_is number) c.front in
      let long : length (shown_by x number) ≡ (x.host number).shown = length-take-le (x.host number).shown all_of (all number).within in
      let no_more : length leads ≤ it.length = c.no_more in
      prefix_by_length leads (shown_by x number) all_of front (prefix_take (x.host number).shown all_of) (omega (arith, long, no_more, low))

  shown_next : (number : ℕ) (it : Caught) → Contains (syncs_of x.network number) it → it.length ≤ ((after_action profile x (Releases number)).host number).shown
  shown_next number it has =
      let c = caught.caught number it has in
      let low : it.length ≤ length (delivered_of x.network number) = subst (λ (l : List Entry). it.length ≤ length l) (delivered_is number) c.delivered in
      subst (λ n. it.length ≤ n) (sym (shown_now profile x number)) low

  pub are_shown : SyncsAreShown profile servers x
  are_shown = record { run = caught; shown = shown_front; released = shown_next }

pub synced_reads : (profile : Profile Call) → HostsOnlyGrow profile → HostSyncsAreCaught profile → SyncedReadsAreCurrent profile
synced_reads profile grow caught servers actions may =
    are_shown profile servers (hosts_after profile servers actions) (all_match profile grow servers actions may)
    (subst (λ (c : Network Call). SyncsAreCaught profile servers c) (sym (network_is profile servers actions)) (caught servers (steps_of actions) may))
