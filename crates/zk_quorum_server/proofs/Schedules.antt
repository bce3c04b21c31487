-- What servers with clients do is a schedule of `zk_server_laws`.
use Rattle.std.proofs.Common.{◌≡◌, ◌≤◌, ◌==◌, ℕ, ℤ, Bool, true, false, if◌then◌else◌, List, [], ◌∷◌, ◌++◌, filter, Option, Some, None, refl, sym, ap, ◌∙◌, subst}
use Rattle.zab_epoch.specs.declared.message.Message.{Message}
use Rattle.zab_epoch.specs.declared.stable.Stable.{Stable}
use Rattle.zab_host.specs.Hosts.{HostView, IsStored}
use Rattle.zab_host.specs.declared.tags.TagIssuer.{TagIssuer}
use Rattle.zk_peer_links.specs.declared.arrival.Arrival.{Arrival}
use Rattle.zk_quorum_server.specs.Ensembles as ensembles
use Rattle.zk_quorum_server.specs.Ensembles.{Turned, Failed, Ended, Started}
use Rattle.zk_quorum_server.specs.Servers.{ServerView}
use Rattle.zk_quorum_server.specs.Turns.{turn_by}
use Rattle.zk_requests.specs.declared.call.Call.{Call}
use Rattle.zk_server.proofs.Schedules as peers
use Rattle.zk_server.specs.Deeds.{profile_for}
use Rattle.zk_server.specs.Ensembles as peer_ensembles
use Rattle.zk_server.specs.Peers.{PeerView}
use Rattle.zk_server.specs.declared.member.Member.{Member}
use Rattle.zk_server.specs.declared.site.Site.{Site}
use Rattle.zk_server.specs.declared.site.Site.TheVariants as sites
use Rattle.zk_server_laws.specs.Schedules as laws

module _ {S : Type 0} (clean : S → Type 0) (may_recover : S → Stable → Type 0) (boots : S → ℕ) (servers : ℕ) where
  -- ---- the servers without their clients

  abbrev peers_of : ensembles.Ensemble S → peer_ensembles.Ensemble S
  peers_of x = record { peers = λ number. (x.members number).peer; flight = x.flight }

  abbrev Same : Site S → laws.Site Call S → Type 0
  Same site s = peers.Same clean may_recover boots servers site s

  abbrev Sim : ensembles.Ensemble S → laws.Ensemble Call S → Type 0
  Sim x y = peers.Sim clean may_recover boots servers (peers_of x) y

  abbrev next_law : laws.Ensemble Call S → laws.Event Call S → laws.Ensemble Call S
  next_law y event = peers.next_law clean may_recover boots servers y event

  record Follows (x : ensembles.Ensemble S) (y : laws.Ensemble Call S) (event : ensembles.Event S) : Type 0 where
    law_event : laws.Event Call S
    may : peers.is_law clean may_recover boots servers law_event y
    sim : Sim (ensembles.after_event x event) (next_law y law_event)

  if_peer : (b : Bool) (it old : ServerView S) → (if b then it else old).peer ≡ (if b then it.peer else old.peer)
  if_peer true it old = refl
  if_peer false it old = refl

  -- one server changes
  changed : (x : ensembles.Ensemble S) (y : laws.Ensemble Call S) (number : ℕ) (it : ServerView S) (flight : ℕ → List (Message Call))
      → peers.Sim clean may_recover boots servers (record { peers = peer_ensembles.with_peer number it.peer (peers_of x).peers; flight = flight }) y
      → Sim (record { members = ensembles.with_server number it x.members; flight = flight }) y
  changed x y number it flight sim = record {
    me = λ other. ap (λ (p : PeerView S). p.me) (if_peer (other == number) it (x.members other)) ∙ sim.me other;
    site = λ other. subst (λ (p : PeerView S). Same p.site (y.site other)) (sym (if_peer (other == number) it (x.members other))) (sim.site other);
    flight = sim.flight;
  }

  -- the clients' watches are no part of what the laws speak of
  same_beside : (one other : Site S) (s : laws.Site Call S) → ensembles.IsSameSite clean may_recover boots servers one other → Same other s → Same one s
  same_beside (sites.Runs one) (sites.Runs other) (laws.Runs it boot used) beside same = (
    same.0 ∙ sym beside.0,
    (
      same.1.0 ∙ ap (λ (t : TagIssuer). t.boot) (sym beside.1),
      (
        same.1.1.0 ∙ ap (λ (t : TagIssuer). t.used) (sym beside.1),
        (subst (λ (v : HostView Call S). IsStored may_recover v) (sym beside.0) same.1.1.1.0, subst (λ (t : TagIssuer). t.used ≤ 4294967296) (sym beside.1) same.1.1.1.1),
      ),
    ),
  )
  same_beside (sites.Runs one) (sites.Runs other) (laws.Stopped last boot used turn gone) beside same = absurd same
  same_beside (sites.Runs one) (sites.Stopped storage) s beside same = absurd beside
  same_beside (sites.Stopped storage) (sites.Runs other) s beside same = absurd beside
  same_beside (sites.Stopped storage) (sites.Stopped was) s beside same = subst (λ (k : Option S). Same (sites.Stopped k) s) (sym beside) same

  -- ---- each call is an event

  turned : (x : ensembles.Ensemble S) (y : laws.Ensemble Call S) (number : ℕ) (before : ServerView S) (arrivals : List Arrival) (now : ℤ) (line_to : ℕ → ℕ) (next : ServerView S) (messages : List (Message Call)) → Sim x y
      → ensembles.MayHappen clean may_recover boots servers x (Turned number before arrivals now line_to next messages) → Follows x y (Turned number before arrivals now line_to next messages)
  turned x y number before arrivals now line_to next messages sim may =
      let beside = may.1.1.0 in
      let call = may.1.1.1 in
      let ran = call.turned in
      let turn = turn_by arrivals line_to ran.inputs ran.requests ran.served.host.host.state.caught in
      let me : before.peer.me ≡ peers.member clean may_recover boots servers number = beside.me ∙ sim.me number in
      let same : Same (sites.Runs call.before) (y.site number) =
      subst (λ (it : Site S). Same it (y.site number)) call.ran (same_beside before.peer.site (x.members number).peer.site (y.site number) beside.site (sim.site number)) in
      let here : peers.TurnsAt clean may_recover boots servers (peers.member clean may_recover boots servers number) call.before.tags.boot call.before.tags.used call.after.tags.used call.before.host turn messages call.after.host =
      subst (λ (m : Member). peers.TurnsAt clean may_recover boots servers m call.before.tags.boot call.before.tags.used call.after.tags.used call.before.host turn messages call.after.host) me (ran.does line_to) in
      record {
        law_event = laws.Turns number turn call.after.tags.used call.after.host;
        may = (
          may.0,
          (
            peers.brings clean may_recover boots servers (peers_of x) y arrivals line_to ran.inputs sim may.1.0,
            peers.turned_site clean may_recover boots servers number (y.site number) call.before turn messages call.after.tags.used call.after.host same here,
          ),
        );
        sim = changed x (next_law y (laws.Turns number turn call.after.tags.used call.after.host)) number next (peer_ensembles.posted line_to messages (peer_ensembles.arrived arrivals x.flight))
            (peers.changes clean may_recover boots servers (peers_of x) y number next.peer (laws.running_at call.after.tags.used call.after.host (y.site number))
            (peer_ensembles.posted line_to messages (peer_ensembles.arrived arrivals x.flight))
            (laws.posted turn (laws.sent_by (profile_for servers) turn (y.site number)) (laws.arrived turn y.flight))
            sim (call.me ∙ me)
            (subst (λ (it : Site S). Same it (laws.running_at call.after.tags.used call.after.host (y.site number))) (sym call.runs)
            (peers.turned_same clean may_recover boots servers (y.site number) call.before call.after same ran.boot (ran.ready.stored, ran.ready.within)))
            (λ line. ap (λ (l : List (Message Call)). l ++ filter (λ message. line_to message.addressee == line) messages) (peers.arrives clean may_recover boots servers (peers_of x) y arrivals line_to ran.inputs sim line)
            ∙ ap (λ (l : List (Message Call)). laws.arrived turn y.flight line ++ filter (λ message. line_to message.addressee == line) l)
            (peers.turned_sent clean may_recover boots servers (y.site number) call.before turn messages same here.sends)));
      }

  failed : (x : ensembles.Ensemble S) (y : laws.Ensemble Call S) (number : ℕ) (before : ServerView S) (arrivals : List Arrival) (next : ServerView S) → Sim x y
      → ensembles.MayHappen clean may_recover boots servers x (Failed number before arrivals next) → Follows x y (Failed number before arrivals next)
  failed x y number before arrivals next sim may =
      let beside = may.1.1.0 in
      let call = may.1.1.1 in
      let known = call.failed in
      let turn = turn_by arrivals (λ to. 0) known.inputs known.requests [] in
      let me : before.peer.me ≡ peers.member clean may_recover boots servers number = beside.me ∙ sim.me number in
      let same : Same (sites.Runs call.before) (y.site number) =
      subst (λ (it : Site S). Same it (y.site number)) call.ran (same_beside before.peer.site (x.members number).peer.site (y.site number) beside.site (sim.site number)) in
      let here : peers.StopsAt clean may_recover boots servers (peers.member clean may_recover boots servers number) call.before.tags.boot call.before.tags.used known.next_used call.before.host turn call.storage =
      subst (λ (m : Member). peers.StopsAt clean may_recover boots servers m call.before.tags.boot call.before.tags.used known.next_used call.before.host turn call.storage) me (known.does (λ to. 0)) in
      record {
        law_event = laws.Stops number turn known.next_used call.storage;
        may = (
          may.0,
          (
            peers.brings clean may_recover boots servers (peers_of x) y arrivals (λ to. 0) known.inputs sim may.1.0,
            peers.stopped_site clean may_recover boots servers number (y.site number) call.before turn known.next_used call.storage same here,
          ),
        );
        sim = changed x (next_law y (laws.Stops number turn known.next_used call.storage)) number next (peer_ensembles.arrived arrivals x.flight)
            (peers.changes clean may_recover boots servers (peers_of x) y number next.peer (laws.stopped_at turn call.storage (y.site number)) (peer_ensembles.arrived arrivals x.flight) (laws.arrived turn y.flight)
            sim (call.me ∙ me)
            (subst (λ (it : Site S). Same it (laws.stopped_at turn call.storage (y.site number))) (sym call.stopped)
            (peers.stopped_same clean may_recover boots servers (y.site number) call.before turn call.storage same))
            (λ line. peers.arrives clean may_recover boots servers (peers_of x) y arrivals (λ to. 0) known.inputs sim line));
      }

  ended : (x : ensembles.Ensemble S) (y : laws.Ensemble Call S) (number : ℕ) (storage : S) → Sim x y
      → ensembles.MayHappen clean may_recover boots servers x (Ended number storage) → Follows x y (Ended number storage)
  ended x y number storage sim may =
      let it = peers.ended_as clean may_recover boots servers (peers_of x) y number storage (x.members number).peer.site (y.site number) sim refl (sim.site number) may.0 may.1 in
      record {
        law_event = it.law_event;
        may = it.may;
        sim = changed x (next_law y it.law_event) number (ensembles.ended_on storage (x.members number)) x.flight it.sim;
      }

  may_start : (me : Member) (site : Site S) (next : ServerView S) → ensembles.MayStart clean may_recover boots servers me site next
      → peer_ensembles.MayStart clean may_recover boots servers me site next.peer
  may_start me (sites.Stopped (Some storage)) next start = record { starts = start.starts.peer; honest = start.honest }
  may_start me (sites.Stopped None) next start = absurd start
  may_start me (sites.Runs host) next start = absurd start

  started : (x : ensembles.Ensemble S) (y : laws.Ensemble Call S) (number : ℕ) (next : ServerView S) → Sim x y
      → ensembles.MayHappen clean may_recover boots servers x (Started number next) → Follows x y (Started number next)
  started x y number next sim may =
      let start = subst (λ (m : Member). peer_ensembles.MayStart clean may_recover boots servers m (x.members number).peer.site next.peer) (sim.me number)
      (may_start (x.members number).peer.me (x.members number).peer.site next may.1) in
      let it = peers.started_as clean may_recover boots servers (peers_of x) y number next.peer (x.members number).peer.site (y.site number) sim refl (sim.site number) may.0 start in
      record {
        law_event = it.law_event;
        may = it.may;
        sim = changed x (next_law y it.law_event) number next x.flight it.sim;
      }

  one_event : (x : ensembles.Ensemble S) (y : laws.Ensemble Call S) (event : ensembles.Event S) → Sim x y → ensembles.MayHappen clean may_recover boots servers x event → Follows x y event
  one_event x y (Turned number before arrivals now line_to next messages) sim may = turned x y number before arrivals now line_to next messages sim may
  one_event x y (Failed number before arrivals next) sim may = failed x y number before arrivals next sim may
  one_event x y (Ended number storage) sim may = ended x y number storage sim may
  one_event x y (Started number next) sim may = started x y number next sim may

  -- ---- all events

  record FollowsAll (x : ensembles.Ensemble S) (y : laws.Ensemble Call S) (events : List (ensembles.Event S)) : Type 0 where
    law_event : List (laws.Event Call S)
    may : laws.MayRun (profile_for servers) may_recover boots servers y law_event
    sim : Sim (ensembles.after_events x events) (laws.after_events (profile_for servers) y law_event)

  all_events : (x : ensembles.Ensemble S) (y : laws.Ensemble Call S) (events : List (ensembles.Event S)) → Sim x y → ensembles.MayRun clean may_recover boots servers x events → FollowsAll x y events
  all_events x y [] sim may = record { law_event = []; may = tt; sim = sim }
  all_events x y (event ∷ events) sim may =
      let one = one_event x y event sim may.0 in
      let rest = all_events (ensembles.after_event x event) (next_law y one.law_event) events one.sim may.1 in
      record { law_event = one.law_event ∷ rest.law_event; may = (one.may, rest.may); sim = rest.sim }

  after_both : (x : ensembles.Ensemble S) (a b : List (ensembles.Event S)) → ensembles.after_events x (a ++ b) ≡ ensembles.after_events (ensembles.after_events x a) b
  after_both x [] b = refl
  after_both x (event ∷ a) b = after_both (ensembles.after_event x event) a b

  first_of_run : (x : ensembles.Ensemble S) (a b : List (ensembles.Event S)) → ensembles.MayRun clean may_recover boots servers x (a ++ b) → ensembles.MayRun clean may_recover boots servers x a
  first_of_run x [] b may = tt
  first_of_run x (event ∷ a) b may = (may.0, first_of_run (ensembles.after_event x event) a b may.1)

  rest_of_run : (x : ensembles.Ensemble S) (a b : List (ensembles.Event S)) → ensembles.MayRun clean may_recover boots servers x (a ++ b) → ensembles.MayRun clean may_recover boots servers (ensembles.after_events x a) b
  rest_of_run x [] b may = may
  rest_of_run x (event ∷ a) b may = rest_of_run (ensembles.after_event x event) a b may.1

  -- ---- agreement

  pub agree_all : laws.ServersAgree (profile_for servers) may_recover boots servers → ensembles.ServersAgree clean may_recover boots servers
  agree_all law x before between new may p q p_server q_server =
      let y : laws.Ensemble Call S = record { site = λ number. peers.new_site clean may_recover boots servers number (x.members number).peer.site (new.members number).site; flight = x.flight } in
      let is_new : laws.IsNew (profile_for servers) may_recover boots servers y =
      record { few = new.few; sites = λ number. peers.new_law clean may_recover boots servers number (x.members number).peer.site (new.members number).site; flight = new.flight } in
      let sim : Sim x y = record { me = λ number. (new.members number).me; site = λ number. peers.new_same clean may_recover boots servers number (x.members number).peer.site (new.members number).site; flight = λ line. refl } in
      let first = all_events x y before sim (first_of_run x before between may) in
      let later = all_events (ensembles.after_events x before) (laws.after_events (profile_for servers) y first.law_event) between first.sim (rest_of_run x before between may) in
      let run = peers.laws_both clean may_recover boots servers y first.law_event later.law_event first.may later.may in
      let last : Sim (ensembles.after_events x (before ++ between)) (laws.after_events (profile_for servers) y (first.law_event ++ later.law_event)) =
      subst (λ (e : ensembles.Ensemble S). Sim e (laws.after_events (profile_for servers) y (first.law_event ++ later.law_event))) (sym (after_both x before between))
      (subst (λ (e : laws.Ensemble Call S). Sim (ensembles.after_events (ensembles.after_events x before) between) e) (sym (peers.laws_after clean may_recover boots servers y first.law_event later.law_event)) later.sim) in
      peers.sites_agree clean may_recover boots servers ((ensembles.after_events x before).members p).peer.site ((ensembles.after_events x (before ++ between)).members q).peer.site
      ((laws.after_events (profile_for servers) y first.law_event).site p) ((laws.after_events (profile_for servers) y (first.law_event ++ later.law_event)).site q)
      (first.sim.site p) (last.site q) (law y first.law_event later.law_event is_new run p q p_server q_server)
