-- What servers do is a schedule of `zk_server_laws`. What speaks of one server alone serves
-- `zk_quorum_server` too.
use Rattle.std.proofs.Common.{◌≡◌, ◌⊎◌, ◌≤◌, ◌==◌, ℕ, Bool, true, false, if◌then◌else◌, List, [], ◌∷◌, ◌++◌, length, drop, filter, Some, None, refl, sym, ap, ◌∙◌, subst, arith}
use Rattle.std.proofs.lemmas.Bool.Decides.{nat_tests}
use Rattle.zab_broadcast.specs.Rules.{restored}
use Rattle.zab_broadcast.specs.declared.state.State.{State}
use Rattle.zab_epoch.specs.declared.message.Message.{Message}
use Rattle.zab_epoch.specs.declared.stable.Stable.{Stable}
use Rattle.zab_host.specs.Hosts.{HostView, Input, IsStored}
use Rattle.zab_host_laws.specs.Composition.{messages_in}
use Rattle.zab_laws.specs.Prefixes.{IsPrefix}
use Rattle.zab_model.specs.Worlds.{is_server}
use Rattle.zk_host.specs.Delivered.{delivered_in}
use Rattle.zk_host.specs.declared.replica_host.ReplicaHost.{ReplicaHost}
use Rattle.zk_requests.specs.declared.call.Call.{Call}
use Rattle.zk_peer_links.specs.declared.arrival.Arrival.{Arrival}
use Rattle.zk_server.specs.declared.member.Member.{Member}
use Rattle.zk_server.specs.declared.site.Site.{Site}
use Rattle.zk_server.specs.declared.site.Site.TheVariants as sites
use Rattle.zk_server.specs.Deeds.{profile_for}
use Rattle.zk_server.specs.Ensembles as peers
use Rattle.zk_server.specs.Ensembles.{Turned, Failed, Ended, Started}
use Rattle.zk_server.specs.Mail.{brought_on}
use Rattle.zk_server.specs.Peers.{PeerView}
use Rattle.zk_server.specs.Turns.{turn_with}
use Rattle.zk_server_laws.specs.Schedules as laws
use Rattle.zk_server_laws.specs.Turns.{Narrows, StartsOn, StopsWith, Turn, TurnsTo}

module _ {S : Type 0} (clean : S → Type 0) (may_recover : S → Stable → Type 0) (boots : S → ℕ) (servers : ℕ) where
  abbrev pub member : ℕ → Member
  member number = record { number = number; servers = servers }

  -- ---- a server, as the laws have it

  -- all that it has is stored, and it has tags left
  abbrev pub Ready : ReplicaHost S → Type 0
  Ready host = IsStored may_recover host.host × (host.tags.used ≤ 4294967296)

  abbrev pub Same : Site S → laws.Site Call S → Type 0
  Same (sites.Runs host) (laws.Runs it boot used) = (it ≡ host.host) × ((boot ≡ host.tags.boot) × ((used ≡ host.tags.used) × Ready host))
  Same (sites.Stopped (Some storage)) (laws.Stopped last boot used turn kept) = kept ≡ storage
  Same site it = ⊥

  pub record Sim (x : peers.Ensemble S) (y : laws.Ensemble Call S) : Type 0 where
    pub me : (number : ℕ) → (x.peers number).me ≡ member number
    pub site : (number : ℕ) → Same (x.peers number).site (y.site number)
    pub flight : (line : ℕ) → x.flight line ≡ y.flight line

  abbrev pub is_law : laws.Event Call S → laws.Ensemble Call S → Type 0
  is_law event y = laws.MayHappen (profile_for servers) may_recover boots servers y event

  abbrev pub next_law : laws.Ensemble Call S → laws.Event Call S → laws.Ensemble Call S
  next_law y event = laws.after_event (profile_for servers) y event

  pub record Follows (x : peers.Ensemble S) (y : laws.Ensemble Call S) (event : peers.Event S) : Type 0 where
    pub law_event : laws.Event Call S
    pub may : is_law law_event y
    pub sim : Sim (peers.after_event x event) (next_law y law_event)

  -- ---- one server changes

  if_same : (number other : ℕ) (it old : PeerView S) (new before : laws.Site Call S) (b : Bool) → (other == number) ≡ b → Same it.site new → Same old.site before
      → Same (if b then it else old).site (if b then new else before)
  if_same number other it old new before true is now was = now
  if_same number other it old new before false is now was = was

  if_me : (number other : ℕ) (it old : PeerView S) (b : Bool) → (other == number) ≡ b → it.me ≡ member number → old.me ≡ member other → (if b then it else old).me ≡ member other
  if_me number other it old true is now was = (let same : number ≡ other = grind (arith, nat_tests) in now ∙ ap member same)
  if_me number other it old false is now was = was

  pub changes : (x : peers.Ensemble S) (y : laws.Ensemble Call S) (number : ℕ) (it : PeerView S) (new : laws.Site Call S) (f g : ℕ → List (Message Call)) → Sim x y
      → it.me ≡ member number → Same it.site new → ((line : ℕ) → f line ≡ g line)
      → Sim (record { peers = peers.with_peer number it x.peers; flight = f }) (record { site = laws.with_site number new y.site; flight = g })
  changes x y number it new f g sim me now flight = record {
    me = λ other. if_me number other it (x.peers other) (other == number) refl me (sim.me other);
    site = λ other. if_same number other it (x.peers other) new (y.site other) (other == number) refl now (sim.site other);
    flight = flight;
  }

  pub brings : (x : peers.Ensemble S) (y : laws.Ensemble Call S) (arrivals : List Arrival) (line_to : ℕ → ℕ) (inputs : List (Input Call)) → Sim x y → peers.Brings clean may_recover boots servers x arrivals
      → laws.Brings (profile_for servers) may_recover boots servers y (turn_with arrivals line_to inputs)
  brings x y arrivals line_to inputs sim brought line = subst (λ (l : List (Message Call)). IsPrefix (brought_on arrivals line) l) (sim.flight line) (brought line)

  pub arrives : (x : peers.Ensemble S) (y : laws.Ensemble Call S) (arrivals : List Arrival) (line_to : ℕ → ℕ) (inputs : List (Input Call)) → Sim x y → (line : ℕ)
      → peers.arrived arrivals x.flight line ≡ laws.arrived (turn_with arrivals line_to inputs) y.flight line
  arrives x y arrivals line_to inputs sim line = ap (λ (l : List (Message Call)). drop (length (brought_on arrivals line)) l) (sim.flight line)

  -- ---- a turn

  abbrev pub TurnsAt : Member → ℕ → ℕ → ℕ → HostView Call S → Turn Call → List (Message Call) → HostView Call S → Type 0
  TurnsAt me boot used next_used old turn sent next = TurnsTo (profile_for me.servers) may_recover boots me.servers me.number boot used next_used old turn sent next

  turns_at : (me you : Member) (boot boot2 used used2 next_used : ℕ) (old old2 : HostView Call S) (turn : Turn Call) (sent : List (Message Call)) (next : HostView Call S)
      → me ≡ you → boot ≡ boot2 → used ≡ used2 → old ≡ old2 → TurnsAt me boot used next_used old turn sent next → TurnsAt you boot2 used2 next_used old2 turn sent next
  turns_at me you boot boot2 used used2 next_used old old2 turn sent next a b c d h =
      subst (λ (m : Member). TurnsAt m boot2 used2 next_used old2 turn sent next) a
      (subst (λ (n : ℕ). TurnsAt me n used2 next_used old2 turn sent next) b
      (subst (λ (n : ℕ). TurnsAt me boot n next_used old2 turn sent next) c
      (subst (λ (v : HostView Call S). TurnsAt me boot used next_used v turn sent next) d h)))

  abbrev pub StopsAt : Member → ℕ → ℕ → ℕ → HostView Call S → Turn Call → S → Type 0
  StopsAt me boot used next_used old turn storage = StopsWith (profile_for me.servers) may_recover boots me.servers me.number boot used next_used old turn storage

  stops_at : (me you : Member) (boot boot2 used used2 next_used : ℕ) (old old2 : HostView Call S) (turn : Turn Call) (storage : S)
      → me ≡ you → boot ≡ boot2 → used ≡ used2 → old ≡ old2 → StopsAt me boot used next_used old turn storage → StopsAt you boot2 used2 next_used old2 turn storage
  stops_at me you boot boot2 used used2 next_used old old2 turn storage a b c d h =
      subst (λ (m : Member). StopsAt m boot2 used2 next_used old2 turn storage) a
      (subst (λ (n : ℕ). StopsAt me n used2 next_used old2 turn storage) b
      (subst (λ (n : ℕ). StopsAt me boot n next_used old2 turn storage) c
      (subst (λ (v : HostView Call S). StopsAt me boot used next_used v turn storage) d h)))

  pub started_ready : (number : ℕ) (storage : S) (stable : Stable) (host : ReplicaHost S) → StartsOn may_recover boots servers number storage stable host.tags.boot host.host → host.tags.used ≡ 0 → Ready host
  started_ready number storage stable host on unused = (
    λ found may. on.stored found may ∙ ap (λ (s : State). s.peer.stable) (sym on.state),
    (let e = unused in omega arith),
  )

  -- ---- each call is an event

  pub turned_site : (number : ℕ) (s : laws.Site Call S) (before : ReplicaHost S) (turn : Turn Call) (sent : List (Message Call)) (next_used : ℕ) (next : HostView Call S) → Same (sites.Runs before) s
      → TurnsAt (member number) before.tags.boot before.tags.used next_used before.host turn sent next → laws.MayTurn (profile_for servers) may_recover boots servers s number turn next_used next
  turned_site number (laws.Runs it boot used) before turn sent next_used next same h =
      (let here = turns_at (member number) (member number) before.tags.boot boot before.tags.used used next_used before.host it turn sent next refl (sym same.1.0) (sym same.1.1.0) (sym same.0) h in
      subst (λ (l : List (Message Call)). TurnsAt (member number) boot used next_used it turn l next) here.sends here)
  turned_site number (laws.Stopped last boot used gone kept) before turn sent next_used next same h = absurd same

  pub turned_sent : (s : laws.Site Call S) (before : ReplicaHost S) (turn : Turn Call) (sent : List (Message Call)) → Same (sites.Runs before) s
      → sent ≡ messages_in (profile_for servers).setting before.host.state turn.inputs → sent ≡ laws.sent_by (profile_for servers) turn s
  turned_sent (laws.Runs it boot used) before turn sent same is = is ∙ ap (λ (v : HostView Call S). messages_in (profile_for servers).setting v.state turn.inputs) (sym same.0)
  turned_sent (laws.Stopped last boot used gone kept) before turn sent same is = absurd same

  pub turned_same : (s : laws.Site Call S) (before after : ReplicaHost S) → Same (sites.Runs before) s → after.tags.boot ≡ before.tags.boot → Ready after → Same (sites.Runs after) (laws.running_at after.tags.used after.host s)
  turned_same (laws.Runs it boot used) before after same boot_is ready = (refl, (same.1.0 ∙ sym boot_is, (refl, ready)))
  turned_same (laws.Stopped last boot used gone kept) before after same boot_is ready = absurd same

  pub stopped_site : (number : ℕ) (s : laws.Site Call S) (before : ReplicaHost S) (turn : Turn Call) (next_used : ℕ) (storage : S) → Same (sites.Runs before) s
      → StopsAt (member number) before.tags.boot before.tags.used next_used before.host turn storage → laws.MayStop (profile_for servers) may_recover boots servers s number turn next_used storage
  stopped_site number (laws.Runs it boot used) before turn next_used storage same h =
      stops_at (member number) (member number) before.tags.boot boot before.tags.used used next_used before.host it turn storage refl (sym same.1.0) (sym same.1.1.0) (sym same.0) h
  stopped_site number (laws.Stopped last boot used gone kept) before turn next_used storage same h = absurd same

  pub stopped_same : (s : laws.Site Call S) (before : ReplicaHost S) (turn : Turn Call) (storage : S) → Same (sites.Runs before) s → Same (sites.Stopped (Some storage)) (laws.stopped_at turn storage s)
  stopped_same (laws.Runs it boot used) before turn storage same = refl
  stopped_same (laws.Stopped last boot used gone kept) before turn storage same = absurd same

  pub at_me : (x : peers.Ensemble S) (y : laws.Ensemble Call S) (number : ℕ) (site : Site S) → Sim x y → (x.peers number).site ≡ site → Same site (y.site number)
  at_me x y number site sim is = subst (λ (it : Site S). Same it (y.site number)) is (sim.site number)

  turned : (x : peers.Ensemble S) (y : laws.Ensemble Call S) (number : ℕ) (arrivals : List Arrival) (line_to : ℕ → ℕ) (next : PeerView S) (messages : List (Message Call)) → Sim x y
      → peers.MayHappen clean may_recover boots servers x (Turned number arrivals line_to next messages) → Follows x y (Turned number arrivals line_to next messages)
  turned x y number arrivals line_to next messages sim may =
      let call = may.1.1 in
      let ran = call.turned in
      let turn = turn_with arrivals line_to ran.inputs in
      let same = at_me x y number (sites.Runs call.before) sim call.ran in
      let here : TurnsAt (member number) call.before.tags.boot call.before.tags.used call.after.tags.used call.before.host turn messages call.after.host =
      subst (λ (m : Member). TurnsAt m call.before.tags.boot call.before.tags.used call.after.tags.used call.before.host turn messages call.after.host) (sim.me number) (ran.does line_to) in
      record {
        law_event = laws.Turns number turn call.after.tags.used call.after.host;
        may = (may.0, (brings x y arrivals line_to ran.inputs sim may.1.0, turned_site number (y.site number) call.before turn messages call.after.tags.used call.after.host same here));
        sim = changes x y number next (laws.running_at call.after.tags.used call.after.host (y.site number))
            (peers.posted line_to messages (peers.arrived arrivals x.flight))
            (laws.posted turn (laws.sent_by (profile_for servers) turn (y.site number)) (laws.arrived turn y.flight))
            sim (call.me ∙ sim.me number)
            (subst (λ (it : Site S). Same it (laws.running_at call.after.tags.used call.after.host (y.site number))) (sym call.runs)
            (turned_same (y.site number) call.before call.after same ran.boot (ran.ready.stored, ran.ready.within)))
            (λ line. ap (λ (l : List (Message Call)). l ++ filter (λ message. line_to message.addressee == line) messages) (arrives x y arrivals line_to ran.inputs sim line)
            ∙ ap (λ (l : List (Message Call)). laws.arrived turn y.flight line ++ filter (λ message. line_to message.addressee == line) l)
            (turned_sent (y.site number) call.before turn messages same here.sends));
      }

  failed : (x : peers.Ensemble S) (y : laws.Ensemble Call S) (number : ℕ) (arrivals : List Arrival) (next : PeerView S) → Sim x y
      → peers.MayHappen clean may_recover boots servers x (Failed number arrivals next) → Follows x y (Failed number arrivals next)
  failed x y number arrivals next sim may =
      let call = may.1.1 in
      let known = call.failed in
      let turn = turn_with arrivals (λ to. 0) known.inputs in
      let same = at_me x y number (sites.Runs call.before) sim call.ran in
      let here : StopsAt (member number) call.before.tags.boot call.before.tags.used known.next_used call.before.host turn call.storage =
      subst (λ (m : Member). StopsAt m call.before.tags.boot call.before.tags.used known.next_used call.before.host turn call.storage) (sim.me number) (known.does (λ to. 0)) in
      record {
        law_event = laws.Stops number turn known.next_used call.storage;
        may = (may.0, (brings x y arrivals (λ to. 0) known.inputs sim may.1.0, stopped_site number (y.site number) call.before turn known.next_used call.storage same here));
        sim = changes x y number next (laws.stopped_at turn call.storage (y.site number)) (peers.arrived arrivals x.flight) (laws.arrived turn y.flight)
            sim (call.me ∙ sim.me number)
            (subst (λ (it : Site S). Same it (laws.stopped_at turn call.storage (y.site number))) (sym call.stopped) (stopped_same (y.site number) call.before turn call.storage same))
            (λ line. arrives x y arrivals (λ to. 0) known.inputs sim line);
      }

  -- a process that ends between two turns has taken no input
  abbrev pub nothing : Turn Call
  nothing = laws.no_turn (profile_for servers) may_recover boots servers

  pub ends_at : (number : ℕ) (before : ReplicaHost S) (storage : S) → Ready before → Narrows may_recover boots before.host.storage storage
      → StopsAt (member number) before.tags.boot before.tags.used before.tags.used before.host nothing storage
  ends_at number before storage ready narrows = record {
    acts = record { accepted = tt; heard = tt; asked = refl; rising = omega arith; within = ready.1 };
    crash = λ found may. (0, ready.0 found (narrows.crash found may));
    starts = narrows.starts;
  }

  pub ended_as : (x : peers.Ensemble S) (y : laws.Ensemble Call S) (number : ℕ) (storage : S) (site : Site S) (s : laws.Site Call S) → Sim x y → y.site number ≡ s → Same site s
      → is_server servers number ≡ true → peers.MayEnd clean may_recover boots servers site storage → Follows x y (Ended number storage)
  ended_as x y number storage (sites.Runs before) (laws.Runs it boot used) sim at same server narrows =
      (let may = stopped_site number (laws.Runs it boot used) before nothing before.tags.used storage same (ends_at number before storage same.1.1.1 narrows) in
      record {
        law_event = laws.Stops number nothing before.tags.used storage;
        may = (server, (λ line. record { rest = y.flight line; is = refl }, subst (λ (l : laws.Site Call S). laws.MayStop (profile_for servers) may_recover boots servers l number nothing before.tags.used storage) (sym at) may));
        sim = changes x y number (peers.stopped_on storage (x.peers number)) (laws.stopped_at nothing storage (y.site number)) x.flight (laws.arrived nothing y.flight) sim (sim.me number)
            (subst (λ (l : laws.Site Call S). Same (sites.Stopped (Some storage)) (laws.stopped_at nothing storage l)) (sym at) refl) (λ line. sim.flight line);
      })
  ended_as x y number storage (sites.Stopped (Some kept)) (laws.Stopped last boot used turn gone) sim at same server narrows = record {
    law_event = laws.Waits number storage;
    may = (server, subst (λ (l : laws.Site Call S). laws.MayNarrow (profile_for servers) may_recover boots servers l storage) (sym at) (subst (λ (g : S). Narrows may_recover boots g storage) (sym same) narrows));
    sim = changes x y number (peers.stopped_on storage (x.peers number)) (laws.waiting_at storage (y.site number)) x.flight y.flight sim (sim.me number)
        (subst (λ (l : laws.Site Call S). Same (sites.Stopped (Some storage)) (laws.waiting_at storage l)) (sym at) refl) (λ line. sim.flight line);
  }
  ended_as x y number storage (sites.Stopped None) s sim at same server narrows = absurd narrows
  ended_as x y number storage (sites.Runs before) (laws.Stopped last boot used turn gone) sim at same server narrows = absurd same
  ended_as x y number storage (sites.Stopped (Some kept)) (laws.Runs it boot used) sim at same server narrows = absurd same

  pub started_as : (x : peers.Ensemble S) (y : laws.Ensemble Call S) (number : ℕ) (next : PeerView S) (site : Site S) (s : laws.Site Call S) → Sim x y → y.site number ≡ s → Same site s
      → is_server servers number ≡ true → peers.MayStart clean may_recover boots servers (member number) site next → Follows x y (Started number next)
  started_as x y number next (sites.Stopped (Some storage)) (laws.Stopped last boot used turn gone) sim at same server start =
      (let on = start.starts.starts start.honest in
      let host = start.starts.host in record {
        law_event = laws.Starts number start.starts.stable host.tags.boot host.host;
        may = (
          server,
          subst (λ (l : laws.Site Call S). laws.MayStart (profile_for servers) may_recover boots servers l number start.starts.stable host.tags.boot host.host) (sym at)
              (subst (λ (g : S). StartsOn may_recover boots servers number g start.starts.stable host.tags.boot host.host) (sym same) on),
        );
        sim = changes x y number next (laws.Runs host.host host.tags.boot 0) x.flight y.flight sim start.starts.member
            (subst (λ (it : Site S). Same it (laws.Runs host.host host.tags.boot 0)) (sym start.starts.runs)
            (refl, (refl, (sym start.starts.unused, started_ready number storage start.starts.stable host on start.starts.unused))))
            (λ line. sim.flight line);
      })
  started_as x y number next (sites.Stopped None) s sim at same server start = absurd start
  started_as x y number next (sites.Runs before) s sim at same server start = absurd start
  started_as x y number next (sites.Stopped (Some storage)) (laws.Runs it boot used) sim at same server start = absurd same

  one_event : (x : peers.Ensemble S) (y : laws.Ensemble Call S) (event : peers.Event S) → Sim x y → peers.MayHappen clean may_recover boots servers x event → Follows x y event
  one_event x y (Turned number arrivals line_to next messages) sim may = turned x y number arrivals line_to next messages sim may
  one_event x y (Failed number arrivals next) sim may = failed x y number arrivals next sim may
  one_event x y (Ended number storage) sim may = ended_as x y number storage (x.peers number).site (y.site number) sim refl (sim.site number) may.0 may.1
  one_event x y (Started number next) sim may =
      started_as x y number next (x.peers number).site (y.site number) sim refl (sim.site number) may.0
      (subst (λ (m : Member). peers.MayStart clean may_recover boots servers m (x.peers number).site next) (sim.me number) may.1)

  -- ---- all events

  record FollowsAll (x : peers.Ensemble S) (y : laws.Ensemble Call S) (events : List (peers.Event S)) : Type 0 where
    law_event : List (laws.Event Call S)
    may : laws.MayRun (profile_for servers) may_recover boots servers y law_event
    sim : Sim (peers.after_events x events) (laws.after_events (profile_for servers) y law_event)

  all_events : (x : peers.Ensemble S) (y : laws.Ensemble Call S) (events : List (peers.Event S)) → Sim x y → peers.MayRun clean may_recover boots servers x events → FollowsAll x y events
  all_events x y [] sim may = record { law_event = []; may = tt; sim = sim }
  all_events x y (event ∷ events) sim may =
      let one = one_event x y event sim may.0 in
      let rest = all_events (peers.after_event x event) (next_law y one.law_event) events one.sim may.1 in
      record { law_event = one.law_event ∷ rest.law_event; may = (one.may, rest.may); sim = rest.sim }

  after_both : (x : peers.Ensemble S) (a b : List (peers.Event S)) → peers.after_events x (a ++ b) ≡ peers.after_events (peers.after_events x a) b
  after_both x [] b = refl
  after_both x (event ∷ a) b = after_both (peers.after_event x event) a b

  first_of_run : (x : peers.Ensemble S) (a b : List (peers.Event S)) → peers.MayRun clean may_recover boots servers x (a ++ b) → peers.MayRun clean may_recover boots servers x a
  first_of_run x [] b may = tt
  first_of_run x (event ∷ a) b may = (may.0, first_of_run (peers.after_event x event) a b may.1)

  rest_of_run : (x : peers.Ensemble S) (a b : List (peers.Event S)) → peers.MayRun clean may_recover boots servers x (a ++ b) → peers.MayRun clean may_recover boots servers (peers.after_events x a) b
  rest_of_run x [] b may = may
  rest_of_run x (event ∷ a) b may = rest_of_run (peers.after_event x event) a b may.1

  pub laws_both : (y : laws.Ensemble Call S) (a b : List (laws.Event Call S)) → laws.MayRun (profile_for servers) may_recover boots servers y a
      → laws.MayRun (profile_for servers) may_recover boots servers (laws.after_events (profile_for servers) y a) b → laws.MayRun (profile_for servers) may_recover boots servers y (a ++ b)
  laws_both y [] b p q = q
  laws_both y (event ∷ a) b p q = (p.0, laws_both (next_law y event) a b p.1 q)

  pub laws_after : (y : laws.Ensemble Call S) (a b : List (laws.Event Call S)) → laws.after_events (profile_for servers) y (a ++ b) ≡ laws.after_events (profile_for servers) (laws.after_events (profile_for servers) y a) b
  laws_after y [] b = refl
  laws_after y (event ∷ a) b = laws_after (next_law y event) a b

  -- ---- the first start

  abbrev pub new_site : (number : ℕ) (site : Site S) → peers.IsNewSite clean may_recover boots servers site → laws.Site Call S
  new_site number (sites.Stopped (Some storage)) new = laws.Stopped (restored servers number (laws.no_stable (profile_for servers) may_recover boots servers)) 0 0 nothing storage
  new_site number (sites.Stopped None) new = absurd new
  new_site number (sites.Runs host) new = absurd new

  pub new_same : (number : ℕ) (site : Site S) (new : peers.IsNewSite clean may_recover boots servers site) → Same site (new_site number site new)
  new_same number (sites.Stopped (Some storage)) new = refl
  new_same number (sites.Stopped None) new = absurd new
  new_same number (sites.Runs host) new = absurd new

  pub new_law : (number : ℕ) (site : Site S) (new : peers.IsNewSite clean may_recover boots servers site) → laws.IsNewSite (profile_for servers) may_recover boots servers number (new_site number site new)
  new_law number (sites.Stopped (Some storage)) new = (refl, (refl, (refl, (refl, new))))
  new_law number (sites.Stopped None) new = absurd new
  new_law number (sites.Runs host) new = absurd new

  -- ---- agreement

  pub sites_agree : (one other : Site S) (s t : laws.Site Call S) → Same one s → Same other t → laws.SitesAgree (profile_for servers) may_recover boots servers s t → peers.SitesAgree clean may_recover boots servers one other
  sites_agree (sites.Runs one) (sites.Runs other) (laws.Runs it boot used) (laws.Runs it2 boot2 used2) same same2 agree =
      subst (λ (v : HostView Call S). IsPrefix (delivered_in one.host.state) (delivered_in v.state) ⊎ IsPrefix (delivered_in v.state) (delivered_in one.host.state)) same2.0
      (subst (λ (v : HostView Call S). IsPrefix (delivered_in v.state) (delivered_in it2.state) ⊎ IsPrefix (delivered_in it2.state) (delivered_in v.state)) same.0 agree)
  sites_agree (sites.Runs one) (sites.Runs other) (laws.Runs it boot used) (laws.Stopped last boot2 used2 turn gone) same same2 agree = absurd same2
  sites_agree (sites.Runs one) (sites.Runs other) (laws.Stopped last boot used turn gone) t same same2 agree = absurd same
  sites_agree (sites.Runs one) (sites.Stopped storage) s t same same2 agree = tt
  sites_agree (sites.Stopped storage) other s t same same2 agree = tt

  pub agree_all : laws.ServersAgree (profile_for servers) may_recover boots servers → peers.PeersAgree clean may_recover boots servers
  agree_all law x before between new may p q p_server q_server =
      let y : laws.Ensemble Call S = record { site = λ number. new_site number (x.peers number).site (new.peers number).site; flight = x.flight } in
      let is_new : laws.IsNew (profile_for servers) may_recover boots servers y =
      record { few = new.few; sites = λ number. new_law number (x.peers number).site (new.peers number).site; flight = new.flight } in
      let sim : Sim x y = record { me = λ number. (new.peers number).me; site = λ number. new_same number (x.peers number).site (new.peers number).site; flight = λ line. refl } in
      let first = all_events x y before sim (first_of_run x before between may) in
      let later = all_events (peers.after_events x before) (laws.after_events (profile_for servers) y first.law_event) between first.sim (rest_of_run x before between may) in
      let run = laws_both y first.law_event later.law_event first.may later.may in
      let last : Sim (peers.after_events x (before ++ between)) (laws.after_events (profile_for servers) y (first.law_event ++ later.law_event)) =
      subst (λ (e : peers.Ensemble S). Sim e (laws.after_events (profile_for servers) y (first.law_event ++ later.law_event))) (sym (after_both x before between))
      (subst (λ (e : laws.Ensemble Call S). Sim (peers.after_events (peers.after_events x before) between) e) (sym (laws_after y first.law_event later.law_event)) later.sim) in
      sites_agree ((peers.after_events x before).peers p).site ((peers.after_events x (before ++ between)).peers q).site
      ((laws.after_events (profile_for servers) y first.law_event).site p) ((laws.after_events (profile_for servers) y (first.law_event ++ later.law_event)).site q)
      (first.sim.site p) (last.site q) (law y first.law_event later.law_event is_new run p q p_server q_server)
