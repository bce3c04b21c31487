-- What servers with links of bytes do is what servers with links of messages do.
use Rattle.std.proofs.Common.{◌≡◌, ◌≢◌, ◌==◌, ℕ, zero, suc, Bool, true, false, if◌then◌else◌, List, [], ◌∷◌, ◌++◌, length, map, drop, filter, Option, Some, None, refl, sym, ap, ◌∙◌, append-nil, subst, arith}
use Rattle.std.proofs.lemmas.Bool.Decides.{nat_tests}
use Rattle.std.proofs.lemmas.List.{drop_at}
use Rattle.zab_epoch.specs.declared.message.Message.{Message}
use Rattle.zab_epoch.specs.declared.stable.Stable.{Stable}
use Rattle.zab_model.specs.Worlds.{is_server}
use Rattle.zk_host.specs.declared.replica_host.ReplicaHost.{ReplicaHost}
use Rattle.zk_peer_links.specs.Links.{HearsAll, LinkView, hearing, link_at}
use Rattle.zk_peer_links.specs.Outputs.{told}
use Rattle.zk_peer_links.specs.declared.arrival.Arrival.{Arrival}
use Rattle.zk_peer_links.specs.declared.link_input.LinkInput.{LinkInput}
use Rattle.zk_peer_links.specs.declared.notice.Notice.{Notice}
use Rattle.zk_requests.specs.declared.call.Call.{Call}
use Rattle.zk_server.specs.declared.member.Member.{Member}
use Rattle.zk_server.specs.declared.site.Site.{Site}
use Rattle.zk_server.specs.declared.site.Site.TheVariants as sites
use Rattle.zk_server.specs.Elections.{notice_of}
use Rattle.zk_server.specs.Ensembles as peers
use Rattle.zk_server.specs.LinkedEnsembles as bytes
use Rattle.zk_server.specs.LinkedEnsembles.{Differ, LinkedEnsemble, LinkedEvent, MayCome, flight_after, used_after, with_server, written_from, after_linked, after_all_linked}
use Rattle.zk_server.specs.LinkedEnsembles.{Turned, Failed, Ended, Started}
use Rattle.zk_server.specs.LinkedPeers.{AllClosed, LinkedStops, LinkedTurns, LinkedView, StopsBy, ended_peer, linked}
use Rattle.zk_server.specs.LinkedPeers.{Unheard, Unwritten}
use Rattle.zk_server.specs.LinkedPeers as stopping
use Rattle.zk_server.specs.Mail.{brought_on}
use Rattle.zk_server.specs.Peers.{PeerView, Stops, Turns}
use Rattle.zk_server.specs.Sites.{storage_in}
use Rattle.zk_server.proofs.Linking.{Carries, Heard, Links, Unmoved, hears_all, unmoved}
use Rattle.zk_server.proofs.LinkWriting.{Wrote, carries_more, route, wrote, wrote_nothing}

-- ---- what a server's connections carry, after a turn

-- no connection is carry
pub closed_links : (reader : ℕ → ℕ) (number : ℕ) (links : List (Option LinkView)) (flight : ℕ → List ℕ) (used : ℕ → Bool) (left : ℕ → List (Message Call)) → AllClosed links → Links reader number links flight used left
closed_links reader number links flight used left closed = record {
  known = λ place link at. (let no : None ≡ Some link = sym (closed place) ∙ at in absurd cc);
  unique = λ p q one other at_p at_q same. (let no : None ≡ Some one = sym (closed p) ∙ at_p in absurd cc);
  carry = λ place link at. (let no : None ≡ Some link = sym (closed place) ∙ at in absurd cc);
}

-- the connection as it was before a notice was written
told_at : (notice : Notice) (links : List (Option LinkView)) (place : ℕ) (link : LinkView) → link_at (map (told notice) links) place ≡ Some link
    → (was : LinkView) × ((link_at links place ≡ Some was) × ((was.number ≡ link.number) × (was.rest ≡ link.rest)))
told_at notice [] place link at = absurd cc
told_at notice (None ∷ links) zero link at = absurd cc
told_at notice (Some was ∷ links) zero link at =
    (let e : record was { told = Some notice } ≡ link = cc in (was, (refl, (ap (λ (l : LinkView). l.number) e, ap (λ (l : LinkView). l.rest) e))))
told_at notice (slot ∷ links) (suc place) link at = told_at notice links place link at

pub told_links : (reader : ℕ → ℕ) (number : ℕ) (notice : Notice) (links new : List (Option LinkView)) (flight : ℕ → List ℕ) (used : ℕ → Bool) (left : ℕ → List (Message Call)) → new ≡ map (told notice) links
    → Links reader number links flight used left → Links reader number new flight used left
told_links reader number notice links new flight used left now is = subst (λ (l : List (Option LinkView)). Links reader number l flight used left) (sym now)
    record {
      known = λ place link at. (let was = told_at notice links place link at in subst (λ (n : ℕ). (used n ≡ true) × ((reader n ≡ number) × (n ≢ 0))) was.1.1.0 (is.known place was.0 was.1.0));
      unique = λ p q one other at_p at_q same. (let was = told_at notice links p one at_p in
          let old = told_at notice links q other at_q in
          is.unique p q was.0 old.0 was.1.0 old.1.0 (was.1.1.0 ∙ same ∙ sym old.1.1.0));
      carry = λ place link at. (let was = told_at notice links place link at in
          subst (λ (r : List ℕ). Carries r (flight link.number) (left link.number)) was.1.1.1 (subst (λ (n : ℕ). Carries was.0.rest (flight n) (left n)) was.1.1.0 (is.carry place was.0 was.1.0)));
    }

-- more is written on connections
pub more_links : (reader : ℕ → ℕ) (number : ℕ) (links : List (Option LinkView)) (flight more : ℕ → List ℕ) (used : ℕ → Bool) (left others now : ℕ → List (Message Call)) → ((line : ℕ) → line ≢ 0 → Wrote (more line) (others line))
    → ((line : ℕ) → now line ≡ left line ++ others line) → Links reader number links flight used left → Links reader number links (λ line. flight line ++ more line) used now
more_links reader number links flight more used left others now writes is it = record {
  known = it.known;
  unique = it.unique;
  carry = λ place link at.
      subst (λ (l : List (Message Call)). Carries link.rest (flight link.number ++ more link.number) l) (sym (is link.number))
      (carries_more link.rest (flight link.number) (more link.number) (left link.number) (others link.number) (it.carry place link at) (writes link.number (it.known place link at).1.1));
}

-- what another server's connections carry stays
pub other_links : (reader : ℕ → ℕ) (number other : ℕ) (links : List (Option LinkView)) (flight now : ℕ → List ℕ) (used known : ℕ → Bool) (sent left : ℕ → List (Message Call)) → other ≢ number
    → ((line : ℕ) → (reader line ≢ number) → (now line ≡ flight line) × ((left line ≡ sent line) × (known line ≡ used line))) → Links reader other links flight used sent → Links reader other links now known left
other_links reader number other links flight now used known sent left differs still is = record {
  known = λ place link at. (let was = is.known place link at in ((foreign place link at).1.1 ∙ was.0, was.1));
  unique = is.unique;
  carry = λ place link at.
      subst (λ (l : List ℕ). Carries link.rest l (left link.number)) (sym (foreign place link at).0)
      (subst (λ (l : List (Message Call)). Carries link.rest (flight link.number) l) (sym (foreign place link at).1.0) (is.carry place link at));
}
  where
    foreign : (place : ℕ) (link : LinkView) → link_at links place ≡ Some link → (now link.number ≡ flight link.number) × ((left link.number ≡ sent link.number) × (known link.number ≡ used link.number))
    foreign place link at = still link.number (λ same. differs (sym (is.known place link at).1.0 ∙ same))

module _ {S : Type 0} (clean : S → Type 0) (may_recover : S → Stable → Type 0) (boots : S → ℕ) (servers : ℕ) (reader : ℕ → ℕ) where
  record Sim (x : LinkedEnsemble S) (y : peers.Ensemble S) : Type 0 where
    peer : (number : ℕ) → y.peers number ≡ (x.servers number).peer
    links : (number : ℕ) → Links reader number (x.servers number).links x.flight x.used y.flight
    fresh : (line : ℕ) → x.used line ≡ false → Carries [] (x.flight line) (y.flight line)
    none : x.used 0 ≡ true

  record Follows (x : LinkedEnsemble S) (y : peers.Ensemble S) (event : LinkedEvent S) : Type 0 where
    events : List (peers.Event S)
    may : peers.MayRun clean may_recover boots servers y events
    sim : Sim (after_linked x event) (peers.after_events y events)

  -- ---- one server changes

  peer_if : (n number : ℕ) (next : PeerView S) (new : LinkedView S) (old : PeerView S) (was : LinkedView S) → next ≡ new.peer → old ≡ was.peer → (b : Bool) → (n == number) ≡ b
      → (if b then next else old) ≡ (if b then new else was).peer
  peer_if n number next new old was now earlier true is = now
  peer_if n number next new old was now earlier false is = earlier

  links_if : (n number : ℕ) (new was : LinkedView S) (flight : ℕ → List ℕ) (used : ℕ → Bool) (left : ℕ → List (Message Call)) → Links reader number new.links flight used left
      → (n ≢ number → Links reader n was.links flight used left) → (b : Bool) → (n == number) ≡ b → Links reader n (if b then new else was).links flight used left
  links_if n number new was flight used left now others true is = (let same : number ≡ n = grind (arith, nat_tests) in subst (λ (m : ℕ). Links reader m new.links flight used left) same now)
  links_if n number new was flight used left now others false is = others (grind (arith, nat_tests))

  changes : (x : LinkedEnsemble S) (y : peers.Ensemble S) (number : ℕ) (new : LinkedView S) (next : PeerView S) (flight : ℕ → List ℕ) (used : ℕ → Bool) (left : ℕ → List (Message Call)) → Sim x y → next ≡ new.peer
      → Links reader number new.links flight used left → ((n : ℕ) → n ≢ number → Links reader n (x.servers n).links flight used left) → ((line : ℕ) → used line ≡ false → Carries [] (flight line) (left line)) → used 0 ≡ true
      → Sim (record { servers = with_server number new x.servers; flight = flight; used = used }) (record { peers = peers.with_peer number next y.peers; flight = left })
  changes x y number new next flight used left sim now own others fresh none = record {
    peer = λ n. peer_if n number next new (y.peers n) (x.servers n) now (sim.peer n) (n == number) refl;
    links = λ n. links_if n number new (x.servers n) flight used left own (others n) (n == number) refl;
    fresh = fresh;
    none = none;
  }

  -- ---- a turn

  begins : (x : LinkedEnsemble S) (y : peers.Ensemble S) (number : ℕ) → Sim x y → Heard reader number x.flight x.used y.flight (hearing (x.servers number).links [] []) x.flight x.used
  begins x y number sim = record {
    left = y.flight;
    splits = λ line. refl;
    links = sim.links number;
    fresh = sim.fresh;
    others = λ line foreign. (refl, (refl, refl));
    none = sim.none;
  }

  heard_of : (x : LinkedEnsemble S) (y : peers.Ensemble S) (number : ℕ) (its : List LinkInput) (between : List (Option LinkView)) (arrivals : List Arrival) (ended : List ℕ) → Sim x y → MayCome reader number its x.flight x.used
      → HearsAll (x.servers number).peer.me.number its (hearing (x.servers number).links [] []) (hearing between arrivals ended)
      → Heard reader number x.flight x.used y.flight (hearing between arrivals ended) (flight_after its x.flight) (used_after its x.used)
  heard_of x y number its between arrivals ended sim may hears =
      hears_all reader number x.flight x.used y.flight (x.servers number).peer.me.number its (hearing (x.servers number).links [] []) (hearing between arrivals ended) x.flight x.used may hears (begins x y number sim)

  module _ (x : LinkedEnsemble S) (y : peers.Ensemble S) (number : ℕ) (its : List LinkInput) (between : List (Option LinkView)) (arrivals : List Arrival) (ended : List ℕ) (sim : Sim x y)
      (heard : Heard reader number x.flight x.used y.flight (hearing between arrivals ended) (flight_after its x.flight) (used_after its x.used)) where
    brings : peers.Brings clean may_recover boots servers y arrivals
    brings line = record { rest = heard.left line; is = heard.splits line }

    arrived_is : (line : ℕ) → peers.arrived arrivals y.flight line ≡ heard.left line
    arrived_is line = ap (drop (length (brought_on arrivals line))) (sym (heard.splits line)) ∙ drop_at (brought_on arrivals line) (heard.left line) (length (brought_on arrivals line)) refl

    posted_is : (line_to : ℕ → ℕ) (messages : List (Message Call)) (line : ℕ) → peers.posted line_to messages (peers.arrived arrivals y.flight) line ≡ heard.left line ++ filter (λ message. line_to message.addressee == line) messages
    posted_is line_to messages line = ap (λ l. l ++ filter (λ message. line_to message.addressee == line) messages) (arrived_is line)

    -- the state after bytes and messages are written
    after : (new : LinkedView S) (next : PeerView S) (more : ℕ → List ℕ) (others left : ℕ → List (Message Call)) → next ≡ new.peer → Links reader number new.links (flight_after its x.flight) (used_after its x.used) heard.left
        → ((line : ℕ) → line ≢ 0 → Wrote (more line) (others line)) → ((line : ℕ) → left line ≡ heard.left line ++ others line)
        → Sim (record { servers = with_server number new x.servers; flight = λ line. flight_after its x.flight line ++ more line; used = used_after its x.used }) (record { peers = peers.with_peer number next y.peers; flight = left })
    after new next more others left now own writes is =
        changes x y number new next (λ line. flight_after its x.flight line ++ more line) (used_after its x.used) left sim now
        (more_links reader number new.links (flight_after its x.flight) more (used_after its x.used) heard.left others left writes is own)
        (λ n differs. more_links reader n (x.servers n).links (flight_after its x.flight) more (used_after its x.used) heard.left others left writes is
        (other_links reader number n (x.servers n).links x.flight (flight_after its x.flight) x.used (used_after its x.used) y.flight heard.left differs heard.others (sim.links n)))
        (λ line unused.
        (let some : line ≢ 0 = λ is_zero. (let no : true ≡ false = sym heard.none ∙ ap (used_after its x.used) (sym is_zero) ∙ unused in absurd cc) in
        subst (λ (l : List (Message Call)). Carries [] (flight_after its x.flight line ++ more line) l) (sym (is line))
        (carries_more [] (flight_after its x.flight line) (more line) (heard.left line) (others line) (heard.fresh line unused) (writes line some))))
        heard.none

  -- nothing more is written
  no_more : (x : LinkedEnsemble S) (y : peers.Ensemble S) → Sim (record { servers = x.servers; flight = λ line. x.flight line ++ []; used = x.used }) y → Sim x y
  no_more x y sim = record {
    peer = sim.peer;
    links = λ n. record {
      known = (sim.links n).known;
      unique = (sim.links n).unique;
      carry = λ place link at. subst (λ (l : List ℕ). Carries link.rest l (y.flight link.number)) (append-nil (x.flight link.number)) ((sim.links n).carry place link at);
    };
    fresh = λ line unused. subst (λ (l : List ℕ). Carries [] l (y.flight line)) (append-nil (x.flight line)) (sim.fresh line unused);
    none = sim.none;
  }

  turned : (x : LinkedEnsemble S) (y : peers.Ensemble S) (number : ℕ) (its : List LinkInput) (line_to : ℕ → ℕ) (next : LinkedView S) (outputs : List (List ℕ)) (ended : List ℕ) → Sim x y
      → bytes.MayHappen clean may_recover boots servers reader x (Turned number its line_to next outputs ended) → Follows x y (Turned number its line_to next outputs ended)
  turned x y number its line_to next outputs ended sim may =
      let call = may.1.1.1 in
      let notice = notice_of next.peer.election in
      let heard = heard_of x y number its call.between call.arrivals ended sim may.1.0 call.hears in
      let to = route notice [] call.messages line_to may.1.1.0 0 call.between in
      record {
        events = peers.Turned number call.arrivals to next.peer call.messages ∷ [];
        may = (
          (may.0, (brings x y number its call.between call.arrivals ended sim heard, subst (λ (p : PeerView S). Turns may_recover boots call.arrivals p next.peer call.messages) (sym (sim.peer number)) call.turns)),
          tt,
        );
        sim = after x y number its call.between call.arrivals ended sim heard next next.peer (written_from 1 line_to outputs) (λ line. filter (λ message. to message.addressee == line) call.messages)
            (peers.posted to call.messages (peers.arrived call.arrivals y.flight)) refl
            (told_links reader number notice call.between next.links (flight_after its x.flight) (used_after its x.used) heard.left call.links heard.links)
            (λ line some. wrote notice [] call.messages line_to may.1.1.0 line call.between outputs some call.writes)
            (posted_is x y number its call.between call.arrivals ended sim heard to call.messages);
      }

  -- ---- a turn that stops

  -- a process that ends leaves its store
  ends_site : (it : PeerView S) (before : ReplicaHost S) (next : PeerView S) → it.site ≡ sites.Runs before → next ≡ ended_peer it → peers.stopped_on before.host.storage it ≡ next
  ends_site it before next ran is = ap (λ (s : Site S). record it { site = sites.Stopped (storage_in s) }) (sym ran) ∙ sym is

  may_end : (site : Site S) (before : ReplicaHost S) → site ≡ sites.Runs before → peers.MayEnd clean may_recover boots servers site before.host.storage
  may_end site before ran = subst (λ (s : Site S). peers.MayEnd clean may_recover boots servers s before.host.storage) (sym ran) record { crash = λ found may. may; starts = omega arith }

  unheard : (x : LinkedEnsemble S) (y : peers.Ensemble S) (number : ℕ) (its : List LinkInput) (next : LinkedView S) → Sim x y → is_server servers number ≡ true → MayCome reader number its x.flight x.used → AllClosed next.links
      → (before : ReplicaHost S) → (x.servers number).peer.site ≡ sites.Runs before → next.peer ≡ ended_peer (x.servers number).peer → Follows x y (Failed number its next)
  unheard x y number its next sim server may closed before ran ends =
      let still : Unmoved reader number x.flight x.used y.flight (flight_after its x.flight) (used_after its x.used) =
      unmoved reader number x.flight x.used y.flight its x.flight x.used may record { others = λ line foreign. (refl, refl); fresh = λ line unused. (refl, unused); none = sim.none } in
      let was = sim.peer number in
      let stopped : peers.stopped_on before.host.storage (y.peers number) ≡ next.peer =
      ap (λ (p : PeerView S). peers.stopped_on before.host.storage p) was ∙ ends_site (x.servers number).peer before next.peer ran ends in
      record {
        events = peers.Ended number before.host.storage ∷ [];
        may = ((server, may_end (y.peers number).site before (ap (λ (p : PeerView S). p.site) was ∙ ran)), tt);
        sim = changes x y number next (peers.stopped_on before.host.storage (y.peers number)) (flight_after its x.flight) (used_after its x.used) y.flight sim stopped
            (closed_links reader number next.links (flight_after its x.flight) (used_after its x.used) y.flight closed)
            (λ n differs. other_links reader number n (x.servers n).links x.flight (flight_after its x.flight) x.used (used_after its x.used) y.flight y.flight differs
            (λ line foreign. (let it = still.others line foreign in (it.0, (refl, it.1)))) (sim.links n))
            (λ line unused. (let it = still.fresh line unused in subst (λ (l : List ℕ). Carries [] l (y.flight line)) (sym it.0) (sim.fresh line it.1)))
            still.none;
      }

  failed_turn : (x : LinkedEnsemble S) (y : peers.Ensemble S) (number : ℕ) (its : List LinkInput) (next : LinkedView S) → Sim x y → is_server servers number ≡ true → MayCome reader number its x.flight x.used → AllClosed next.links
      → (arrivals : List Arrival) (between : List (Option LinkView)) (ended : List ℕ) → HearsAll (x.servers number).peer.me.number its (hearing (x.servers number).links [] []) (hearing between arrivals ended)
      → Stops may_recover boots arrivals (x.servers number).peer next.peer → Follows x y (Failed number its next)
  failed_turn x y number its next sim server may closed arrivals between ended hears stops =
      let heard = heard_of x y number its between arrivals ended sim may hears in
      record {
        events = peers.Failed number arrivals next.peer ∷ [];
        may = (
          (server, (brings x y number its between arrivals ended sim heard, subst (λ (p : PeerView S). Stops may_recover boots arrivals p next.peer) (sym (sim.peer number)) stops)),
          tt,
        );
        sim = no_more (after_linked x (Failed number its next)) (peers.after_event y (peers.Failed number arrivals next.peer))
            (after x y number its between arrivals ended sim heard next next.peer (λ line. []) (λ line. []) (peers.arrived arrivals y.flight) refl
            (closed_links reader number next.links (flight_after its x.flight) (used_after its x.used) heard.left closed)
            (λ line some. record { its = []; each = tt; whole = refl; said = refl })
            (λ line. arrived_is x y number its between arrivals ended sim heard line ∙ sym (append-nil (heard.left line))));
      }

  unwritten : (x : LinkedEnsemble S) (y : peers.Ensemble S) (number : ℕ) (its : List LinkInput) (next : LinkedView S) → Sim x y → is_server servers number ≡ true → MayCome reader number its x.flight x.used → AllClosed next.links
      → (arrivals : List Arrival) (between : List (Option LinkView)) (ended : List ℕ) → HearsAll (x.servers number).peer.me.number its (hearing (x.servers number).links [] []) (hearing between arrivals ended)
      → (mid : PeerView S) (messages : List (Message Call)) → Turns may_recover boots arrivals (x.servers number).peer mid messages → next.peer ≡ ended_peer mid → Follows x y (Failed number its next)
  unwritten x y number its next sim server may closed arrivals between ended hears mid messages turns ends =
      let heard = heard_of x y number its between arrivals ended sim may hears in
      let storage = turns.after.host.storage in
      let first = peers.Turned number arrivals (λ to. 0) mid messages in
      let there : (peers.after_event y first).peers number ≡ mid = (let yes : (number == number) ≡ true = grind (arith, nat_tests) in ap (λ (b : Bool). if b then mid else y.peers number) yes) in
      record {
        events = first ∷ peers.Ended number storage ∷ [];
        may = (
          (server, (brings x y number its between arrivals ended sim heard, subst (λ (p : PeerView S). Turns may_recover boots arrivals p mid messages) (sym (sim.peer number)) turns)),
          ((server, may_end ((peers.after_event y first).peers number).site turns.after (ap (λ (p : PeerView S). p.site) there ∙ turns.runs)), tt),
        );
        sim = twice x y number next mid (peers.stopped_on storage ((peers.after_event y first).peers number)) (flight_after its x.flight) (used_after its x.used) (peers.posted (λ to. 0) messages (peers.arrived arrivals y.flight))
            (no_more (record { servers = with_server number (linked (ended_peer mid) next.links) x.servers; flight = flight_after its x.flight; used = used_after its x.used })
            (record { peers = peers.with_peer number (ended_peer mid) y.peers; flight = peers.posted (λ to. 0) messages (peers.arrived arrivals y.flight) })
            (after x y number its between arrivals ended sim heard (linked (ended_peer mid) next.links) (ended_peer mid) (λ line. []) (λ line. filter (λ message. 0 == line) messages)
            (peers.posted (λ to. 0) messages (peers.arrived arrivals y.flight)) refl
            (closed_links reader number next.links (flight_after its x.flight) (used_after its x.used) heard.left closed)
            (λ line some. wrote_nothing messages line some)
            (posted_is x y number its between arrivals ended sim heard (λ to. 0) messages)))
            (ap (λ (p : PeerView S). peers.stopped_on storage p) there ∙ ends_site mid turns.after next.peer turns.runs ends) ends;
      }
    where
      -- the peer is written twice
      twice : (x : LinkedEnsemble S) (y : peers.Ensemble S) (number : ℕ) (next : LinkedView S) (mid last : PeerView S) (flight : ℕ → List ℕ) (used : ℕ → Bool) (left : ℕ → List (Message Call))
          → Sim (record { servers = with_server number (linked (ended_peer mid) next.links) x.servers; flight = flight; used = used }) (record { peers = peers.with_peer number (ended_peer mid) y.peers; flight = left })
          → last ≡ next.peer → next.peer ≡ ended_peer mid
          → Sim (record { servers = with_server number next x.servers; flight = flight; used = used }) (record { peers = peers.with_peer number last (peers.with_peer number mid y.peers); flight = left })
      twice x y number next mid last flight used left sim is ends = record {
        peer = λ n. by_test n (n == number) refl;
        links = λ n. subst (λ (p : PeerView S). Links reader n (with_server number (linked p next.links) x.servers n).links flight used left) (sym ends) (sim.links n);
        fresh = sim.fresh;
        none = sim.none;
      }
        where
          by_test : (n : ℕ) (b : Bool) → (n == number) ≡ b → (if b then last else (if b then mid else y.peers n)) ≡ (if b then next else x.servers n).peer
          by_test n true at = is
          by_test n false at =
              ap (λ (b : Bool). if b then ended_peer mid else y.peers n) (sym at) ∙ sim.peer n ∙ ap (λ (b : Bool). (if b then linked (ended_peer mid) next.links else x.servers n).peer) at

  failed : (x : LinkedEnsemble S) (y : peers.Ensemble S) (number : ℕ) (its : List LinkInput) (next : LinkedView S) → Sim x y → is_server servers number ≡ true → MayCome reader number its x.flight x.used
      → AllClosed next.links → StopsBy may_recover boots its (x.servers number) next → Follows x y (Failed number its next)
  failed x y number its next sim server may closed (Unheard before ran ends) = unheard x y number its next sim server may closed before ran ends
  failed x y number its next sim server may closed (stopping.Failed arrivals between ended hears stops) = failed_turn x y number its next sim server may closed arrivals between ended hears stops
  failed x y number its next sim server may closed (Unwritten arrivals between ended hears mid messages turns ends) = unwritten x y number its next sim server may closed arrivals between ended hears mid messages turns ends

  -- ---- ends and starts

  same_peer : (x : LinkedEnsemble S) (y : peers.Ensemble S) (number : ℕ) (new : LinkedView S) (next : PeerView S) → Sim x y → next ≡ new.peer → AllClosed new.links
      → Sim (record { servers = with_server number new x.servers; flight = x.flight; used = x.used }) (record { peers = peers.with_peer number next y.peers; flight = y.flight })
  same_peer x y number new next sim now closed =
      changes x y number new next x.flight x.used y.flight sim now (closed_links reader number new.links x.flight x.used y.flight closed) (λ n differs. sim.links n) sim.fresh sim.none

  may_start : (me : Member) (site : Site S) (next : LinkedView S) → bytes.MayStart clean may_recover boots servers reader me site next → peers.MayStart clean may_recover boots servers me site next.peer × AllClosed next.links
  may_start me (sites.Stopped (Some storage)) next start = (record { starts = start.starts.starts; honest = start.honest }, start.starts.closed)
  may_start me (sites.Stopped None) next start = absurd start
  may_start me (sites.Runs host) next start = absurd start

  one_event : (x : LinkedEnsemble S) (y : peers.Ensemble S) (event : LinkedEvent S) → Sim x y → bytes.MayHappen clean may_recover boots servers reader x event → Follows x y event
  one_event x y (Turned number its line_to next outputs ended) sim may = turned x y number its line_to next outputs ended sim may
  one_event x y (Failed number its next) sim may = failed x y number its next sim may.0 may.1.0 may.1.1.closed may.1.1.why
  one_event x y (Ended number storage) sim may = record {
    events = peers.Ended number storage ∷ [];
    may = ((may.0, subst (λ (p : PeerView S). peers.MayEnd clean may_recover boots servers p.site storage) (sym (sim.peer number)) may.1), tt);
    sim = same_peer x y number (linked (peers.stopped_on storage (x.servers number).peer) []) (peers.stopped_on storage (y.peers number)) sim (ap (λ (p : PeerView S). peers.stopped_on storage p) (sim.peer number)) (λ place. refl);
  }
  one_event x y (Started number next) sim may =
      let start = may_start (x.servers number).peer.me (x.servers number).peer.site next may.1 in
      record {
        events = peers.Started number next.peer ∷ [];
        may = ((may.0, subst (λ (p : PeerView S). peers.MayStart clean may_recover boots servers p.me p.site next.peer) (sym (sim.peer number)) start.0), tt);
        sim = same_peer x y number next next.peer sim refl start.1;
      }

  -- ---- all events

  record FollowsAll (x : LinkedEnsemble S) (y : peers.Ensemble S) (events : List (LinkedEvent S)) : Type 0 where
    done : List (peers.Event S)
    may : peers.MayRun clean may_recover boots servers y done
    sim : Sim (after_all_linked x events) (peers.after_events y done)

  run_both : (y : peers.Ensemble S) (a b : List (peers.Event S)) → peers.MayRun clean may_recover boots servers y a → peers.MayRun clean may_recover boots servers (peers.after_events y a) b → peers.MayRun clean may_recover boots servers y (a ++ b)
  run_both y [] b first later = later
  run_both y (event ∷ a) b first later = (first.0, run_both (peers.after_event y event) a b first.1 later)

  after_both : (y : peers.Ensemble S) (a b : List (peers.Event S)) → peers.after_events y (a ++ b) ≡ peers.after_events (peers.after_events y a) b
  after_both y [] b = refl
  after_both y (event ∷ a) b = after_both (peers.after_event y event) a b

  all_events : (x : LinkedEnsemble S) (y : peers.Ensemble S) (events : List (LinkedEvent S)) → Sim x y → bytes.MayRun clean may_recover boots servers reader x events → FollowsAll x y events
  all_events x y [] sim may = record { done = []; may = tt; sim = sim }
  all_events x y (event ∷ events) sim may =
      let one = one_event x y event sim may.0 in
      let rest = all_events (after_linked x event) (peers.after_events y one.events) events one.sim may.1 in
      record {
        done = one.events ++ rest.done;
        may = run_both y one.events rest.done one.may rest.may;
        sim = subst (λ (e : peers.Ensemble S). Sim (after_all_linked x (event ∷ events)) e) (sym (after_both y one.events rest.done)) rest.sim;
      }

  linked_both : (x : LinkedEnsemble S) (a b : List (LinkedEvent S)) → after_all_linked x (a ++ b) ≡ after_all_linked (after_all_linked x a) b
  linked_both x [] b = refl
  linked_both x (event ∷ a) b = linked_both (after_linked x event) a b

  first_of_run : (x : LinkedEnsemble S) (a b : List (LinkedEvent S)) → bytes.MayRun clean may_recover boots servers reader x (a ++ b) → bytes.MayRun clean may_recover boots servers reader x a
  first_of_run x [] b may = tt
  first_of_run x (event ∷ a) b may = (may.0, first_of_run (after_linked x event) a b may.1)

  rest_of_run : (x : LinkedEnsemble S) (a b : List (LinkedEvent S)) → bytes.MayRun clean may_recover boots servers reader x (a ++ b) → bytes.MayRun clean may_recover boots servers reader (after_all_linked x a) b
  rest_of_run x [] b may = may
  rest_of_run x (event ∷ a) b may = rest_of_run (after_linked x event) a b may.1

  pub agree_linked : peers.PeersAgree clean may_recover boots servers → (x : LinkedEnsemble S) (before between : List (LinkedEvent S)) → bytes.IsNew clean may_recover boots servers reader x
      → bytes.MayRun clean may_recover boots servers reader x (before ++ between) → (p q : ℕ) → is_server servers p ≡ true → is_server servers q ≡ true
      → peers.SitesAgree clean may_recover boots servers ((after_all_linked x before).servers p).peer.site ((after_all_linked x (before ++ between)).servers q).peer.site
  agree_linked law x before between new may p q p_server q_server =
      let y : peers.Ensemble S = record { peers = λ number. (x.servers number).peer; flight = λ line. [] } in
      let nothing : (line : ℕ) → Carries [] (x.flight line) [] = λ line. record { its = []; each = tt; whole = new.flight line; said = refl } in
      let sim : Sim x y = record {
        peer = λ number. refl;
        links = λ number. closed_links reader number (x.servers number).links x.flight x.used (λ line. []) (new.closed number);
        fresh = λ line unused. nothing line;
        none = new.used;
      } in
      let is_new : peers.IsNew clean may_recover boots servers y = record { few = new.few; peers = new.peers; flight = λ line. refl } in
      let first = all_events x y before sim (first_of_run x before between may) in
      let later = all_events (after_all_linked x before) (peers.after_events y first.done) between first.sim (rest_of_run x before between may) in
      let run = run_both y first.done later.done first.may later.may in
      let one = ap (λ (v : PeerView S). v.site) (first.sim.peer p) in
      let two = ap (λ (e : peers.Ensemble S). (e.peers q).site) (after_both y first.done later.done) ∙ ap (λ (v : PeerView S). v.site) (later.sim.peer q)
      ∙ ap (λ (e : LinkedEnsemble S). (e.servers q).peer.site) (sym (linked_both x before between)) in
      subst (λ (s : Site S). peers.SitesAgree clean may_recover boots servers s ((after_all_linked x (before ++ between)).servers q).peer.site) one
      (subst (λ (s : Site S). peers.SitesAgree clean may_recover boots servers ((peers.after_events y first.done).peers p).site s) two (law y first.done later.done is_new run p q p_server q_server))
