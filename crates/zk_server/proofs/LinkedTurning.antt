-- A turn of a server with links of bytes, from its parts.
use Rattle.std.proofs.Common.{◌≡◌, ℕ, zero, suc, true, List, [], ◌∷◌, map, Option, None, refl, ap, ◌∙◌, subst}
use Rattle.zab_epoch.specs.declared.message.Message.{Message}
use Rattle.zab_epoch.specs.declared.stable.Stable.{Stable}
use Rattle.zk_host.specs.declared.replica_host.ReplicaHost.{ReplicaHost}
use Rattle.zk_peer_links.specs.Links.{HearsAll, LinkView, hearing, link_at, none_of}
use Rattle.zk_peer_links.specs.Outputs.{Writes, told}
use Rattle.zk_peer_links.specs.declared.arrival.Arrival.{Arrival}
use Rattle.zk_peer_links.specs.declared.link_input.LinkInput.{LinkInput}
use Rattle.zk_peer_links.specs.declared.notice.Notice.{Notice}
use Rattle.zk_requests.specs.declared.call.Call.{Call}
use Rattle.zk_server.specs.declared.member.Member.{Member}
use Rattle.zk_server.specs.declared.site.Site.{Site}
use Rattle.zk_server.specs.declared.site.Site.TheVariants as sites
use Rattle.zk_server.specs.Elections.{ElectionView, notice_of}
use Rattle.zk_server.specs.LinkedPeers.{AllClosed, LinkedStops, LinkedTurns, ended_peer, linked}
use Rattle.zk_server.specs.LinkedPeers as stopping
use Rattle.zk_server.specs.Peers.{PeerView, Stops, Turns, peer}
use Rattle.zk_server.specs.Sites.{is_running, storage_in}

none_at : (links : List (Option LinkView)) (place : ℕ) → link_at (none_of links) place ≡ None
none_at [] place = refl
none_at (link ∷ links) zero = refl
none_at (link ∷ links) (suc place) = none_at links place

pub closed_all : (links new : List (Option LinkView)) → new ≡ none_of links → AllClosed new
closed_all links new is place = ap (λ (l : List (Option LinkView)). link_at l place) is ∙ none_at links place

pub record Runs {S : Type 0} (site : Site S) : Type 0 where
  pub host : ReplicaHost S
  pub is : site ≡ sites.Runs host

pub runs_of : {S : Type 0} (site : Site S) → is_running site ≡ true → Runs site
runs_of (sites.Runs host) running = record { host = host; is = refl }
runs_of (sites.Stopped storage) running = absurd cc

pub ended_as : {S : Type 0} (old new : PeerView S) → new.me ≡ old.me → new.election ≡ old.election → new.site ≡ sites.Stopped (storage_in old.site) → new ≡ ended_peer old
ended_as {S} old new me election site =
    ap (λ (m : Member). peer m new.election new.site) me ∙ ap (λ (e : ElectionView). peer old.me e new.site) election ∙ ap (λ (s : Site S). peer old.me old.election s) site

module _ {S : Type 0} (may_recover : S → Stable → Type 0) (boots : S → ℕ) (inputs : List LinkInput) (old new : PeerView S) (links between now left : List (Option LinkView)) where
  -- memory runs out for what comes
  pub unheard : is_running old.site ≡ true → new ≡ ended_peer old → now ≡ none_of left → LinkedStops may_recover boots inputs (linked old links) (linked new now)
  unheard running ends closed =
      let runs = runs_of old.site running in
      record { why = stopping.Unheard runs.host runs.is ends; closed = closed_all left now closed }

  module _ (arrivals : List Arrival) (ended : List ℕ) (hears : HearsAll old.me.number inputs (hearing links [] []) (hearing between arrivals ended)) where
    -- the server stops
    pub turn_fails : Stops may_recover boots arrivals old new → now ≡ none_of left → LinkedStops may_recover boots inputs (linked old links) (linked new now)
    turn_fails stops closed = record { why = stopping.Failed arrivals between ended hears stops; closed = closed_all left now closed }

    -- memory runs out for what is to be written
    pub unwritten : (mid : PeerView S) (messages : List (Message Call)) → Turns may_recover boots arrivals old mid messages → new ≡ ended_peer mid → now ≡ none_of left
        → LinkedStops may_recover boots inputs (linked old links) (linked new now)
    unwritten mid messages turns ends closed = record { why = stopping.Unwritten arrivals between ended hears mid messages turns ends; closed = closed_all left now closed }

    pub turns_all : (messages : List (Message Call)) (notice : Notice) (outputs : List (List ℕ)) → Turns may_recover boots arrivals old new messages → notice ≡ notice_of new.election → Writes notice [] messages between outputs
        → now ≡ map (told notice) between → LinkedTurns may_recover boots inputs (linked old links) (linked new now) outputs ended
    turns_all messages notice outputs turns said writes told_now = record {
      arrivals = arrivals;
      between = between;
      messages = messages;
      hears = hears;
      turns = turns;
      writes = subst (λ (n : Notice). Writes n [] messages between outputs) said writes;
      links = told_now ∙ ap (λ (n : Notice). map (told n) between) said;
    }
