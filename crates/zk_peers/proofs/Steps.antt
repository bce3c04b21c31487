-- The steps of peers.
use Rattle.std.proofs.Common.{◌≡◌, ◌≢◌, ℕ, Bool, true, false, List, [], ◌++◌, length, Option, Some, None, refl, sym, ap, ◌∙◌, subst}
use Rattle.zab_epoch.specs.declared.message.Message.{Message}
use Rattle.zab_epoch.specs.declared.stable.Stable.{Stable}
use Rattle.zab_host.specs.declared.vote.Vote.{Vote}
use Rattle.zk_requests.specs.declared.call.Call.{Call}
use Rattle.zk_peers.specs.declared.cut.Cut.{Cut}
use Rattle.zk_peers.specs.declared.peers.Peers.{Peers}
use Rattle.zk_peers.specs.declared.place.Place.{Place}
use Rattle.zk_peers.specs.Elections.{IsWinner}
use Rattle.zk_peers.specs.Hosts.{setting_for}
use Rattle.zk_peers.specs.Links.{mail_for}
use Rattle.zk_peers.specs.Peers.{candidates, is_up_at, is_leader, leader_without, SameAround, own_mail, TakesRoleAt, FirstTakeRoles, Leads, IsElected, Elects, FirstRejoin, Rejoin, Heals, Crashes, FollowsIf, RestartsAt, Receives, FailsAt}
use Rattle.zk_peers.specs.Places.{ChangesAt, HearsAt, Restarts, after_crash, is_up}

module _ {S : Type 0} (may_recover : S → Stable → Type 0) (boots : S → ℕ) (old new : Peers S) where
  around : new.cuts ≡ old.cuts → new.posted ≡ old.posted → new.arriving ≡ old.arriving → SameAround old new
  around cuts posted arriving = record { cuts = cuts; posted = posted; arriving = arriving }

  pub leads : (leader : ℕ) → FirstTakeRoles may_recover boots leader (length old.places.items) old.places.items new.places.items → new.leader ≡ Some leader
      → new.cuts ≡ old.cuts → new.posted ≡ old.posted ++ own_mail new.places.items leader → new.arriving ≡ old.arriving → Leads may_recover boots leader old new
  leads leader roles is cuts posted arriving = record { roles = roles; leader_is = is; posted = posted; cuts = cuts; arriving = arriving }

  pub elects_one : (vote : Vote) (votes : List Vote) → votes ≡ candidates old.cuts.items old.places.items → IsWinner vote votes → Leads may_recover boots vote.server old new
      → Elects may_recover boots (Some vote.server) old new
  elects_one vote votes are wins leads =
      (record { vote = vote; wins = subst (IsWinner vote) are wins; is = refl }, leads)

  pub elects_none : (votes : List Vote) → votes ≡ candidates old.cuts.items old.places.items → votes ≡ [] → new.leader ≡ None → new.places ≡ old.places
      → new.cuts ≡ old.cuts → new.posted ≡ old.posted → new.arriving ≡ old.arriving → Elects may_recover boots None old new
  elects_none votes are none leader places cuts posted arriving = (sym are ∙ none, leader, places, around cuts posted arriving)

  pub heals : new.cuts.items ≡ [] → Rejoin may_recover boots old.cuts.items old.leader old.places.items new.places.items → new.leader ≡ old.leader → new.posted ≡ old.posted → new.arriving ≡ old.arriving
      → Heals may_recover boots old new
  heals cuts rejoin leader posted arriving = record { cuts = cuts; rejoin = rejoin; leader_is = leader; posted = posted; arriving = arriving }

  pub crashes : (server : ℕ) → is_up_at old.places.items server ≡ true → ChangesAt server (λ before after. after ≡ after_crash before) old.places.items new.places.items
      → new.leader ≡ leader_without old.leader server → new.cuts ≡ old.cuts → new.posted ≡ old.posted → new.arriving ≡ old.arriving → Crashes may_recover boots server old new
  crashes server up crash leader cuts posted arriving = record { up = up; crash = crash; leader_is = leader; around = around cuts posted arriving }

  pub restarts : (clean : S → Type 0) (server : ℕ) (between : List (Place S)) → ChangesAt server (Restarts clean may_recover boots (length old.places.items) server) old.places.items between
      → FollowsIf may_recover boots old.leader server between new.places.items → new.leader ≡ old.leader → new.cuts ≡ old.cuts → new.posted ≡ old.posted → new.arriving ≡ old.arriving
      → RestartsAt may_recover boots clean server old new
  restarts clean server between start follow leader cuts posted arriving = record { between = between; start = start; follow = follow; leader_is = leader; around = around cuts posted arriving }

  pub receives : (server : ℕ) → ChangesAt server (HearsAt may_recover boots (setting_for (length old.places.items)) (mail_for old.cuts.items server old.arriving)) old.places.items new.places.items
      → new.leader ≡ old.leader → new.cuts ≡ old.cuts → new.posted ≡ old.posted → new.arriving ≡ old.arriving → Receives may_recover boots server old new
  receives server hears leader cuts posted arriving = record { hears = hears; leader_is = leader; around = around cuts posted arriving }

  pub fails : (server : ℕ) → ChangesAt server (λ before after. is_up after ≡ true) old.places.items new.places.items
      → new.leader ≡ old.leader → new.cuts ≡ old.cuts → new.posted ≡ old.posted → new.arriving ≡ old.arriving → FailsAt server old new
  fails server up leader cuts posted arriving = record { fails = up; leader_is = leader; around = around cuts posted arriving }
