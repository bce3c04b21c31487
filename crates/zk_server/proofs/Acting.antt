-- A host does what an election decides.
use Rattle.std.proofs.Common.{◌≡◌, ◌≢◌, ◌⊎◌, ◌==◌, inl, inr, ℕ, zero, suc, Bool, true, false, List, [], ◌∷◌, ◌++◌, slice_get, Option, Some, None, refl, sym, subst, arith}
use Rattle.std.proofs.lemmas.Bool.Decides.{nat_tests}
use Rattle.zab_broadcast.specs.Calls.{Setting}
use Rattle.zab_broadcast.specs.declared.state.State.{State}
use Rattle.zab_epoch.specs.declared.message.Message.{Message}
use Rattle.zab_epoch.specs.declared.role.Role.{Role}
use Rattle.zab_epoch.specs.declared.stable.Stable.{Stable}
use Rattle.zab_epoch.specs.Rules.{next_epoch}
use Rattle.zab_host.specs.Hosts.{Input, Receives, Submits, Syncs, Leads, Follows}
use Rattle.zab_host.specs.LoneLeaders.{acknowledgments_in, acknowledgments_by, own_messages, own_promise}
use Rattle.zab_host.specs.Votes.{vote_of}
use Rattle.zab_host.specs.declared.vote.Vote.{Vote}
use Rattle.zk_host.specs.declared.replica_host.ReplicaHost.{ReplicaHost}
use Rattle.zk_requests.specs.declared.call.Call.{Call}
use Rattle.zk_server.specs.declared.member.Member.{Member}
use Rattle.zk_server.specs.Deeds.{setting_for, Acknowledges, AllAmong, FailsAt, FailsBy, FailsToAct, HearsAll, IsAmong, LeadsNow, Offers, TakesBy}
use Rattle.zk_server.proofs.Hearing.{failure_of, failure_then}
use Rattle.zk_server_laws.specs.Turns.{AllHeard, IsHeard, IsOwnBody}

-- ---- own messages

abbrev pub AllOwn : List (Message Call) → Type 0
AllOwn [] = Unit {0}
AllOwn (message ∷ messages) = IsOwnBody message.body × AllOwn messages

own_in : (vote : Vote) (promised : ℕ) (next : Option ℕ) → AllOwn (acknowledgments_in {C = Call} vote promised next)
own_in vote promised None = tt
own_in vote promised (Some epoch) = (tt, (tt, (tt, tt)))

own_by : (vote : Vote) (promise : Option ℕ) → AllOwn (acknowledgments_by {C = Call} vote promise)
own_by vote None = tt
own_by vote (Some promised) = own_in vote promised (next_epoch promised)

pub own_all : (role : Role) (vote : Vote) → AllOwn (own_messages {C = Call} role vote)
own_all role vote = own_by vote (own_promise role vote.server)

own_at : (messages : List (Message Call)) (place : ℕ) (message : Message Call) → AllOwn messages → slice_get messages place ≡ Some message → IsOwnBody message.body
own_at [] place message own is = absurd cc
own_at (x ∷ messages) zero message own is = (let e : x ≡ message = cc in subst (λ (m : Message Call). IsOwnBody m.body) e own.0)
own_at (x ∷ messages) (suc place) message own is = own_at messages place message own.1 is

heard_own : (servers : ℕ) (messages : List (Message Call)) (input : Input Call) → servers ≡ 1 → AllOwn messages → IsAmong messages input → IsHeard servers (λ line. []) input
heard_own servers messages (Receives message) alone own among = inr (alone, own_at messages among.0 message own among.1)
heard_own servers messages (Submits call) alone own among = tt
heard_own servers messages (Syncs tag) alone own among = tt
heard_own servers messages Leads alone own among = tt
heard_own servers messages (Follows leader) alone own among = tt

pub all_heard_own : (servers : ℕ) (messages : List (Message Call)) (inputs : List (Input Call)) → servers ≡ 1 → AllOwn messages → AllAmong messages inputs → AllHeard servers (λ line. []) inputs
all_heard_own servers messages [] alone own among = tt
all_heard_own servers messages (input ∷ inputs) alone own among = (heard_own servers messages input alone own among.0, all_heard_own servers messages inputs alone own among.1)

pub heard_both : (servers : ℕ) (brought : ℕ → List (Message Call)) (a b : List (Input Call)) → AllHeard servers brought a → AllHeard servers brought b → AllHeard servers brought (a ++ b)
heard_both servers brought [] b p q = q
heard_both servers brought (input ∷ a) b p q = (p.0, heard_both servers brought a b p.1 q)

pub heard_offered : (servers : ℕ) (brought : ℕ → List (Message Call)) (setting : Setting Call) (state : State) (input : Input Call) (inputs : List (Input Call)) → IsHeard servers brought input → Offers setting state input inputs → AllHeard servers brought inputs
heard_offered servers brought setting state input inputs heard (inl taken) = subst (λ (l : List (Input Call)). AllHeard servers brought l) (sym taken.1) (heard, tt)
heard_offered servers brought setting state input inputs heard (inr dropped) = subst (λ (l : List (Input Call)). AllHeard servers brought l) (sym dropped.1.1) tt

heard_only : (servers : ℕ) (brought : ℕ → List (Message Call)) (input : Input Call) (inputs : List (Input Call)) → IsHeard servers brought input → (inputs ≡ []) ⊎ (inputs ≡ input ∷ []) → AllHeard servers brought inputs
heard_only servers brought input inputs heard (inl none) = subst (λ (l : List (Input Call)). AllHeard servers brought l) (sym none) tt
heard_only servers brought input inputs heard (inr one) = subst (λ (l : List (Input Call)). AllHeard servers brought l) (sym one) (heard, tt)

module _ {S : Type 0} (may_recover : S → Stable → Type 0) (boots : S → ℕ) (me : Member) where
  pub follow_fails : (leader : ℕ) (old new : ReplicaHost S) → FailsBy may_recover boots me (Follows leader) old new → FailsToAct may_recover boots me old new
  follow_fails leader old new fails = record { inputs = fails.inputs; heard = heard_only me.servers (λ line. []) (Follows leader) fails.inputs tt fails.only; failure = fails.failure }

  pub lead_fails : (old new : ReplicaHost S) → FailsBy may_recover boots me Leads old new → FailsToAct may_recover boots me old new
  lead_fails old new fails = record { inputs = fails.inputs; heard = heard_only me.servers (λ line. []) Leads fails.inputs tt fails.only; failure = fails.failure }

  leads_heard : (old mid : ReplicaHost S) (leads : TakesBy may_recover boots me Leads old mid) → AllHeard me.servers (λ line. []) leads.inputs
  leads_heard old mid leads = heard_offered me.servers (λ line. []) (setting_for me.servers) old.host.state Leads leads.inputs tt leads.offers

  -- memory runs out before a lone server acknowledges itself
  pub no_memory_for_own : (old new : ReplicaHost S) → TakesBy may_recover boots me Leads old new → FailsToAct may_recover boots me old new
  no_memory_for_own old new leads = record { inputs = leads.inputs; heard = leads_heard old new leads; failure = failure_of may_recover boots me old new leads.inputs [] leads.deeds }

  -- a lone server fails while it acknowledges itself
  pub own_fails : (old mid new : ReplicaHost S) (own : List (Message Call)) → me.servers ≡ 1 → own ≡ own_messages mid.host.state.peer.role (vote_of mid.host.state)
      → TakesBy may_recover boots me Leads old mid → FailsAt may_recover boots me own mid new → FailsToAct may_recover boots me old new
  own_fails old mid new own alone is leads fails =
      let all : AllOwn own = subst AllOwn (sym is) (own_all mid.host.state.peer.role (vote_of mid.host.state)) in
      record {
        inputs = leads.inputs ++ fails.inputs;
        heard = heard_both me.servers (λ line. []) leads.inputs fails.inputs (leads_heard old mid leads) (all_heard_own me.servers own fails.inputs alone all fails.among);
        failure = failure_then may_recover boots me old mid new leads.inputs fails.inputs [] [] leads.deeds fails.failure;
      }

  acknowledges : (alone : Bool) (old new : ReplicaHost S) → (me.servers == 1) ≡ alone → Acknowledges may_recover boots me alone old new → Acknowledges may_recover boots me (me.servers == 1) old new
  acknowledges alone old new is h = subst (λ (b : Bool). Acknowledges may_recover boots me b old new) (sym is) h

  pub leads_alone : (old mid new : ReplicaHost S) (own : List (Message Call)) → me.servers ≡ 1 → own ≡ own_messages mid.host.state.peer.role (vote_of mid.host.state)
      → TakesBy may_recover boots me Leads old mid → HearsAll may_recover boots me own mid new → LeadsNow may_recover boots me old new
  leads_alone old mid new own alone is takes hears =
      let yes : (me.servers == 1) ≡ true = grind (arith, nat_tests) in
      record { between = mid; leads = takes; own = acknowledges true mid new yes (subst (λ (l : List (Message Call)). HearsAll may_recover boots me l mid new) is hears) }

  pub leads_others : (old new : ReplicaHost S) → me.servers ≢ 1 → TakesBy may_recover boots me Leads old new → LeadsNow may_recover boots me old new
  leads_others old new many takes =
      let no : (me.servers == 1) ≡ false = grind (arith, nat_tests) in
      record { between = new; leads = takes; own = acknowledges false new new no refl }
