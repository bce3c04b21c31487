-- What messages and roles say stays so.
use Rattle.std.proofs.Common.{◌≢◌, ℕ, ℤ, ◌+◌, ◌<◌, List, [], ◌∷◌, ◌++◌, sym, subst}
use Rattle.std.specs.List.{AllByRecursion}
use Rattle.zab_epoch.specs.declared.history.Entry.{Entry}
use Rattle.zab_epoch.specs.declared.message.Body.{Body}
use Rattle.zab_epoch.specs.declared.message.Body.TheVariants.{CEpoch, NewEpoch, AckEpoch, NewLeader, AckLeader, Propose, Ack, Commit, Request, SyncAsk, SyncTell}
use Rattle.zab_epoch.specs.declared.message.Message.{Message}
use Rattle.zab_epoch.specs.declared.role.Role.{Role}
use Rattle.zab_epoch.specs.declared.role.Role.TheVariants.{Looking, Discover, Choose, Sync, Broadcast, Following}
use Rattle.zab_broadcast.specs.declared.state.State.{State}
use Rattle.zab_broadcast.specs.Rules.{Acts}
use Rattle.zab_laws.specs.Cores as laws
use Rattle.zab_laws.proofs.PrefixLaws.{prefix_trans}
use Rattle.zab_laws.proofs.Keeping.{chosen_grows}
use Rattle.zab_rule_laws.specs.Told.{core_of, HasVote, IsReached, IsProposed, BodyFact, MessageFact, Leads, RoleFact, OwesOf, Stands}
use Rattle.zab_rule_laws.proofs.Leading.{length_grows}

pub of_leader_grows : (g y : laws.Ghost Entry) → laws.Grows g y → (epoch : ℕ) (h : List Entry) → laws.IsOfLeader g epoch h → laws.IsOfLeader y epoch h
of_leader_grows g y grows epoch h of =
    let q = grows.held of.began.leader epoch of.longest of.longest_is in
    record {
      began = of.began;
      is = grows.began epoch of.began of.is;
      starts = of.starts;
      longest = q.history;
      longest_is = q.is;
      within = prefix_trans h of.longest q.history of.within q.begins;
    }

vote_grows : (g y : laws.Ghost Entry) → laws.Grows g y → (s epoch leader current : ℕ) (last : ℤ) → HasVote g s epoch leader current last → HasVote y s epoch leader current last
vote_grows g y grows s epoch leader current last v = record {
  history = v.history;
  is = grows.votes s epoch (record { leader = leader; current = current; history = v.history }) v.is;
  last_is = v.last_is;
}

reached_grows : (k : laws.Setting Entry) (g y : laws.Ghost Entry) → laws.Grows g y → (epoch count : ℕ) → IsReached k g epoch count → IsReached k y epoch count
reached_grows k g y grows epoch count r = record {
  began = r.began;
  is = grows.began epoch r.began r.is;
  marks = r.marks;
  quorum = r.quorum;
  each = λ t m. length_grows g y grows t epoch count (r.each t m);
}

proposed_grows : (g y : laws.Ghost Entry) → laws.Grows g y → (from epoch index : ℕ) (entry : Entry) → IsProposed g from epoch index entry → IsProposed y from epoch index entry
proposed_grows g y grows from epoch index entry p =
    let q = grows.held from epoch p.longest p.longest_is in
    record {
      began = p.began;
      is = grows.began epoch p.began p.is;
      leader = p.leader;
      longest = q.history;
      longest_is = q.is;
      before = p.before;
      within = prefix_trans (p.before ++ entry ∷ []) p.longest q.history p.within q.begins;
      place = p.place;
    }

abbrev leads_grows : (g y : laws.Ghost Entry) → laws.Grows g y → (state : State) → Leads g state → Leads y state
leads_grows g y grows state b = record {
  same = b.same;
  began = b.began;
  is = grows.began state.peer.stable.current b.began b.is;
  leader = b.leader;
  has = λ i count e. length_grows g y grows (i + 1) state.peer.stable.current count (b.has i count e);
}

pub role_grows : (k : laws.Setting Entry) (g y : laws.Ghost Entry) → laws.Grows g y → (state : State) (role : Role) → RoleFact k g state role → RoleFact k y state role
role_grows k g y grows state Looking f = tt
role_grows k g y grows state (Discover heard) f = tt
role_grows k g y grows state (Choose votes joiners) f = record {
  below = f.below;
  own = grows.votes state.peer.me state.peer.stable.promised (record { leader = state.peer.me; current = state.peer.stable.current; history = state.peer.stable.history }) f.own;
  votes_are = λ i v e. vote_grows g y grows (i + 1) state.peer.stable.promised state.peer.me v.current v.last (f.votes_are i v e);
}
role_grows k g y grows state Sync f = record { leads = leads_grows g y grows state f.leads; history = f.history }
role_grows k g y grows state Broadcast f = record {
  leads = leads_grows g y grows state f.leads;
  own = f.own;
  history = f.history;
  made = f.made;
  chosen = chosen_grows k g y grows state.peer.stable.current f.leads.began.start f.chosen;
}
role_grows k g y grows state (Following leader synced) f = tt

body_grows : {C : Type 0} (k : laws.Setting Entry) (g y : laws.Ghost Entry) → laws.Grows g y → (from to : ℕ) (body : Body C) → BodyFact k g from to body → BodyFact k y from to body
body_grows k g y grows from to (CEpoch promised) f = tt
body_grows k g y grows from to (NewEpoch epoch) f = tt
body_grows k g y grows from to (AckEpoch epoch vote current last) f = (f.0, λ e. vote_grows g y grows from epoch to current last (f.1 e))
body_grows k g y grows from to (NewLeader epoch keep rest) f = record { kept = f.kept; ends = f.ends; of = of_leader_grows g y grows epoch (f.kept ++ rest) f.of }
body_grows k g y grows from to (AckLeader epoch count) f = (f.0, length_grows g y grows from epoch count f.1)
body_grows k g y grows from to (Propose epoch index entry) f = proposed_grows g y grows from epoch index entry f
body_grows k g y grows from to (Ack epoch count) f = (f.0, length_grows g y grows from epoch count f.1)
body_grows k g y grows from to (Commit epoch count) f = reached_grows k g y grows epoch count f
body_grows k g y grows from to (Request epoch call) f = tt
body_grows k g y grows from to (SyncAsk epoch tag) f = tt
body_grows k g y grows from to (SyncTell epoch tag count) f = reached_grows k g y grows epoch count f

pub messages_grow : {C : Type 0} (k : laws.Setting Entry) (g y : laws.Ghost Entry) → laws.Grows g y → (messages : List (Message C)) → AllByRecursion (MessageFact k g) messages → AllByRecursion (MessageFact k y) messages
messages_grow k g y grows [] f = tt
messages_grow k g y grows (m ∷ messages) f =
    (body_grows k g y grows m.sender m.addressee m.body f.0, messages_grow k g y grows messages f.1)

-- the server that acted, and the others
pub stands_after : {C : Type 0} (k : laws.Setting Entry) (g : laws.Ghost Entry) (state : State) (acts : Acts C) → 0 < state.peer.me → (o : OwesOf k g state acts) → Stands k o.ghost acts.0
stands_after k g state acts above o = record {
  kept = subst (λ s. laws.IsKept k o.ghost s (core_of acts.0)) (sym o.me) o.keeps.kept;
  role = o.role;
  within = o.within;
  above = subst (λ s. 0 < s) (sym o.me) above;
}

pub stands_still : (k : laws.Setting Entry) (g y : laws.Ghost Entry) (s : ℕ) (c : laws.Core Entry) (state : State) → laws.Keeps k g y s c → state.peer.me ≢ s → Stands k g state → Stands k y state
stands_still k g y s c state keeps other f = record {
  kept = record { facts = keeps.kept.facts; sound = keeps.others state.peer.me (core_of state) other f.kept.sound };
  role = role_grows k g y keeps.grows state state.peer.role f.role;
  within = f.within;
  above = f.above;
}
