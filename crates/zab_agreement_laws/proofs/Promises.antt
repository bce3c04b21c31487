-- What a server shares with the leader of the epoch that it has promised, and where a leader's
-- history ends.
use Rattle.std.proofs.Common.{◌≡◌, ℕ, ℤ, pos, ◌+◌, ◌*◌, ◌^◌, ◌<ℤ◌, int_lt, Bool, cond, List, [], ◌∷◌, ◌++◌, length, Some, refl, sym, ap, subst, ◌∙◌}
use Rattle.zab_epoch.specs.declared.history.Entry.{Entry}
use Rattle.zab_epoch.specs.declared.role.Role.{Role}
use Rattle.zab_epoch.specs.declared.role.Role.TheVariants.{Looking, Discover, Choose, Sync, Broadcast, Following}
use Rattle.zab_epoch.specs.Entries.{last_zxid, up_to}
use Rattle.zab_epoch.specs.Rules.{meant}
use Rattle.zab_epoch.specs.Quorums.{IsQuorumSystem}
use Rattle.zab_broadcast.specs.declared.state.State.{State}
use Rattle.zab_broadcast.specs.Rules.{next_zxid}
use Rattle.zab_laws.specs.Prefixes.{IsPrefix, last_key}
use Rattle.zab_laws.specs.Cores as laws
use Rattle.zab_laws.specs.Splicing as splicing
use Rattle.zab_laws.proofs.Splicing.{kept_by, ends_below}
use Rattle.zab_rule_laws.specs.Told.{laws_of, zxid_key, core_of, BodyFact, MessageFact, Leads, Broadcasts, RoleFact, Stands}
use Rattle.zab_rule_laws.proofs.Electing.{last_same}
use Rattle.zab_rule_laws.proofs.Hearing.{CarriesZxid}
use Rattle.zab_rule_laws.proofs.Leading.{IsNumber, number_of}
use Rattle.zab_rule_laws.proofs.Splicing.{meant_is}
use Rattle.zab_model.specs.declared.event.Event.{Event}
use Rattle.zab_model.specs.Worlds.{Profile}
use Rattle.zab_model.specs.Runs.{run}
use Rattle.zab_agreement_laws.specs.Promises.{HasBegun, ServersShareTheirLeadersFront, NewLeadersMeanTheirLeadersHistory, LeadersEndBelow}
use Rattle.zab_agreement_laws.proofs.AgreeEvents.{MaybeFact, message_fact}
use Rattle.zab_agreement_laws.proofs.FactRuns.{of_epoch, began_above}
use Rattle.zab_agreement_laws.proofs.WholeRuns.{whole, shares_of}

same_up_to : (zxid : ℤ) (h : List Entry) → splicing.up_to zxid_key zxid h ≡ up_to zxid h
same_up_to zxid [] = refl
same_up_to zxid (x ∷ h) = ap (λ l. cond (int_lt zxid x.txn.zxid) [] (x ∷ l)) (same_up_to zxid h)

leads_by : (k : laws.Setting Entry) (g : laws.Ghost Entry) (state : State) (role : Role) → RoleFact k g state role → HasBegun role → Leads g state
leads_by k g state Sync f b = f.leads
leads_by k g state Broadcast f b = f.leads
leads_by k g state Looking f b = absurd b
leads_by k g state (Discover heard) f b = absurd b
leads_by k g state (Choose votes joiners) f b = absurd b
leads_by k g state (Following leader synced) f b = absurd b

shares : (passes : List Bool → Bool) → laws.Shares (laws_of passes) → (g : laws.Ghost Entry) (state other : State) → Stands (laws_of passes) g state → Stands (laws_of passes) g other → HasBegun state.peer.role → other.peer.stable.promised ≡ state.peer.stable.promised → IsPrefix (up_to (last_zxid other.peer.stable.history) state.peer.stable.history) other.peer.stable.history
shares passes share g state other f o begun same =
    let l = leads_by (laws_of passes) g state state.peer.role f.role begun in
    let held : g.held l.began.leader state.peer.stable.current ≡ Some state.peer.stable.history = ap (λ t. g.held t state.peer.stable.current) l.leader ∙ f.kept.sound.held_now in
    let front = kept_by (laws_of passes) g share other.peer.me state.peer.stable.current (core_of other) l.began state.peer.stable.history o.kept (same ∙ l.same) l.is held in
    subst (λ (h : List Entry). IsPrefix h other.peer.stable.history)
    (same_up_to (last_key zxid_key (pos 0) other.peer.stable.history) state.peer.stable.history
    ∙ ap (λ z. up_to z state.peer.stable.history) (sym (last_same other.peer.stable.history)))
    front

ends : (passes : List Bool → Bool) (g : laws.Ghost Entry) (state : State) (zxid : ℤ) → Stands (laws_of passes) g state → Broadcasts (laws_of passes) g state → next_zxid state.peer.stable.promised state.made ≡ Some zxid → last_zxid state.peer.stable.history <ℤ zxid
ends passes g state zxid f b next =
    let now : ℕ = state.peer.stable.current in
    let n : IsNumber now state.made zxid = subst (λ e. IsNumber e state.made zxid) b.leads.same (number_of state.peer.stable.promised state.made zxid next) in
    let held : g.held b.leads.began.leader now ≡ Some (b.leads.began.start ++ b.own) = ap (λ t. g.held t now) b.leads.leader ∙ f.kept.sound.held_now ∙ ap (λ (h : List Entry). Some h) b.history in
    let below : last_key zxid_key (pos 0) (b.leads.began.start ++ b.own) <ℤ pos (now * 2 ^ 32 + (1 + length b.own)) = ends_below (laws_of passes) g f.kept.facts now b.leads.began b.own b.leads.is held in
    let is : zxid ≡ pos (now * 2 ^ 32 + (1 + length b.own)) = n.is ∙ ap (λ m. pos (now * 2 ^ 32 + (1 + m))) b.made in
    subst (λ z. z <ℤ zxid) (sym (last_same state.peer.stable.history ∙ ap (λ (h : List Entry). last_key zxid_key (pos 0) h) b.history))
    (subst (λ z. last_key zxid_key (pos 0) (b.leads.began.start ++ b.own) <ℤ z) (sym is) below)

pub servers_share : {C : Type 0} (profile : Profile C) → CarriesZxid profile.setting → IsQuorumSystem profile.setting.passes → (servers : ℕ) (events : List (Event C)) → ServersShareTheirLeadersFront profile servers events
servers_share profile law system servers events leader server it other at there begun same =
    let t = whole profile law system servers events in
    shares profile.setting.passes (shares_of profile.setting.passes system) t.last it.state other.state (t.stands.servers leader it at).stands (t.stands.servers server other there).stands begun same

pub new_leaders_mean : {C : Type 0} (profile : Profile C) → CarriesZxid profile.setting → IsQuorumSystem profile.setting.passes → (servers : ℕ) (events : List (Event C)) → NewLeadersMeanTheirLeadersHistory profile servers events
new_leaders_mean profile law system servers events number server epoch keep rest m it sent says at fits =
    let k = laws_of profile.setting.passes in
    let t = whole profile law system servers events in
    let w = (run profile servers events).0 in
    let fact : MessageFact k t.last m = subst (MaybeFact k t.last) sent (message_fact k t.last w.messages number t.stands.messages) in
    let told = subst (BodyFact k t.last m.sender m.addressee) says fact in
    let has = (t.stands.servers server it at).stands.kept.sound.held_now in
    let of = meant_is k t.last refl t.facts it.state.peer.me it.state.peer.stable.current epoch it.state.peer.stable.history keep rest has told fits in
    of_epoch profile servers events t epoch (meant it.state.peer.stable.history keep rest) of (began_above profile servers events t epoch of.began of.is)

pub leaders_end_below : {C : Type 0} (profile : Profile C) → CarriesZxid profile.setting → IsQuorumSystem profile.setting.passes → (servers : ℕ) (events : List (Event C)) → LeadersEndBelow profile servers events
leaders_end_below profile law system servers events leader it at role zxid next =
    let t = whole profile law system servers events in
    let f = (t.stands.servers leader it at).stands in
    ends profile.setting.passes t.last it.state zxid f (subst (RoleFact (laws_of profile.setting.passes) t.last it.state) role f.role) next
