-- Propose, Commit and SyncTell at a follower.
use Rattle.std.proofs.Common.{◌≡◌, ℕ, ◌+◌, ◌<◌, ◌≤◌, ◌==◌, ◌&&◌, min, inl, inr, true, List, [], ◌∷◌, ◌++◌, length, Some, Result, Ok, refl, sym, ap, subst, ◌∙◌, arith, length-append}
use Rattle.std.proofs.lemmas.List.{take-append-le}
use Rattle.zab_epoch.specs.declared.rule_fault.RuleFault.{RuleFault}
use Rattle.zab_epoch.specs.declared.history.Entry.{Entry}
use Rattle.zab_epoch.specs.declared.message.Message.{Message}
use Rattle.zab_epoch.specs.declared.message.Body.TheVariants.{Ack}
use Rattle.zab_epoch.specs.declared.role.Role.{Role}
use Rattle.zab_epoch.specs.declared.role.Role.TheVariants.{Looking, Discover, Choose, Sync, Broadcast, Following}
use Rattle.zab_broadcast.specs.declared.state.State.{State}
use Rattle.zab_broadcast.specs.declared.syncs.Asked.{Asked}
use Rattle.zab_broadcast.specs.declared.syncs.Caught.{Caught}
use Rattle.zab_broadcast.specs.Rules.{silent, commit, delivers_to, sync_tell, propose, is_next, is_above, with_history}
use Rattle.zab_broadcast.specs.Syncs.{is_asked, told, left_asked, newly_caught}
use Rattle.zab_broadcast.proofs.Guards.{takes_the_next}
use Rattle.zab_epoch.specs.Roles.{follows}
use Rattle.zab_laws.specs.Prefixes.{IsPrefix}
use Rattle.zab_laws.specs.Cores as laws
use Rattle.zab_laws.specs.Cores.Move.{Adopt}
use Rattle.zab_laws.proofs.PrefixLaws.{prefix_trans, prefix_append, prefix_by_length, prefix_both, prefix_refl}
use Rattle.zab_laws.proofs.Facts.{same_some}
use Rattle.zab_laws.proofs.Beginning.{two_same}
use Rattle.zab_laws.proofs.Adopting.{begun_above, keeps_adopt}
use Rattle.zab_rule_laws.specs.Told.{core_of, told_of, IsReached, IsProposed, RoleFact, SentFact, OwesOf}
use Rattle.zab_rule_laws.proofs.Common.{by_test, both_true, eq_is, stays, chosen_of, delivers_more, more_told}

pub owes_nothing : {C : Type 0} (k : laws.Setting Entry) (g : laws.Ghost Entry) (state : State) (out : Result (List (Message C)) RuleFault) → laws.IsKept k g state.peer.me (core_of state) → state.delivered ≤ length state.peer.stable.history → RoleFact k g state state.peer.role → SentFact k g out → OwesOf k g state (state, out)
owes_nothing k g state out kept within role sent = record {
  ghost = g;
  keeps = stays k g state.peer.me (core_of state) kept;
  role = role;
  sent = sent;
  me = refl;
  within = within;
  more = prefix_refl (told_of state);
  begins = inl (λ e b is. is);
}

-- a follower has no fact
pub follower : (k : laws.Setting Entry) (g : laws.Ghost Entry) (state : State) (role : Role) (from : ℕ) → follows role from ≡ true → RoleFact k g state role
follower k g state (Following leader synced) from e = tt
follower k g state Looking from e = tt
follower k g state (Discover heard) from e = tt
follower k g state (Choose votes joiners) from e = absurd cc
follower k g state Sync from e = absurd cc
follower k g state Broadcast from e = absurd cc

-- what a quorum holds is delivered, whichever syncs are pending or completed
delivers_owes : {C : Type 0} (k : laws.Setting Entry) (g : laws.Ghost Entry) (state : State) (asked : List Asked) (caught : List Caught) (from epoch count : ℕ) → laws.IsKept k g state.peer.me (core_of state) → state.delivered ≤ length state.peer.stable.history → follows state.peer.role from ≡ true → epoch ≡ state.peer.stable.current → IsReached k g epoch count → OwesOf {C = C} k g state (silent (record (delivers_to state count) { asked = asked; caught = caught }))
delivers_owes k g state asked caught from epoch count kept within following same reached =
    let r : IsReached k g state.peer.stable.current count = subst (λ e. IsReached k g e count) same reached in
    let above : 0 < state.peer.stable.current = begun_above k g (core_of state) state.peer.me kept state.peer.stable.current r.began r.is in
    let n : ℕ = min (length state.peer.stable.history) count in
    let low : n ≤ count = omega arith in
    record {
      ghost = g;
      keeps = delivers_more k g state state.peer.me n kept above
          (λ more. chosen_of k g state.peer.me state.peer.stable.current count n state.peer.stable.history kept.facts r kept.sound.held_now above low);
      role = follower k g _ state.peer.role from following;
      sent = tt;
      me = refl;
      within = omega arith;
      more = more_told state.delivered n state.peer.stable.history;
      begins = inl (λ e b is. is);
    }

-- a count comes to a follower
follower_of : (state : State) (from epoch : ℕ) → (follows state.peer.role from && (epoch == state.peer.stable.current)) ≡ true → (follows state.peer.role from ≡ true) × (epoch ≡ state.peer.stable.current)
follower_of state from epoch is =
    let both = both_true (follows state.peer.role from) (epoch == state.peer.stable.current) is in
    (both.0, eq_is epoch state.peer.stable.current both.1)

pub commit_owes : {C : Type 0} (k : laws.Setting Entry) (g : laws.Ghost Entry) (state : State) (from epoch count : ℕ) → laws.IsKept k g state.peer.me (core_of state) → state.delivered ≤ length state.peer.stable.history → RoleFact k g state state.peer.role → IsReached k g epoch count → OwesOf {C = C} k g state (commit state from epoch count)
commit_owes {C} k g state from epoch count kept within role reached =
    let next : State = delivers_to state count in
    by_test (OwesOf {C = C} k g state) (follows state.peer.role from && (epoch == state.peer.stable.current)) _ _
    (λ is. (let f = follower_of state from epoch is in
    delivers_owes k g state (left_asked next.delivered state.asked) (state.caught ++ newly_caught next.delivered state.asked) from epoch count kept within f.0 f.1 reached))
    (λ is. owes_nothing k g state (Ok []) kept within role tt)

pub sync_tell_owes : {C : Type 0} (k : laws.Setting Entry) (g : laws.Ghost Entry) (state : State) (from epoch tag count : ℕ) → laws.IsKept k g state.peer.me (core_of state) → state.delivered ≤ length state.peer.stable.history → RoleFact k g state state.peer.role → IsReached k g epoch count → OwesOf {C = C} k g state (sync_tell state from epoch tag count)
sync_tell_owes {C} k g state from epoch tag count kept within role reached =
    let next : State = delivers_to state count in
    let asked : List Asked = told tag count state.asked in
    by_test (OwesOf {C = C} k g state) ((follows state.peer.role from && (epoch == state.peer.stable.current)) && is_asked tag state.asked) _ _
    (λ is. (let f = follower_of state from epoch (both_true (follows state.peer.role from && (epoch == state.peer.stable.current)) (is_asked tag state.asked) is).0 in
    delivers_owes k g state (left_asked next.delivered asked) (state.caught ++ newly_caught next.delivered asked) from epoch count kept within f.0 f.1 reached))
    (λ is. owes_nothing k g state (Ok []) kept within role tt)

pub propose_owes : {C : Type 0} (k : laws.Setting Entry) (g : laws.Ghost Entry) (state : State) (from epoch index : ℕ) (entry : Entry) → 0 < state.peer.me → laws.Shares k → laws.IsKept k g state.peer.me (core_of state) → state.delivered ≤ length state.peer.stable.history → RoleFact k g state state.peer.role → IsProposed g from epoch index entry → OwesOf {C = C} k g state (propose state from epoch index entry)
propose_owes {C} k g state from epoch index entry pos0 share kept within role said =
    by_test (OwesOf {C = C} k g state) (follows state.peer.role from && is_next state.peer.stable epoch index) _ _
    (λ is.
    (let a = both_true (follows state.peer.role from) (is_next state.peer.stable epoch index) is in
    let next = takes_the_next state.peer.stable epoch index a.1 in
    by_test (OwesOf {C = C} k g state) (is_above state.peer.stable entry) _ _
    (λ above. takes a.0 next.0 next.1 next.2)
    (λ below. owes_nothing k g state (Ok []) kept within role tt)))
    (λ is. owes_nothing k g state (Ok []) kept within role tt)
  where
    takes : follows state.peer.role from ≡ true → epoch ≡ state.peer.stable.promised → epoch ≡ state.peer.stable.current → index ≡ length state.peer.stable.history + 1 → OwesOf {C = C} k g state (record state { peer = with_history state.peer (state.peer.stable.history ++ entry ∷ []) }, Ok (record { sender = state.peer.me; addressee = from; body = Ack epoch index } ∷ []))
    takes following p c at =
        let h : List Entry = state.peer.stable.history in
        let now : ℕ = state.peer.stable.current in
        let began : g.began now ≡ Some said.began = subst (λ e. g.began e ≡ Some said.began) c said.is in
        let above : 0 < now = begun_above k g (core_of state) state.peer.me kept now said.began began in
        let o = kept.facts.of_leader state.peer.me now h kept.sound.held_now above in
        let one : o.began ≡ said.began = same_some o.began said.began (sym o.is ∙ began) in
        let led : g.held o.began.leader now ≡ Some said.longest = ap (λ (w : laws.Began Entry). g.held w.leader now) one ∙ ap (λ t. g.held t now) said.leader ∙ subst (λ e. g.held from e ≡ Some said.longest) c said.longest_is in
        let long : o.longest ≡ said.longest = same_some o.longest said.longest (sym o.longest_is ∙ led) in
        let before_in : IsPrefix said.before o.longest = subst (IsPrefix said.before) (sym long) (prefix_trans said.before (said.before ++ entry ∷ []) said.longest (prefix_append said.before (entry ∷ [])) said.within) in
        let place : index ≡ length said.before + 1 = said.place in
        let same : said.before ≡ h = prefix_both said.before h (prefix_by_length said.before h o.longest before_in o.within (omega arith)) (prefix_by_length h said.before o.longest o.within before_in (omega arith)) in
        let new : List Entry = h ++ entry ∷ [] in
        let in_longest : IsPrefix new o.longest = subst (IsPrefix new) (sym long) (subst (λ (w : List Entry). IsPrefix (w ++ entry ∷ []) said.longest) same said.within) in
        let of : laws.IsOfLeader g now new = record { began = o.began; is = o.is; starts = prefix_trans o.began.start h new o.starts (prefix_append h (entry ∷ [])); longest = o.longest; longest_is = o.longest_is; within = in_longest } in
        let keeps = keeps_adopt k g (core_of state) state.peer.me now new share kept (sym p ∙ c, of, inr (refl, prefix_append h (entry ∷ []))) in
        record {
          ghost = laws.new_ghost (Adopt state.peer.me now new) (core_of state) g;
          keeps = subst (λ (d : List Entry). laws.Keeps k g (laws.new_ghost (Adopt state.peer.me now new) (core_of state) g) state.peer.me (record { promised = state.peer.stable.promised; current = now; history = new; delivered = d })) (sym (take-append-le state.delivered h (entry ∷ []) within)) keeps;
          role = follower k _ _ state.peer.role from following;
          sent = ((pos0, record { history = new; is = subst (λ e. laws.held_with g state.peer.me now new state.peer.me e ≡ Some new) (sym c) (two_same g.held state.peer.me now (Some new)); long = omega (arith, length-append h (entry ∷ [])) }), tt);
          me = refl;
          within = omega (arith, length-append h (entry ∷ []));
          more = subst (IsPrefix (told_of state)) (sym (take-append-le state.delivered h (entry ∷ []) within)) (prefix_refl (told_of state));
          begins = inl (λ e b is. is);
        }
