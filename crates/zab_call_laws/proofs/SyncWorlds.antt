-- What is known of syncs in a world, and how a server that acts keeps it.
use Rattle.std.proofs.Common.{◌≡◌, ℕ, ◌-◌, ◌≤◌, inl, inr, true, List, length, set, Option, Some, Result, Ok, Err, refl, sym, ap, subst, ◌∙◌, arith}
use Rattle.std.proofs.lemmas.List.{length-take-le}
use Rattle.std.specs.List.{AllByRecursion}
use Rattle.zab_epoch.specs.declared.rule_fault.RuleFault.{RuleFault}
use Rattle.zab_epoch.specs.declared.history.Entry.{Entry}
use Rattle.zab_epoch.specs.declared.message.Message.{Message}
use Rattle.zab_broadcast.specs.declared.state.State.{State}
use Rattle.zab_broadcast.specs.Calls.{is_taken}
use Rattle.zab_broadcast.specs.Rules as rules
use Rattle.zab_laws.specs.Prefixes.{IsPrefix}
use Rattle.zab_laws.specs.Cores as laws
use Rattle.zab_laws.proofs.PrefixLaws.{prefix_length}
use Rattle.zab_rule_laws.specs.Told.{told_of}
use Rattle.zab_rule_laws.proofs.Staying.{IsLeading, Stays, StaysBy}
use Rattle.zab_rule_laws.proofs.TagFacts.{cases_eq, all_append, same_some}
use Rattle.zab_model.specs.declared.fault.WorldFault.{WorldFault}
use Rattle.zab_model.specs.ProcessStates.{ProcessState, standing}
use Rattle.zab_model.specs.Worlds.{World, server_at, told, said, with_server, acts}
use Rattle.zab_model.specs.Runs.{delivered_list, delivered_of}
use Rattle.zab_model.proofs.ServerLists.{found, same_place, other_place}
use Rattle.zab_agreement_laws.proofs.AgreeEvents.{IsNumbered, WorldStands, KeepsAll}
use Rattle.zab_call_laws.proofs.SyncFacts.{Book, Taken, MessageFact, SentFact, ServerFact, Keeps}

-- the epoch's leader, and as long as it leads in that epoch, it has delivered what it had
pub record TakenFact (g : laws.Ghost Entry) (servers : List ProcessState) (it : Taken) : Type 0 where
  pub began : laws.Began Entry
  pub is : g.began it.epoch ≡ Some began
  pub leader_is : began.leader ≡ it.leader
  pub more : (stands : ProcessState) → server_at servers it.leader ≡ Some stands → IsLeading stands.state.peer.role → stands.state.peer.stable.current ≡ it.epoch → it.delivered ≤ stands.state.delivered

-- what is known of a world but for its tags
pub record Knows {C : Type 0} (g : laws.Ghost Entry) (book : Book) (w : World C) : Type 0 where
  pub servers : (n : ℕ) (it : ProcessState) → server_at w.servers n ≡ Some it → ServerFact book n it.state
  pub messages : AllByRecursion (MessageFact book) w.messages
  pub taken : (tag : ℕ) (it : Taken) → book tag ≡ Some it → TakenFact g w.servers it

-- a tag that was taken is spent
abbrev pub AreSpent : Book → List ℕ → Type 0
AreSpent book tags = (tag : ℕ) (it : Taken) → book tag ≡ Some it → is_taken tag tags ≡ true

taken_grows : (g later : laws.Ghost Entry) (servers : List ProcessState) (it : Taken) → laws.Grows g later → TakenFact g servers it → TakenFact later servers it
taken_grows g later servers it grows f = record {
  began = f.began;
  is = grows.began it.epoch f.began f.is;
  leader_is = f.leader_is;
  more = f.more;
}

pub same_known : {C : Type 0} (g later : laws.Ghost Entry) (book : Book) (w : World C) → laws.Grows g later → Knows g book w → Knows later book w
same_known g later book w grows f = record {
  servers = f.servers;
  messages = f.messages;
  taken = λ tag it is. taken_grows g later w.servers it grows (f.taken tag it is);
}

-- ---- a server stands otherwise

-- if it leads in an epoch that was not above its own, it led in it before, and has delivered no
-- less
abbrev pub Turns : State → State → Type 0
Turns before next =
    (epoch : ℕ) → IsLeading next.peer.role → next.peer.stable.current ≡ epoch → epoch ≤ before.peer.stable.current
    → (IsLeading before.peer.role) × (before.peer.stable.current ≡ epoch) × (before.delivered ≤ next.delivered)

pub turns_by : (before next : State) → Stays before.peer next.peer → before.delivered ≤ next.delivered → Turns before next
turns_by before next stays low epoch leads now within =
    let rises : before.peer.stable.current ≤ next.peer.stable.current = stays.current in
    elim (stays.leads leads) [
      | inl less ↦ absurd (omega arith)
      | inr led ↦ (led, omega arith, low)
    ]

-- an epoch that a server began is not above its own
begun_within : (k : laws.Setting Entry) (g : laws.Ghost Entry) (n epoch : ℕ) (state : State) (began : laws.Began Entry) → IsNumbered k g n state → g.began epoch ≡ Some began → began.leader ≡ n → epoch ≤ state.peer.stable.current
begun_within k g n epoch state began f is leader =
    let held = f.stands.kept.facts.leads epoch began is in
    f.stands.kept.sound.held_until epoch held.0 (subst (λ m. g.held m epoch ≡ Some held.0) (leader ∙ sym f.me) held.1)

turn_taken : {C : Type 0} (k : laws.Setting Entry) (g later : laws.Ghost Entry) (w : World C) (n : ℕ) (it stands : ProcessState) (y : Taken) → laws.Grows g later → WorldStands k g w → server_at w.servers n ≡ Some it → Turns it.state stands.state → TakenFact g w.servers y → TakenFact later (set w.servers (n - 1) stands) y
turn_taken k g later w n it stands y grows f is turns t =
    let place = found w.servers n it is in
    record {
      began = t.began;
      is = grows.began y.epoch t.began t.is;
      leader_is = t.leader_is;
      more = λ other at leads now. elim (cases_eq y.leader n) [
        | inl same ↦
            (let there : Some stands ≡ Some other =
            sym (same_place w.servers n it stands place) ∙ (ap (λ u. server_at (set w.servers (n - 1) stands) u) (sym same) ∙ at) in
            let one : stands ≡ other = same_some stands other there in
            let within : y.epoch ≤ it.state.peer.stable.current = begun_within k g n y.epoch it.state t.began (f.servers n it is) t.is (t.leader_is ∙ same) in
            let before = turns y.epoch (subst (λ (s : ProcessState). IsLeading s.state.peer.role) (sym one) leads) (ap (λ (s : ProcessState). s.state.peer.stable.current) one ∙ now) within in
            let low : y.delivered ≤ it.state.delivered = t.more it (ap (λ u. server_at w.servers u) same ∙ is) before.0 before.1 in
            let rises : it.state.delivered ≤ stands.state.delivered = before.2 in
            let end : stands.state.delivered ≡ other.state.delivered = ap (λ (s : ProcessState). s.state.delivered) one in
            omega arith)
        | inr differs ↦ t.more other (other_place w.servers n y.leader stands other place.above differs at) leads now
      ];
    }

turn_servers : (book : Book) (servers : List ProcessState) (n : ℕ) (it stands : ProcessState) → server_at servers n ≡ Some it → ((k : ℕ) (other : ProcessState) → server_at servers k ≡ Some other → ServerFact book k other.state) → ServerFact book n stands.state → (k : ℕ) (other : ProcessState) → server_at (set servers (n - 1) stands) k ≡ Some other → ServerFact book k other.state
turn_servers book servers n it stands is facts fact k other at =
    let place = found servers n it is in
    elim (cases_eq k n) [
      | inl same ↦
          (let there : Some stands ≡ Some other =
          sym (same_place servers n it stands place) ∙ (ap (λ u. server_at (set servers (n - 1) stands) u) (sym same) ∙ at) in
          let one : stands ≡ other = same_some stands other there in
          subst (λ u. ServerFact book u other.state) (sym same) (subst (λ (s : ProcessState). ServerFact book n s.state) one fact))
      | inr differs ↦ facts k other (other_place servers n k stands other place.above differs at)
    ]

-- and what it says is sent
pub turn_known : {C : Type 0} (k : laws.Setting Entry) (g later : laws.Ghost Entry) (book : Book) (w : World C) (n : ℕ) (it stands : ProcessState) (r : Result (List (Message C)) RuleFault) → laws.Grows g later → WorldStands k g w → Knows g book w → server_at w.servers n ≡ Some it → ServerFact book n stands.state → Turns it.state stands.state → SentFact book r → Knows later book (told (with_server w n stands) (said r)).0
turn_known k g later book w n it stands (Ok messages) grows f b is fact turns sent = record {
  servers = turn_servers book w.servers n it stands is b.servers fact;
  messages = all_append (MessageFact book) w.messages messages b.messages sent;
  taken = λ tag y at. turn_taken k g later w n it stands y grows f is turns (b.taken tag y at);
}
turn_known k g later book w n it stands (Err fault) grows f b is fact turns sent = record {
  servers = turn_servers book w.servers n it stands is b.servers fact;
  messages = b.messages;
  taken = λ tag y at. turn_taken k g later w n it stands y grows f is turns (b.taken tag y at);
}

-- ---- a server acts

told_place : {C : Type 0} (w : World C) (n : ℕ) (it stands : ProcessState) (r : Result (List (Message C)) RuleFault) → server_at w.servers n ≡ Some it → server_at (told (with_server w n stands) (said r)).0.servers n ≡ Some stands
told_place w n it stands (Ok messages) is = same_place w.servers n it stands (found w.servers n it is)
told_place w n it stands (Err fault) is = same_place w.servers n it stands (found w.servers n it is)

pub delivered_length : (k : laws.Setting Entry) (g : laws.Ghost Entry) (n : ℕ) (state : State) → IsNumbered k g n state → length (told_of state) ≡ state.delivered
delivered_length k g n state f = length-take-le state.delivered state.peer.stable.history f.stands.within

-- what is delivered stays the front, so no less is delivered
pub no_less : {C : Type 0} (k : laws.Setting Entry) (g later : laws.Ghost Entry) (w next : World C) (n : ℕ) (it stands : ProcessState) → WorldStands k g w → WorldStands k later next → server_at w.servers n ≡ Some it → server_at next.servers n ≡ Some stands → IsPrefix (delivered_of w n) (delivered_of next n) → it.state.delivered ≤ stands.state.delivered
no_less k g later w next n it stands f s is at more =
    let front : IsPrefix (told_of it.state) (told_of stands.state) =
    subst (λ (o : Option ProcessState). IsPrefix (told_of it.state) (delivered_list o)) at
    (subst (λ (o : Option ProcessState). IsPrefix (delivered_list o) (delivered_of next n)) is more) in
    let before : length (told_of it.state) ≡ it.state.delivered = delivered_length k g n it.state (f.servers n it is) in
    let now : length (told_of stands.state) ≡ stands.state.delivered = delivered_length k later n stands.state (s.servers n stands at) in
    let low : length (told_of it.state) ≤ length (told_of stands.state) = prefix_length (told_of it.state) (told_of stands.state) front in
    omega arith

pub acts_known : {C : Type 0} (k : laws.Setting Entry) (g : laws.Ghost Entry) (book : Book) (spares : ℕ → Type 0) (w : World C) (n : ℕ) (rule : State → rules.Acts C) (r : Result ProcessState WorldFault) → WorldStands k g w → Knows g book w → ((it : ProcessState) → r ≡ Ok it → server_at w.servers n ≡ Some it) → spares n → ((it : ProcessState) → server_at w.servers n ≡ Some it → StaysBy it.state (rule it.state)) → ((it : ProcessState) → server_at w.servers n ≡ Some it → Keeps book n it.state (rule it.state)) → (s : KeepsAll k g spares w (acts w n rule r).0) → Knows s.after book (acts w n rule r).0
acts_known k g book spares w n rule (Err fault) f b is spared stays keeps s = same_known g s.after book w s.grows b
acts_known {C} k g book spares w n rule (Ok it) f b is spared stays keeps s =
    let here = is it refl in
    let stands : ProcessState = standing it.up (rule it.state).0 in
    let next : World C = (acts w n rule (Ok it)).0 in
    let low : it.state.delivered ≤ stands.state.delivered =
    no_less k g s.after w next n it stands f s.stands here (told_place w n it stands (rule it.state).1 here) (s.more n spared) in
    let acted = keeps it here low in
    turn_known k g s.after book w n it stands (rule it.state).1 s.grows f b here acted.server
    (turns_by it.state stands.state (stays it here) low) acted.sent
