-- A server whose completed syncs were taken does what it would do otherwise.
use Rattle.std.proofs.Common.{◌≡◌, ◌≢◌, ℕ, inl, inr, zero, suc, List, [], ◌∷◌, ◌++◌, take, refl, sym, ap, ◌∙◌, subst}
use Rattle.std.specs.List.{AllByRecursion}
use Rattle.std.proofs.lemmas.List.{append_assoc}
use Rattle.zab_broadcast.specs.declared.state.State.{State}
use Rattle.zab_broadcast.specs.declared.syncs.Caught.{Caught}
use Rattle.zab_broadcast.specs.Calls.{Setting}
use Rattle.zab_epoch.specs.declared.message.Message.{Message}
use Rattle.zab_host.specs.Hosts.{Input, Receives, Submits, Syncs, Leads, Follows, IsFor, acts_of, messages_of}
use Rattle.zab_host_laws.specs.Composition.{after_inputs, messages_in}
use Rattle.zab_host_laws.specs.Fits.{AllFor}
use Rattle.zab_host_laws.specs.Releases.{WasSent, WereSent}
use Rattle.zab_host_laws.specs.TakenSyncs.{HasTaken, TakenSyncsChangeNothing, with_caught}
use Rattle.zab_host_laws.specs.Hosts.{Network}
use Rattle.zk_server_laws.specs.Turns.{IsHeard, AllHeard}
use Rattle.zk_server_laws.proofs.Lists.{Sent, sent_stays, all_get}

for_moves : {C : Type 0} (whole : State) (x : List Caught) (input : Input C) → IsFor (with_caught whole x) input → IsFor whole input
for_moves whole x (Receives message) p = p
for_moves whole x (Submits call) p = p
for_moves whole x (Syncs tag) p = p
for_moves whole x Leads p = p
for_moves whole x (Follows leader) p = p

pub record SameAfter {C : Type 0} (setting : Setting C) (taken : List Caught) (whole left : State) (inputs : List (Input C)) : Type 0 where
  pub has : HasTaken taken (after_inputs setting whole inputs) (after_inputs setting left inputs)
  pub fits : AllFor setting whole inputs
  pub said : messages_in setting left inputs ≡ messages_in setting whole inputs

pub same_after : {C : Type 0} (setting : Setting C) → TakenSyncsChangeNothing setting → (taken : List Caught) (whole left : State) (inputs : List (Input C))
    → HasTaken taken whole left → AllFor setting left inputs → SameAfter setting taken whole left inputs
same_after setting law taken whole left [] has fits = record { has = has; fits = tt; said = refl }
same_after setting law taken whole left (input ∷ inputs) has fits =
    let one = law.inputs taken whole left input has in
    let rest = same_after setting law taken (acts_of setting whole input).0 (acts_of setting left input).0 inputs one.0 fits.1 in
    record {
      has = rest.has;
      fits = (for_moves whole left.caught input (subst (λ (s : State). IsFor s input) has.same fits.0), rest.fits);
      said = ap (λ r. messages_of r ++ messages_in setting (acts_of setting left input).0 inputs) one.1
          ∙ ap (λ l. messages_of (acts_of setting whole input).1 ++ l) rest.said;
    }

pub has_more : (a b : List Caught) (whole mid next : State) → HasTaken a whole mid → HasTaken b mid next → HasTaken (a ++ b) whole next
has_more a b whole mid next m n = record {
  same = n.same ∙ ap (λ (s : State). with_caught s next.caught) m.same;
  all = m.all ∙ ap (λ l. a ++ l) n.all ∙ sym (append_assoc a b next.caught);
}

pub has_none : (whole : State) → HasTaken [] whole whole
has_none whole = record { same = refl; all = refl }

-- ---- the first inputs

pub for_take : {C : Type 0} (setting : Setting C) (state : State) (count : ℕ) (inputs : List (Input C)) → AllFor setting state inputs → AllFor setting state (take count inputs)
for_take setting state zero inputs p = tt
for_take setting state (suc count) [] p = tt
for_take setting state (suc count) (input ∷ inputs) p = (p.0, for_take setting (acts_of setting state input).0 count inputs p.1)

pub sent_take : {C : Type 0} (c : Network C) (count : ℕ) (inputs : List (Input C)) → WereSent c inputs → WereSent c (take count inputs)
sent_take c zero inputs p = tt
sent_take c (suc count) [] p = tt
sent_take c (suc count) (input ∷ inputs) p = (p.0, sent_take c count inputs p.1)

-- ---- what was sent

was_grow : {C : Type 0} (c next : Network C) (more : List (Message C)) (input : Input C) → c.messages ++ more ≡ next.messages → WasSent c input → WasSent next input
was_grow c next more (Receives message) e p = subst (λ l. Sent l message) e (sent_stays c.messages more message p)
was_grow c next more (Submits call) e p = tt
was_grow c next more (Syncs tag) e p = tt
was_grow c next more Leads e p = tt
was_grow c next more (Follows leader) e p = tt

pub were_grow : {C : Type 0} (c next : Network C) (more : List (Message C)) (inputs : List (Input C)) → c.messages ++ more ≡ next.messages → WereSent c inputs → WereSent next inputs
were_grow c next more [] e p = tt
were_grow c next more (input ∷ inputs) e p = (was_grow c next more input e p.0, were_grow c next more inputs e p.1)

was_heard : {C : Type 0} (servers : ℕ) (c : Network C) (brought : ℕ → List (Message C)) (input : Input C) → ((from : ℕ) → AllByRecursion (Sent c.messages) (brought from)) → servers ≢ 1 → IsHeard servers brought input → WasSent c input
was_heard servers c brought (Receives message) sent many (inl on) = all_get (Sent c.messages) (brought on.line) on.place message on.is (sent on.line)
was_heard servers c brought (Receives message) sent many (inr own) = absurd (many own.0)
was_heard servers c brought (Submits call) sent many p = tt
was_heard servers c brought (Syncs tag) sent many p = tt
was_heard servers c brought Leads sent many p = tt
was_heard servers c brought (Follows leader) sent many p = tt

pub were_heard : {C : Type 0} (servers : ℕ) (c : Network C) (brought : ℕ → List (Message C)) (inputs : List (Input C)) → ((from : ℕ) → AllByRecursion (Sent c.messages) (brought from)) → servers ≢ 1 → AllHeard servers brought inputs → WereSent c inputs
were_heard servers c brought [] sent many p = tt
were_heard servers c brought (input ∷ inputs) sent many p = (was_heard servers c brought input sent many p.0, were_heard servers c brought inputs sent many p.1)
