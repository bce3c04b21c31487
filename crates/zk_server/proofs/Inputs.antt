-- Inputs after inputs.
use Rattle.std.proofs.Common.{◌≡◌, ◌≤◌, ℕ, zero, suc, List, [], ◌∷◌, ◌++◌, map, take, slice_get, Some, refl, sym, ap, ◌∙◌, subst, inl, inr, arith}
use Rattle.std.proofs.lemmas.List.{append_assoc}
use Rattle.zab_broadcast.specs.Calls.{Setting}
use Rattle.zab_broadcast.specs.declared.state.State.{State}
use Rattle.zab_epoch.specs.declared.message.Message.{Message}
use Rattle.zab_host.specs.Hosts.{Input, Receives, Submits, Syncs, Leads, Follows, acts_of, messages_of}
use Rattle.zab_host.specs.Tags.{Request}
use Rattle.zab_host_laws.specs.Composition.{step_of, after_inputs, messages_in}
use Rattle.zab_host_laws.specs.Fits.{AllFor}
use Rattle.zab_host_laws.specs.Tags.{tag_in, tags_in}
use Rattle.zab_model.specs.Worlds.{Profile}
use Rattle.zk_requests.specs.declared.call.Call.{Call}
use Rattle.zk_server.specs.Deeds.{AllAmong, Hears, IsAmong, Offers}
use Rattle.zk_server.specs.Mail.{listed}
use Rattle.zk_server_laws.specs.Turns.{AreRising}

module _ {C : Type 0} (setting : Setting C) where
  pub after_both : (state : State) (a b : List (Input C)) → after_inputs setting state (a ++ b) ≡ after_inputs setting (after_inputs setting state a) b
  after_both state [] b = refl
  after_both state (input ∷ a) b = after_both (acts_of setting state input).0 a b

  pub messages_both : (state : State) (a b : List (Input C)) → messages_in setting state (a ++ b) ≡ messages_in setting state a ++ messages_in setting (after_inputs setting state a) b
  messages_both state [] b = refl
  messages_both state (input ∷ a) b =
      ap (λ l. messages_of (acts_of setting state input).1 ++ l) (messages_both (acts_of setting state input).0 a b)
      ∙ sym (append_assoc (messages_of (acts_of setting state input).1) (messages_in setting (acts_of setting state input).0 a) (messages_in setting (after_inputs setting (acts_of setting state input).0 a) b))

  pub for_both : (state : State) (a b : List (Input C)) → AllFor setting state a → AllFor setting (after_inputs setting state a) b → AllFor setting state (a ++ b)
  for_both state [] b p q = q
  for_both state (input ∷ a) b p q = (p.0, for_both (acts_of setting state input).0 a b p.1 q)

module _ {C : Type 0} (profile : Profile C) (number : ℕ) where
  pub asked_both : (a b : List (Input C)) → tags_in profile (map (step_of number) (a ++ b)) ≡ tags_in profile (map (step_of number) a) ++ tags_in profile (map (step_of number) b)
  asked_both [] b = refl
  asked_both (input ∷ a) b =
      ap (λ l. tag_in profile (step_of number input) ++ l) (asked_both a b)
      ∙ sym (append_assoc (tag_in profile (step_of number input)) (tags_in profile (map (step_of number) a)) (tags_in profile (map (step_of number) b)))

pub map_both : {A B : Type 0} (f : A → B) (a b : List A) → map f (a ++ b) ≡ map f a ++ map f b
map_both f [] b = refl
map_both f (x ∷ a) b = ap (λ l. f x ∷ l) (map_both f a b)

rising_up : (number boot low high : ℕ) (requests : List Request) → AreRising number boot low high requests → low ≤ high
rising_up number boot low high [] r = r
rising_up number boot low high (request ∷ requests) r =
    let more = rising_up number boot (suc request.number) high requests r.1.1.1 in
    let least = r.1.1.0 in
    omega arith

rising_from : (number boot lower low high : ℕ) (requests : List Request) → lower ≤ low → AreRising number boot low high requests → AreRising number boot lower high requests
rising_from number boot lower low high [] le r = omega arith
rising_from number boot lower low high (request ∷ requests) le r =
    let least = r.1.1.0 in (r.0, (r.1.0, (omega arith, r.1.1.1)))

pub rising_both : (number boot low mid high : ℕ) (a b : List Request) → AreRising number boot low mid a → AreRising number boot mid high b → AreRising number boot low high (a ++ b)
rising_both number boot low mid high [] b p q = rising_from number boot low mid high b p q
rising_both number boot low mid high (request ∷ a) b p q = (p.0, (p.1.0, (p.1.1.0, rising_both number boot (suc request.number) mid high a b p.1.1.1 q)))

-- ---- messages

pub take_more : {A : Type 0} (xs : List A) (i : ℕ) → take (suc i) xs ≡ take i xs ++ listed (slice_get xs i)
take_more [] zero = refl
take_more [] (suc i) = refl
take_more (x ∷ xs) zero = refl
take_more (x ∷ xs) (suc i) = ap (λ (l : List _). x ∷ l) (take_more xs i)

module _ (setting : Setting Call) where
  pub hears_both : (state : State) (a b : List (Message Call)) (first later : List (Input Call))
      → Hears setting state a first → Hears setting (after_inputs setting state first) b later → Hears setting state (a ++ b) (first ++ later)
  hears_both state [] b first later p q =
      subst (λ (l : List (Input Call)). Hears setting state b (l ++ later)) (sym p) (subst (λ (l : List (Input Call)). Hears setting (after_inputs setting state l) b later) p q)
  hears_both state (message ∷ a) b first later p q =
      let one = p.0 in
      let rest = p.1.0 in
      let mid = after_inputs setting state one in
      let q2 : Hears setting (after_inputs setting mid rest) b later =
      subst (λ (s : State). Hears setting s b later) (ap (after_inputs setting state) p.1.1.0 ∙ after_both setting state one rest) q in
      (one, (rest ++ later, (ap (λ (l : List (Input Call)). l ++ later) p.1.1.0 ∙ append_assoc one rest later, (p.1.1.1.0, hears_both mid a b rest later p.1.1.1.1 q2))))

-- ---- which messages they are

among_more : (a b : List (Message Call)) (input : Input Call) → IsAmong b input → IsAmong (a ++ b) input
among_more [] b input p = p
among_more (x ∷ a) b (Receives message) p = (let q = among_more a b (Receives message) p in (suc q.0, q.1))
among_more (x ∷ a) b (Submits call) p = tt
among_more (x ∷ a) b (Syncs tag) p = tt
among_more (x ∷ a) b Leads p = tt
among_more (x ∷ a) b (Follows leader) p = tt

get_stays : {X : Type 0} (a rest : List X) (i : ℕ) (x : X) → slice_get a i ≡ Some x → slice_get (a ++ rest) i ≡ Some x
get_stays [] rest i x is = absurd cc
get_stays (y ∷ a) rest zero x is = is
get_stays (y ∷ a) rest (suc i) x is = get_stays a rest i x is

among_front : (a b : List (Message Call)) (input : Input Call) → IsAmong a input → IsAmong (a ++ b) input
among_front a b (Receives message) p = (p.0, get_stays a b p.0 message p.1)
among_front a b (Submits call) p = tt
among_front a b (Syncs tag) p = tt
among_front a b Leads p = tt
among_front a b (Follows leader) p = tt

pub all_more : (a b : List (Message Call)) (inputs : List (Input Call)) → AllAmong b inputs → AllAmong (a ++ b) inputs
all_more a b [] p = tt
all_more a b (input ∷ inputs) p = (among_more a b input p.0, all_more a b inputs p.1)

pub all_front : (a b : List (Message Call)) (inputs : List (Input Call)) → AllAmong a inputs → AllAmong (a ++ b) inputs
all_front a b [] p = tt
all_front a b (input ∷ inputs) p = (among_front a b input p.0, all_front a b inputs p.1)

pub all_both : (messages : List (Message Call)) (a b : List (Input Call)) → AllAmong messages a → AllAmong messages b → AllAmong messages (a ++ b)
all_both messages [] b p q = q
all_both messages (input ∷ a) b p q = (p.0, all_both messages a b p.1 q)

offered_among : (setting : Setting Call) (state : State) (message : Message Call) (rest : List (Message Call)) (inputs : List (Input Call))
    → Offers setting state (Receives message) inputs → AllAmong (message ∷ rest) inputs
offered_among setting state message rest inputs (inl taken) = subst (λ (l : List (Input Call)). AllAmong (message ∷ rest) l) (sym taken.1) ((0, refl), tt)
offered_among setting state message rest inputs (inr dropped) = subst (λ (l : List (Input Call)). AllAmong (message ∷ rest) l) (sym dropped.1.1) tt

-- a host hears only these messages
pub heard_among : (setting : Setting Call) (state : State) (messages : List (Message Call)) (inputs : List (Input Call)) → Hears setting state messages inputs → AllAmong messages inputs
heard_among setting state [] inputs p = subst (λ (l : List (Input Call)). AllAmong [] l) (sym p) tt
heard_among setting state (message ∷ messages) inputs p =
    subst (λ (l : List (Input Call)). AllAmong (message ∷ messages) l) (sym p.1.1.0)
    (all_both (message ∷ messages) p.0 p.1.0 (offered_among setting state message messages p.0 p.1.1.1.0)
    (all_more (message ∷ []) messages p.1.0 (heard_among setting (after_inputs setting state p.0) messages p.1.0 p.1.1.1.1)))
