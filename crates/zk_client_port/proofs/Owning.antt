-- A write to one connection, and the other connections.
use Rattle.std.proofs.Common.{◌≡◌, ◌∙◌, ℕ, ℤ, ◌==◌, Bool, true, false, List, [], ◌∷◌, find, Option, Some, None, option_map, if◌then◌else◌, refl, ap, arith}
use Rattle.std.proofs.lemmas.Bool.Decides.{nat_tests}
use Rattle.zk_client_port.specs.Laws.{after_its_output, after_its_outputs}
use Rattle.zk_client_port.specs.Outputs.{is_numbered, with_first, after_output, after_outputs}
use Rattle.zk_client_port.specs.Results.{with_outcome, with_opened, with_replied}
use Rattle.zk_client_port.specs.declared.admission.Admission.{Admission}
use Rattle.zk_client_port.specs.declared.expected.Expected.{Expected}
use Rattle.zk_client_port.specs.declared.expected.Expected.TheVariants.{Opened, Attached, Replied, Read, Known, Closed}
use Rattle.zk_client_port.specs.declared.expected.Opening.{Opening}
use Rattle.zk_connections.specs.Connections.{may_open, with_event, with_event_in, with_reply_in, with_immediate_in, with_session}
use Rattle.zk_connections.specs.declared.connection.Connection.{Connection}
use Rattle.zk_connections.specs.declared.connection.Phase.{Phase}
use Rattle.zk_connections.specs.declared.connection.Phase.TheVariants.{New, Connecting, Connected}
use Rattle.zk_frames.specs.declared.reply.ConnectResponse.{ConnectResponse}
use Rattle.zk_hub.specs.declared.outcome.Outcome.{Outcome}
use Rattle.zk_hub.specs.declared.outcome.Outcome.TheVariants as outcomes
use Rattle.zk_hub.specs.declared.news.Output.{Output}
use Rattle.zk_hub.specs.declared.news.Output.TheVariants.{Event, Reply}
use Rattle.zk_client_session.specs.declared.ask.Immediate.{Immediate}
use Rattle.zk_client_session.specs.declared.expected_reply.ExpectedReply.{ExpectedReply}
use Rattle.zk_client_session.specs.declared.reply.Reply.{Reply as LinkReply}
use Rattle.zk_watch.specs.declared.watch.Fired.{Fired}

-- ---- a write keeps the number

either : (b : Bool) (x y : Connection) (n : ℕ) → x.number ≡ n → y.number ≡ n → (if b then x else y).number ≡ n
either true x y n p q = p
either false x y n p q = q

event_in : (phase : Phase) (event : Fired) (it : Connection) → (with_event_in phase event.kind event.path it).number ≡ it.number
event_in New event it = refl
event_in Connecting event it = refl
event_in (Connected link) event it = refl

reply_in : (phase : Phase) (expected : ExpectedReply) (reply : LinkReply) (it : Connection) → (with_reply_in phase expected reply it).number ≡ it.number
reply_in New expected reply it = refl
reply_in Connecting expected reply it = refl
reply_in (Connected link) expected reply it = refl

immediate_in : (phase : Phase) (last : ℤ) (immediate : Immediate) (it : Connection) → (with_immediate_in phase last immediate it).number ≡ it.number
immediate_in New last immediate it = refl
immediate_in Connecting last immediate it = refl
immediate_in (Connected link) last immediate it = refl

in_session : (response : ConnectResponse) (seen : ℤ) (it : Connection) → (with_session response seen it).number ≡ it.number
in_session response seen it = either (may_open it) _ it _ refl refl

opened : (admission : Admission) (opening : Opening) (outcome : Outcome) (it : Connection) → (with_opened admission opening outcome it).number ≡ it.number
opened admission opening (outcomes.Wrote result) it = either _ _ _ _ (in_session _ opening.seen it) refl
opened admission opening outcomes.Synced it = refl
opened admission opening outcomes.Known it = refl

replied : (last : ℤ) (expected : ExpectedReply) (time : ℤ) (outcome : Outcome) (it : Connection) → (with_replied last expected time outcome it).number ≡ it.number
replied last expected time (outcomes.Wrote result) it = reply_in it.phase expected _ it
replied last expected time outcomes.Synced it = reply_in it.phase expected _ it
replied last expected time outcomes.Known it = refl

outcome_in : (admission : Admission) (last : ℤ) (expected : Expected) (outcome : Outcome) (it : Connection) → (with_outcome admission last expected outcome it).number ≡ it.number
outcome_in admission last (Opened opening) outcome it = opened admission opening outcome it
outcome_in admission last (Attached session opening) outcome it = either _ _ _ _ (in_session _ opening.seen it) refl
outcome_in admission last (Replied expected time) outcome it = replied last expected time outcome it
outcome_in admission last (Read ask expected) outcome it = refl
outcome_in admission last (Known immediate) outcome it = immediate_in it.phase last immediate it
outcome_in admission last Closed outcome it = refl

-- ---- a write to the first connection with a number

same_number : (k m n : ℕ) → (k == m) ≡ true → (k == n) ≡ true → (m == n) ≡ true
same_number k m n p q = grind (arith, nat_tests, p, q)

other_number : (k m n : ℕ) → (k == m) ≡ true → (k == n) ≡ false → (m == n) ≡ false
other_number k m n p q = grind (arith, nat_tests, p, q)

third_number : (k m n : ℕ) → (k == m) ≡ false → (k == n) ≡ true → (m == n) ≡ false
third_number k m n p q = grind (arith, nat_tests, p, q)

abbrev changed_by : (Connection → Connection) → Bool → Option Connection → Option Connection
changed_by change mine found = option_map (λ it. if mine then change it else it) found

none_changed : (change : Connection → Connection) (mine : Bool) → None ≡ changed_by change mine None
none_changed change mine = refl

same_found : (found : Option Connection) → found ≡ option_map (λ it. it) found
same_found None = refl
same_found (Some it) = refl

module _ (m n : ℕ) (change : Connection → Connection) (keeps : (x : Connection) → (change x).number ≡ x.number) where
  head : (its : List Connection) (x : Connection) (a b : Bool) → (x.number == m) ≡ a → (x.number == n) ≡ b
      → find (is_numbered n) (with_first (is_numbered m) change its) ≡ changed_by change (m == n) (find (is_numbered n) its)
      → find (is_numbered n) (with_first (is_numbered m) change (x ∷ its)) ≡ changed_by change (m == n) (find (is_numbered n) (x ∷ its))
  head its x true true p q known =
      let mine : ((change x).number == n) ≡ true = ap (λ (k : ℕ). k == n) (keeps x) ∙ q in
      rw (p, mine, q, same_number x.number m n p q) refl
  head its x true false p q known =
      let other : ((change x).number == n) ≡ false = ap (λ (k : ℕ). k == n) (keeps x) ∙ q in
      rw (p, other, q, other_number x.number m n p q) (same_found (find (is_numbered n) its))
  head its x false true p q known = rw (p, q, third_number x.number m n p q) refl
  head its x false false p q known = rw (p, q) known

  found : (its : List Connection) → find (is_numbered n) (with_first (is_numbered m) change its) ≡ changed_by change (m == n) (find (is_numbered n) its)
  found [] = none_changed change (m == n)
  found (x ∷ its) = head its x (x.number == m) (x.number == n) refl refl (found its)

-- ---- outputs

one : (admission : Admission) (last : ℤ) (number : ℕ) (output : Output Fired Expected Outcome) (its : List Connection)
    → find (is_numbered number) (after_output admission last output its) ≡ option_map (after_its_output admission last number output) (find (is_numbered number) its)
one admission last number (Event connection event) its = found connection number (with_event event.kind event.path) (λ x. event_in x.phase event x) its
one admission last number (Reply connection expected outcome) its = found connection number (with_outcome admission last expected outcome) (λ x. outcome_in admission last expected outcome x) its

none_written : (admission : Admission) (last : ℤ) (number : ℕ) (found : Option Connection) → found ≡ option_map (after_its_outputs admission last number []) found
none_written admission last number None = refl
none_written admission last number (Some it) = refl

then_rest : (admission : Admission) (last : ℤ) (number : ℕ) (output : Output Fired Expected Outcome) (outputs : List (Output Fired Expected Outcome)) (found : Option Connection)
    → option_map (after_its_outputs admission last number outputs) (option_map (after_its_output admission last number output) found) ≡ option_map (after_its_outputs admission last number (output ∷ outputs)) found
then_rest admission last number output outputs None = refl
then_rest admission last number output outputs (Some it) = refl

pub each : (admission : Admission) (last : ℤ) (outputs : List (Output Fired Expected Outcome)) (number : ℕ) (its : List Connection)
    → find (is_numbered number) (after_outputs admission last outputs its) ≡ option_map (after_its_outputs admission last number outputs) (find (is_numbered number) its)
each admission last [] number its = none_written admission last number (find (is_numbered number) its)
each admission last (output ∷ outputs) number its =
    each admission last outputs number (after_output admission last output its)
    ∙ ap (option_map (after_its_outputs admission last number outputs)) (one admission last number output its)
    ∙ then_rest admission last number output outputs (find (is_numbered number) its)
