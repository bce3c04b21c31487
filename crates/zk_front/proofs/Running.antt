-- Events one after the other, and messages that arrive in order.
use Rattle.std.proofs.Common.{◌≡◌, ◌<◌, ◌≤◌, ℕ, ◌+◌, false, List, [], ◌∷◌, ◌++◌, length, take, Ok, Err, refl, sym, ap, subst, ◌∙◌, arith}
use native.Mathlib.Numerals.{unary_clauses}
use Rattle.std.proofs.lemmas.List.FromFn.{map-range_with_len_more, take-map-range_with_len}
use Rattle.zab_epoch.specs.Quorums.{is_heavy}
use Rattle.zk_line_protocol.specs.declared.told.ServiceFault.{ServiceFault}
use Rattle.zk_ensemble.specs.Views.{EnsembleView, state_of, profile_in}
use Rattle.zk_model.proofs.Worlds.{after_all}
use Rattle.zk_model.specs.Counting.{counted}
use Rattle.zk_model.specs.Ensembles.{Ensemble, Told, profile_by}
use Rattle.zk_model.specs.Runs.{after}
use Rattle.zk_model.specs.declared.event.Event.{Event}
use Rattle.zk_model.specs.declared.fault.EnsembleFault.TheVariants as faults
use Rattle.zk_front.specs.Arriving.{arrival, arrivals, most_arrivals, Arrives, ArrivesNext, Broken, Delivered, LacksNext, Overrun}
use Rattle.zk_front.specs.Happening.{Happens, Ran, is_lack}
use Rattle.zk_front.specs.ServiceStarting.{followers, following, Refused, BrokeOff}
use Rattle.zk_front.specs.declared.ensemble_servers.Servers.{Servers}

pub ran_nothing : (it : EnsembleView) → Ran it [] it
ran_nothing it = record { state = refl; quorums = refl; servers = refl }

pub ran_then : (a b c : EnsembleView) (some more : List Event) → Ran a some b → Ran b more c → Ran a (some ++ more) c
ran_then a b c some more r s = record {
  state = s.state
      ∙ ap (λ (q : List ℕ). after (profile_by (is_heavy q)) (state_of b) more) r.quorums
      ∙ ap (λ (x : Ensemble). after (profile_in a.below) x more) r.state
      ∙ sym (after_all (profile_in a.below) (state_of a) some more);
  quorums = s.quorums ∙ r.quorums;
  servers = s.servers ∙ r.servers;
}

-- an event without allocation failure counts as itself
pub counted_whole : (event : Event) (answer : Told) → is_lack answer ≡ false → counted event answer ≡ event ∷ []
counted_whole event (Ok answer) kept = refl
counted_whole event (Err (faults.Behind seen at)) kept = refl
counted_whole event (Err faults.NoServer) kept = refl
counted_whole event (Err faults.NoMessage) kept = refl
counted_whole event (Err faults.Down) kept = refl
counted_whole event (Err faults.NotDown) kept = refl
counted_whole event (Err faults.NotServing) kept = refl
counted_whole event (Err faults.DuplicateCall) kept = refl
counted_whole event (Err faults.EpochFull) kept = refl
counted_whole event (Err faults.NoMemory) kept = absurd cc
counted_whole event (Err (faults.Died number)) kept = absurd cc

pub ran_whole : (old new : EnsembleView) (event : Event) (answer : Told) → Happens old event answer new → is_lack answer ≡ false → Ran old (event ∷ []) new
ran_whole old new event answer h kept = subst (λ (some : List Event). Ran old some new) (counted_whole event answer kept) h.ran

-- ---- messages

-- some of the messages that may arrive have arrived
pub record Arriving (old : Servers) (left : ℕ) (new : Servers) : Type 0 where
  pub count : ℕ
  pub all : count + left ≡ most_arrivals
  pub arrives : Arrives old count new

pub arrives_none : (it : Servers) → Arriving it most_arrivals it
arrives_none it = record { count = 0; all = refl; arrives = record { ran = ran_nothing it.ensemble; arrived = omega arith } }

pub arrives_more : (old mid new : Servers) (left less : ℕ) → Arriving old left mid → less + 1 ≡ left → ArrivesNext mid new → Arriving old less new
arrives_more old mid new left less so_far fewer next =
    let more = map-range_with_len_more arrival (old.arrived + 1) so_far.count (mid.arrived + 1) (omega (arith, so_far.arrives.arrived)) in record {
      count = so_far.count + 1;
      all = omega (arith, so_far.all);
      arrives = record {
        ran = subst (λ (some : List Event). Ran old.ensemble some new.ensemble) (sym more) (ran_then old.ensemble mid.ensemble new.ensemble (arrivals old.arrived so_far.count) (arrival (mid.arrived + 1) ∷ []) so_far.arrives.ran next.ran);
        arrived = omega (arith, so_far.arrives.arrived, next.arrived);
      };
    }

pub all_arrived : (old new : Servers) (left : ℕ) → Arriving old left new → length new.ensemble.below.world.messages ≤ new.arrived → Delivered old new
all_arrived old new left it none = record { count = it.count; few = omega (arith, it.all); arrives = it.arrives; all = none }

pub some_left : (old new : Servers) (left : ℕ) → Arriving old left new → left ≡ 0 → new.arrived < length new.ensemble.below.world.messages → Overrun old new
some_left old new left it none more = record { count = it.count; full = omega (arith, it.all); arrives = it.arrives; more = more }

pub one_lacks : (old mid new : Servers) (left : ℕ) → Arriving old left mid → mid.arrived < length mid.ensemble.below.world.messages → LacksNext mid new → Broken old new
one_lacks old mid new left it more lacks = record { count = it.count; mid = mid; arrives = it.arrives; more = more; lacks = lacks }

-- ---- followers

pub one_more_follows : (old mid new : EnsembleView) (count : ℕ) → Ran old (followers count) mid → Ran mid (following (count + 2) ∷ []) new → Ran old (followers (count + 1)) new
one_more_follows old mid new count so_far next =
    let more = map-range_with_len_more following 2 count (count + 2) (omega arith) in
    subst (λ (some : List Event). Ran old some new) (sym more) (ran_then old mid new (followers count) (following (count + 2) ∷ []) so_far next)

-- ---- an event that fails

-- the first one failed
pub broke_first : (old new : EnsembleView) (event : Event) (rest : List Event) (fault : ServiceFault) → Refused old event fault new → BrokeOff old (event ∷ rest) fault new
broke_first old new event rest fault refusal = record { count = 0; event = event; mid = old; next = refl; ran = ran_nothing old; refused = refusal }

-- the first one happened, and one after it failed
pub broke_behind : (old mid new : EnsembleView) (event : Event) (rest : List Event) (fault : ServiceFault) → Ran old (event ∷ []) mid → BrokeOff mid rest fault new → BrokeOff old (event ∷ rest) fault new
broke_behind old mid new event rest fault first it = record {
  count = it.count + 1;
  event = it.event;
  mid = it.mid;
  next = simp unary_clauses (ap (λ (l : List Event). event ∷ l) (simp unary_clauses at it.next));
  ran = simp unary_clauses (ran_then old mid it.mid (event ∷ []) (take it.count rest) first it.ran);
  refused = it.refused;
}

-- some servers follow, and the next one failed to
pub broke_at : (old mid new : EnsembleView) (count total : ℕ) (fault : ServiceFault) → count < total → Ran old (followers count) mid → Refused mid (following (count + 2)) fault new → BrokeOff old (followers total) fault new
broke_at old mid new count total fault below so_far refusal =
    let here = take-map-range_with_len following 2 total count (omega (arith, below)) in
    record {
      count = count;
      event = following (count + 2);
      mid = mid;
      next = take-map-range_with_len following 2 total (count + 1) (omega (arith, below))
          ∙ (map-range_with_len_more following 2 count (count + 2) (omega arith) ∙ ap (λ (l : List Event). l ++ following (count + 2) ∷ []) (sym here));
      ran = subst (λ (l : List Event). Ran old l mid) (sym here) so_far;
      refused = refusal;
    }
