-- The servers of an ensemble, in a list.
use Rattle.std.proofs.Common.{◌≡◌, ◌≢◌, ℕ, zero, suc, ◌-◌, ◌<◌, ◌≤◌, Bool, true, false, cond, List, [], ◌∷◌, length, set, slice_get, slice_set, slice_index_or, Option, Some, None, Ok, Err, refl, sym, ap, ◌∙◌, arith, int_lt}
use Rattle.std.proofs.lemmas.Bool.Decides.{nat_tests}
use Rattle.std.proofs.lemmas.Option.{slice_get-get_or}
use Rattle.zab_model.specs.Worlds.{World, is_server}
use Rattle.zk_requests.specs.declared.call.Call.{Call}
use Rattle.zk_model.specs.declared.answer.Answer.TheVariants.{Looked}
use Rattle.zk_model.specs.declared.fault.EnsembleFault.{EnsembleFault}
use Rattle.zk_model.specs.declared.fault.EnsembleFault.TheVariants as faults
use Rattle.zk_table.specs.declared.read.ReadReply.{ReadReply}
use Rattle.zk_model.specs.Ensembles.{Ensemble, ReplicaView, Told, ensemble, replica_at, changed_at, at_server, looks, watching, reply_of}
use Rattle.zk_model.specs.declared.event.Question.{Question}

-- ---- lists

pub slice_set_is : {A : Type 0} (xs : List A) (i : ℕ) (x : A) → slice_set xs i x ≡ set xs i x
slice_set_is [] i x = refl
slice_set_is (y ∷ xs) zero x = refl
slice_set_is (y ∷ xs) (suc i) x = ap (λ l. y ∷ l) (slice_set_is xs i x)

-- ---- a server by its number

-- a place in the list is this server's
pub record IsHere (rs : List ReplicaView) (number : ℕ) (old : ReplicaView) : Type 0 where
  pub one : is_server (length rs) number ≡ true
  pub get : slice_get rs (number - 1) ≡ Some old
  pub at : replica_at rs number ≡ Some old

pub is_here : (rs : List ReplicaView) (number : ℕ) (old : ReplicaView) → number ≢ 0 → number ≤ length rs → old ≡ slice_index_or rs (number - 1) old → IsHere rs number old
is_here rs number old some within is =
    let above : 0 < number = omega (arith, some) in
    let low : number - 1 < length rs = omega arith in
    let get : slice_get rs (number - 1) ≡ Some old = slice_get-get_or rs (number - 1) old low ∙ ap Some (sym is) in
    let one : is_server (length rs) number ≡ true = grind (arith, nat_tests) in
    record { one = one; get = get; at = ap (λ b. cond b (slice_get rs (number - 1)) None) one ∙ get }

pub is_place : (rs : List ReplicaView) (number : ℕ) (other : ReplicaView) → number ≢ 0 → number ≤ length rs → IsHere rs number (slice_index_or rs (number - 1) other)
is_place rs number other some within =
    let above : 0 < number = omega (arith, some) in
    let low : number - 1 < length rs = omega arith in
    is_here rs number (slice_index_or rs (number - 1) other) some within (same_some _ _ (sym (slice_get-get_or rs (number - 1) other low) ∙ slice_get-get_or rs (number - 1) (slice_index_or rs (number - 1) other) low))
  where
    same_some : (x y : ReplicaView) → (let o : Option ReplicaView = Some x in o ≡ Some y) → x ≡ y
    same_some x y e = cc

-- one of them is replaced
pub replaced : (change : ReplicaView → ReplicaView) (rs : List ReplicaView) (number : ℕ) (old new : ReplicaView) → IsHere rs number old → new ≡ change old → slice_set rs (number - 1) new ≡ at_server change rs number
replaced change rs number old new here is =
    slice_set_is rs (number - 1) new
    ∙ ap (λ s. set rs (number - 1) s) is
    ∙ sym (ap (λ o. changed_at change rs number o) here.at)

-- ---- reads

set_same : (rs : List ReplicaView) (i : ℕ) (old : ReplicaView) → slice_get rs i ≡ Some old → slice_set rs i old ≡ rs
set_same [] i old is = refl
set_same (r ∷ rs) zero old is = ap (λ x. x ∷ rs) (sym (same r old is))
  where
    same : (x y : ReplicaView) → (let o : Option ReplicaView = Some x in o ≡ Some y) → x ≡ y
    same x y e = cc
set_same (r ∷ rs) (suc i) old is = ap (λ l. r ∷ l) (set_same rs i old is)

-- what a read comes to at a server that there is
abbrev looks_at : Ensemble → Question → ReplicaView → Ensemble × Told
looks_at x question it =
    cond (int_lt it.tree.last question.seen) (x, Err (faults.Behind question.seen it.tree.last))
    (ensemble x.world (at_server (watching question (reply_of question it.tree)) x.shown question.server), Ok (Looked (reply_of question it.tree)))

looks_here : (w : World Call) (rs : List ReplicaView) (question : Question) (old : ReplicaView) → IsHere rs question.server old → looks (ensemble w rs) question (replica_at rs question.server) ≡ looks_at (ensemble w rs) question old
looks_here w rs question old here = ap (λ o. looks (ensemble w rs) question o) here.at

-- it is behind
pub behind : (w : World Call) (rs : List ReplicaView) (question : Question) (old kept : ReplicaView) (fault : EnsembleFault) → IsHere rs question.server old → kept ≡ old → Some fault ≡ cond (int_lt old.tree.last question.seen) (Some (faults.Behind question.seen old.tree.last)) None → (ensemble w (slice_set rs (question.server - 1) kept), Err fault) ≡ looks (ensemble w rs) question (replica_at rs question.server)
behind w rs question old kept fault here same said =
    ap (λ l. (ensemble w l, Err fault)) (ap (slice_set rs (question.server - 1)) same ∙ set_same rs (question.server - 1) old here.get)
    ∙ by_test (int_lt old.tree.last question.seen) _ said
    ∙ sym (looks_here w rs question old here)
  where
    same_fault : (a b : EnsembleFault) → (let o : Option EnsembleFault = Some a in o ≡ Some b) → a ≡ b
    same_fault a b e = cc

    by_test : (b : Bool) (other : Ensemble × Told) → Some fault ≡ cond b (Some (faults.Behind question.seen old.tree.last)) None → (ensemble w rs, Err fault) ≡ cond b (ensemble w rs, Err (faults.Behind question.seen old.tree.last)) other
    by_test true other e = ap (λ f. (ensemble w rs, Err f)) (same_fault fault _ e)
    by_test false other e = absurd cc

-- it answers
pub answers : (w : World Call) (rs : List ReplicaView) (question : Question) (old new : ReplicaView) (reply : ReadReply) → IsHere rs question.server old → None ≡ cond (int_lt old.tree.last question.seen) (Some (faults.Behind question.seen old.tree.last)) None → reply ≡ reply_of question old.tree → new ≡ watching question reply old → (ensemble w (slice_set rs (question.server - 1) new), Ok (Looked reply)) ≡ looks (ensemble w rs) question (replica_at rs question.server)
answers w rs question old new reply here said told is =
    ap (λ l. (ensemble w l, Ok (Looked reply))) (replaced (watching question reply) rs question.server old new here is)
    ∙ ap (λ r. (ensemble w (at_server (watching question r) rs question.server), Ok (Looked r))) told
    ∙ by_test (int_lt old.tree.last question.seen) _ _ said
    ∙ sym (looks_here w rs question old here)
  where
    by_test : (b : Bool) (refused told : Ensemble × Told) → None ≡ cond b (Some (faults.Behind question.seen old.tree.last)) None → told ≡ cond b refused told
    by_test true refused told e = absurd cc
    by_test false refused told e = refl
