-- One more server follows, and one more message arrives.
use Rattle.std.proofs.Common.{◌≡◌, ℕ, suc, ◌+◌, ◌-◌, ◌≤◌, ◌<◌, List, [], ◌∷◌, ◌++◌, refl, sym, ap, subst, ◌∙◌, arith}
use Rattle.zab_model.specs.declared.event.Event.TheVariants.{Arrive, Follow, Lead}
use Rattle.zk_model.specs.declared.event.Event.{Event}
use Rattle.zk_model.specs.declared.event.Event.TheVariants as events
use Rattle.zk_front.specs.Calling.{Calling, Calls, CallsOne}
use Rattle.zk_front.specs.Starting.{Arrives, Begins, arrivals, followings}
use Rattle.zk_front.proofs.Calling.{calls_none, calls_one, calls_then}

followings_more : (before others : ℕ) → suc before ≡ others → followings others ≡ followings before ++ events.World (Follow (before + 2) 1) ∷ []
followings_more before others is = subst (λ (n : ℕ). followings n ≡ followings before ++ events.World (Follow (before + 2) 1) ∷ []) is refl

arrivals_more : (before messages : ℕ) → suc before ≡ messages → arrivals messages ≡ arrivals before ++ events.World (Arrive (before + 1)) ∷ []
arrivals_more before messages is = subst (λ (n : ℕ). arrivals n ≡ arrivals before ++ events.World (Arrive (before + 1)) ∷ []) is refl

pub followed : (old between new : Calling) (others : ℕ) → 1 ≤ others → Calls old (followings (others - 1)) between → CallsOne between (events.World (Follow (others + 1) 1)) new → Calls old (followings (others + 1 - 1)) new
followed old between new others some so_far one =
    let before : suc (others - 1) ≡ others + 1 - 1 = omega (arith, some) in
    let number : others + 1 ≡ others - 1 + 2 = omega (arith, some) in
    let more : followings (others + 1 - 1) ≡ followings (others - 1) ++ events.World (Follow (others + 1) 1) ∷ [] = followings_more (others - 1) (others + 1 - 1) before ∙ ap (λ (n : ℕ). followings (others - 1) ++ events.World (Follow n 1) ∷ []) (sym number) in
    subst (λ (l : List Event). Calls old l new) (sym more) (calls_then old (followings (others - 1)) between (events.World (Follow (others + 1) 1) ∷ []) new so_far (calls_one between (events.World (Follow (others + 1) 1)) new one))

pub arrived_more : (old between new : Calling) (arrived : ℕ) → Calls old (arrivals arrived) between → CallsOne between (events.World (Arrive (arrived + 1))) new → Calls old (arrivals (arrived + 1)) new
arrived_more old between new arrived so_far one =
    let before : suc arrived ≡ arrived + 1 = omega arith in
    subst (λ (l : List Event). Calls old l new) (sym (arrivals_more arrived (arrived + 1) before))
    (calls_then old (arrivals arrived) between (events.World (Arrive (arrived + 1)) ∷ []) new so_far (calls_one between (events.World (Arrive (arrived + 1))) new one))

pub begun : (servers : ℕ) (old led ready new : Calling) → CallsOne old (events.World (Lead 1)) led → Calls led (followings (servers - 1)) ready → Arrives ready new → Begins servers old new
begun servers old led ready new one follow arrive = record {
  ready = ready;
  calls = calls_then old (events.World (Lead 1) ∷ []) led (followings (servers - 1)) ready (calls_one old (events.World (Lead 1)) led one) follow;
  arrives = arrive;
}
