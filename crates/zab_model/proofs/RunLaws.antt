-- Runs, one event longer.
use Rattle.std.proofs.Common.{◌≡◌, ℕ, List, [], ◌∷◌, ◌++◌, length, Some, Result, Ok, refl, ap, sym, ◌∙◌}
use Rattle.zab_epoch.specs.declared.message.Message.{Message}
use Rattle.zab_broadcast.specs.Calls.{Setting}
use Rattle.zab_model.specs.declared.event.Event.{Event}
use Rattle.zab_model.specs.declared.fault.WorldFault.{WorldFault}
use Rattle.zab_model.specs.declared.used_tags.UsedTags.{UsedTags}
use Rattle.zab_model.specs.ProcessStates.{ProcessState}
use Rattle.zab_model.specs.Worlds.{World, Profile, Answer, world, moved, new_world, happens, told, arrives, message_at}
use Rattle.zab_model.specs.Runs.{after, answers, run}

pub after_more : {C : Type 0} (profile : Profile C) (w : World C) (events : List (Event C)) (event : Event C) → after profile w (events ++ event ∷ []) ≡ (happens profile (after profile w events) event).0
after_more profile w [] event = refl
after_more profile w (e ∷ events) event = after_more profile (happens profile w e).0 events event

pub answers_more : {C : Type 0} (profile : Profile C) (w : World C) (events : List (Event C)) (event : Event C) → answers profile w (events ++ event ∷ []) ≡ answers profile w events ++ (happens profile (after profile w events) event).1 ∷ []
answers_more profile w [] event = refl
answers_more profile w (e ∷ events) event =
    ap (λ (told : List Answer). (happens profile w e).1 ∷ told) (answers_more profile (happens profile w e).0 events event)

-- what happens after a run is one event more of it
pub one_more : {C : Type 0} (profile : Profile C) (start w v : World C) (answer : Answer) (events : List (Event C)) (event : Event C) → w ≡ after profile start events → (v, answer) ≡ happens profile w event → v ≡ after profile start (events ++ event ∷ [])
one_more profile start w v answer events event reached stepped =
    ap (λ (p : World _ × Answer). p.0) stepped
    ∙ ap (λ u. (happens profile u event).0) reached
    ∙ sym (after_more profile start events event)

-- what happens after a run, one event after another, is more of it
pub after_all : {C : Type 0} (profile : Profile C) (w : World C) (events more : List (Event C)) → after profile w (events ++ more) ≡ after profile (after profile w events) more
after_all profile w [] more = refl
after_all profile w (e ∷ events) more = after_all profile (happens profile w e).0 events more

pub goes_on : {C : Type 0} (profile : Profile C) (start w v : World C) (events more : List (Event C)) → w ≡ after profile start events → v ≡ after profile w more → v ≡ after profile start (events ++ more)
goes_on profile start w v events more reached is =
    is ∙ ap (λ u. after profile u more) reached ∙ sym (after_all profile start events more)

pub run_more : {C : Type 0} (profile : Profile C) (servers : ℕ) (w v : World C) (told : List Answer) (answer : Answer) (events : List (Event C)) (event : Event C) → (w, told) ≡ run profile servers events → (v, answer) ≡ happens profile w event → (v, told ++ answer ∷ []) ≡ run profile servers (events ++ event ∷ [])
run_more {C} profile servers w v told answer events event reached stepped =
    let start : World C = new_world servers in
    let is : w ≡ after profile start events = ap (λ (p : World C × List Answer). p.0) reached in
    let were : told ≡ answers profile start events = ap (λ (p : World C × List Answer). p.1) reached in
    let answered : answer ≡ (happens profile (after profile start events) event).1 =
    ap (λ (p : World C × Answer). p.1) stepped ∙ ap (λ u. (happens profile u event).1) is in
    let world_is : v ≡ after profile start (events ++ event ∷ []) = one_more profile start w v answer events event is stepped in
    let told_are : told ++ answer ∷ [] ≡ answers profile start (events ++ event ∷ []) =
    ap (λ (l : List Answer). l ++ answer ∷ []) were
    ∙ ap (λ (a : Answer). answers profile start events ++ a ∷ []) answered
    ∙ sym (answers_more profile start events event) in
    ap (λ (u : World C). (u, told ++ answer ∷ [])) world_is
    ∙ ap (λ (l : List Answer). (after profile start (events ++ event ∷ []), l)) told_are

-- an arrival is what the message does
pub arrived : {C : Type 0} (setting : Setting C) (w v : World C) (messages : List (Message C)) (number : ℕ) (message : Message C) (said : Result (List (Message C)) WorldFault) (answer : World C × Answer) → Some message ≡ message_at messages number → told v said ≡ arrives setting w (Some message) → answer ≡ told v said → answer ≡ arrives setting w (message_at messages number)
arrived setting w v messages number message said answer at hears is = is ∙ hears ∙ ap (arrives setting w) at

-- messages that were sent
pub tells_ok : {C : Type 0} (servers : List ProcessState) (before said later : List (Message C)) (tags : UsedTags) (answer : Answer) → later ≡ before ++ said → answer ≡ Ok (moved (length before) (length said)) → (world servers later tags, answer) ≡ told (world servers before tags) (Ok said)
tells_ok servers before said later tags answer is numbered =
    ap (λ (l : List (Message _)). (world servers l tags, answer)) is
    ∙ ap (λ (a : Answer). (world servers (before ++ said) tags, a)) numbered
