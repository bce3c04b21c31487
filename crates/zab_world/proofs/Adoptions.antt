-- What a server answers to a NewLeader, and what it delivers for it.
use Rattle.std.proofs.Common.{◌≡◌, ◌≢◌, ℕ, zero, suc, ℤ, ◌+◌, ◌-◌, ◌<◌, ◌≤◌, ◌==◌, ◌&&◌, ◌⊎◌, inl, inr, min, Bool, true, false, cond, List, [], ◌∷◌, ◌++◌, length, take, set, slice_get, Option, Some, None, Result, Ok, Err, IfSome, OnOk, refl, sym, ap, subst, ◌∙◌, arith, length-append}
use Rattle.std.proofs.lemmas.List.{length-take, length-take-le, take_at}
use Rattle.std.specs.Result.{is_err}
use Rattle.zab_epoch.specs.declared.rule_fault.RuleFault.{RuleFault}
use Rattle.zab_epoch.specs.declared.history.Entry.{Entry}
use Rattle.zab_epoch.specs.declared.message.Body.{Body}
use Rattle.zab_epoch.specs.declared.message.Body.TheVariants.{NewLeader, AckLeader}
use Rattle.zab_epoch.specs.declared.message.Message.{Message}
use Rattle.zab_epoch.specs.declared.peer.Peer.{Peer}
use Rattle.zab_epoch.specs.Entries.{up_to}
use Rattle.zab_epoch.specs.Roles.{follows}
use Rattle.zab_epoch.specs.Rules as epoch_rules
use Rattle.zab_epoch.specs.Sending.{message}
use Rattle.zab_broadcast.specs.declared.state.State.{State}
use Rattle.zab_broadcast.specs.Calls.{Setting}
use Rattle.zab_broadcast.specs.Rules as rules
use Rattle.zab_model.specs.declared.event.Event.{Event}
use Rattle.zab_model.specs.declared.event.Event.TheVariants as events
use Rattle.zab_model.specs.declared.event.Moved.{Moved}
use Rattle.zab_model.specs.declared.fault.WorldFault.{WorldFault}
use Rattle.zab_model.specs.declared.fault.WorldFault.TheVariants as faults
use Rattle.zab_model.specs.declared.used_tags.UsedTags.{UsedTags}
use Rattle.zab_model.specs.Movers.{mover, addressee_of}
use Rattle.zab_model.specs.Running.{is_up, is_running}
use Rattle.zab_model.specs.Runs.{IsOfRun, delivered_list, delivered_of}
use Rattle.zab_model.specs.ProcessStates.{ProcessState, standing}
use Rattle.zab_model.specs.Worlds.{World, Profile, Answer, world, server_at, running, told, said, moved, with_server, acts, receives, message_at, arrives, happens}
use Rattle.zab_model.proofs.ServerLists.{found, same_place, up_is}
use Rattle.zab_world.specs.declared.adoption.Adoption.{Adoption}
use Rattle.zab_world.specs.Adoptions.{brings_new_leader, is_new_leader, tells_new_leader, acked_by, ack_of, Says, DeliversNoMore, IsPredicted, MayFall}
use Rattle.zab_world.proofs.Back.{by_test, no_more, runs_by}
use Rattle.zab_world.proofs.Living.{fell}

pub meant_length : (own : List Entry) (keep : ℤ) (rest : List Entry) → length (epoch_rules.meant own keep rest) ≡ length (up_to keep own) + length rest
meant_length own keep rest = length-append (up_to keep own) rest

-- ---- what is said

abbrev SaysAt : {C : Type 0} → Message C → epoch_rules.Acts C → Type 0
SaysAt ack acts = (acts.1 ≡ Ok []) ⊎ (acts.1 ≡ Ok (ack ∷ []))

takes_says : (C : Type 0) (peer : Peer) (from epoch : ℕ) (history : List Entry) (behind : Bool) → (cond behind (epoch_rules.joins {C = C} peer from epoch epoch history) (epoch_rules.joins peer from epoch peer.stable.current peer.stable.history)).1 ≡ Ok (message peer.me from (AckLeader epoch (cond behind (length history) (length peer.stable.history))) ∷ [])
takes_says C peer from epoch history true = refl
takes_says C peer from epoch history false = refl

peer_says : (C : Type 0) (peer : Peer) (from epoch : ℕ) (keep : ℤ) (rest : List Entry) → SaysAt {C = C} (message peer.me from (AckLeader epoch (acked_by peer.stable epoch keep rest))) (epoch_rules.new_leader peer from epoch keep rest)
peer_says C peer from epoch keep rest =
    let ack : Message C = message peer.me from (AckLeader epoch (acked_by peer.stable epoch keep rest)) in
    by_test (SaysAt {C = C} ack) (follows peer.role from && (epoch == peer.stable.promised)) _ _
    (by_test (SaysAt {C = C} ack) (epoch_rules.goes_on peer.stable.history keep rest) _ _
    (inr (takes_says C peer from epoch (epoch_rules.meant peer.stable.history keep rest) (epoch_rules.is_behind peer.stable epoch (length (epoch_rules.meant peer.stable.history keep rest)))))
    (inl refl))
    (inl refl)

state_says : (C : Type 0) (state : State) (from epoch : ℕ) (keep : ℤ) (rest : List Entry) → Says {C = C} (message state.peer.me from (AckLeader epoch (acked_by state.peer.stable epoch keep rest))) (rules.new_leader state from epoch keep rest)
state_says C state from epoch keep rest =
    by_test (Says {C = C} (message state.peer.me from (AckLeader epoch (acked_by state.peer.stable epoch keep rest)))) (follows state.peer.role from) _ _
    (peer_says C state.peer from epoch keep rest) (inl refl)

-- ---- what is delivered

no_longer : (had : ℕ) (own now : List Entry) → had ≤ length own → length (take (min had (length now)) now) ≤ length (take had own)
no_longer had own now within = omega (arith, length-take (min had (length now)) now, length-take-le had own within)

state_delivers : (C : Type 0) (state : State) (from epoch : ℕ) (keep : ℤ) (rest : List Entry) → state.delivered ≤ length state.peer.stable.history → DeliversNoMore {C = C} state (rules.new_leader state from epoch keep rest)
state_delivers C state from epoch keep rest within =
    by_test (DeliversNoMore {C = C} state) (follows state.peer.role from) _ _
    (no_longer state.delivered state.peer.stable.history (epoch_rules.new_leader {C = C} state.peer from epoch keep rest).0.stable.history within)
    (omega arith)

-- ---- a NewLeader that comes

same_one : (a b : ProcessState) → (let r : Result ProcessState WorldFault = Ok a in r ≡ Ok b) → a ≡ b
same_one a b e = cc

ack_is : {C : Type 0} (joining : Adoption) (sender addressee long : ℕ) → joining.sender ≡ sender → joining.addressee ≡ addressee → joining.length ≡ long → ack_of {C = C} joining ≡ message sender addressee (AckLeader joining.epoch long)
ack_is {C} joining sender addressee long from to count =
    ap (λ n. (let it : Message C = message n joining.addressee (AckLeader joining.epoch joining.length) in it)) from
    ∙ ap (λ n. (let it : Message C = message sender n (AckLeader joining.epoch joining.length) in it)) to
    ∙ ap (λ n. (let it : Message C = message sender addressee (AckLeader joining.epoch n) in it)) count

pub foreseen : {C : Type 0} (servers : List ProcessState) (messages : List (Message C)) (event : Event C) (joining : Adoption) (keep : ℤ) (rest : List Entry) (m : Message C) (it : ProcessState) → event ≡ events.Arrive joining.number → message_at messages joining.number ≡ Some m → m.body ≡ NewLeader joining.epoch keep rest → running servers m.addressee ≡ Ok it → joining.sender ≡ it.state.peer.me → joining.addressee ≡ m.sender → joining.length ≡ acked_by it.state.peer.stable joining.epoch keep rest → it.state.delivered ≤ length it.state.peer.stable.history → IsPredicted servers messages event joining
foreseen {C} servers messages event joining keep rest m it comes is body runs from to count within =
    let ack = ack_is {C = C} joining it.state.peer.me m.sender (acked_by it.state.peer.stable joining.epoch keep rest) from to count in
    record {
      message = m;
      arrives = comes;
      is = is;
      brings = ap (λ (b : Body C). is_new_leader b) body;
      says = λ setting other at.
          subst (λ (o : ProcessState). Says (ack_of joining) (receives setting m.sender m.body o.state)) (same_one it other (sym runs ∙ at))
          (subst (λ (b : Body C). Says (ack_of joining) (receives setting m.sender b it.state)) (sym body)
          (subst (λ (a : Message C). Says a (rules.new_leader it.state m.sender joining.epoch keep rest)) (sym ack)
          (state_says C it.state m.sender joining.epoch keep rest)));
      delivers = λ setting other at.
          subst (λ (o : ProcessState). DeliversNoMore o.state (receives setting m.sender m.body o.state)) (same_one it other (sym runs ∙ at))
          (subst (λ (b : Body C). DeliversNoMore it.state (receives setting m.sender b it.state)) (sym body) (state_delivers C it.state m.sender joining.epoch keep rest within));
    }

pub ran_is : (r : Result (Unit {0}) WorldFault) (P : Type 0) → OnOk r P → is_err r ≡ false → P
ran_is (Ok one) P on e = on
ran_is (Err fault) P on e = absurd cc

-- ---- what is sent first

get_front : {A : Type 0} (xs ys : List A) (i : ℕ) (x : A) → slice_get xs i ≡ Some x → slice_get (xs ++ ys) i ≡ Some x
get_front [] ys i x e = absurd cc
get_front (z ∷ xs) ys zero x e = e
get_front (z ∷ xs) ys (suc i) x e = get_front xs ys i x e

by_zero : {A : Type 0} (b : Bool) (x y : Option A) (m : A) → (x ≡ Some m → y ≡ Some m) → cond b None x ≡ Some m → cond b None y ≡ Some m
by_zero true x y m on e = absurd cc
by_zero false x y m on e = on e

-- the messages before are numbered as before
pub still_there : {C : Type 0} (messages more : List (Message C)) (number : ℕ) (m : Message C) → message_at messages number ≡ Some m → message_at (messages ++ more) number ≡ Some m
still_there messages more number m e =
    by_zero (number == 0) (slice_get messages (number - 1)) (slice_get (messages ++ more) (number - 1)) m (get_front messages more (number - 1) m) e

pub taken_back : {A : Type 0} (xs ys : List A) → take (length xs) (xs ++ ys) ≡ xs
taken_back xs ys = take_at xs ys (length xs) refl

-- what a server does that says this
abbrev Done : {C : Type 0} → Setting C → World C → Message C → ProcessState → List (Message C) → World C × Answer
Done setting w m it words =
    told (world (set w.servers (m.addressee - 1) (standing it.up (receives setting m.sender m.body it.state).0)) w.messages w.tags) (Ok words)

done : {C : Type 0} (setting : Setting C) (w : World C) (m : Message C) (it : ProcessState) (words : List (Message C)) → running w.servers m.addressee ≡ Ok it → (receives setting m.sender m.body it.state).1 ≡ Ok words → arrives setting w (Some m) ≡ Done setting w m it words
done {C} setting w m it words runs is =
    ap (acts w m.addressee (receives setting m.sender m.body)) runs
    ∙ ap (λ r. told (world (set w.servers (m.addressee - 1) (standing it.up (receives setting m.sender m.body it.state).0)) w.messages w.tags) (said r)) is

-- the words that are handed out are those that it says
words_are : {C : Type 0} (setting : Setting C) (servers now : List ProcessState) (tags : UsedTags) (m : Message C) (it : ProcessState) (words given : List (Message C)) → running servers m.addressee ≡ Ok it → (receives setting m.sender m.body it.state).1 ≡ Ok words → told (world now [] tags) (Ok given) ≡ arrives setting (world servers [] tags) (Some m) → given ≡ words
words_are {C} setting servers now tags m it words given runs is acted =
    ap (λ (p : World C × Answer). p.0.messages) (acted ∙ done setting (world servers [] tags) m it words runs is)

some_words : {A : Type 0} (xs : List A) → xs ≡ [] → 0 < length xs → ⊥
some_words xs none some = omega (arith, ap length none, some)

no_words : {A : Type 0} (xs : List A) → length xs ≤ 0 → xs ≡ []
no_words [] e = refl
no_words (x ∷ xs) e = absurd (omega (arith, e))

abbrev Acted : {C : Type 0} → Setting C → List ProcessState → List ProcessState → Message C → List (Message C) → Type 0
Acted {C} setting servers now m given =
    (before : List (Message C)) (tags : UsedTags) → told (world now before tags) (Ok given) ≡ arrives setting (world servers before tags) (Some m)

pub says_it : {C : Type 0} (setting : Setting C) (servers now : List ProcessState) (before : List (Message C)) (tags : UsedTags) (m : Message C) (it : ProcessState) (ack : Message C) (given : List (Message C)) → running servers m.addressee ≡ Ok it → Says ack (receives setting m.sender m.body it.state) → 0 < length given → Acted setting servers now m given → (world now (before ++ ack ∷ []) tags, Ok (moved (length before) 1)) ≡ arrives setting (world servers before tags) (Some m)
says_it {C} setting servers now before tags m it ack given runs says some acted = elim says [
  | inl none ↦ absurd (some_words given (words_are setting servers now tags m it [] given runs none (acted [] tags)) some)
  | inr one ↦
      let is : given ≡ ack ∷ [] = words_are setting servers now tags m it (ack ∷ []) given runs one (acted [] tags) in
      subst (λ (l : List (Message C)). told (world now before tags) (Ok l) ≡ arrives setting (world servers before tags) (Some m)) is (acted before tags)
]

pub says_nothing : {C : Type 0} (setting : Setting C) (servers now : List ProcessState) (before : List (Message C)) (tags : UsedTags) (m : Message C) (given : List (Message C)) → length given ≤ 0 → Acted setting servers now m given → (world now before tags, Ok (moved (length before) 0)) ≡ arrives setting (world servers before tags) (Some m)
says_nothing {C} setting servers now before tags m given none acted =
    let one : Answer = Ok (moved (length before) 0) in
    ap (λ (l : List (Message C)). (world now l tags, one)) (sym (no_more before))
    ∙ subst (λ (l : List (Message C)). told (world now before tags) (Ok l) ≡ arrives setting (world servers before tags) (Some m)) (no_words given none) (acted before tags)

-- ---- what came of an arrival whose answer was sent before

-- what the code knows of it
pub record IsHeard {C : Type 0} (setting : Setting C) (servers now : List ProcessState) (sent : List (Message C)) (number : ℕ) (answer : Result (List (Message C)) WorldFault) : Type 0 where
  pub acts : (before : List (Message C)) (tags : UsedTags) → answer ≢ Err faults.NoMemory → told (world now before tags) answer ≡ arrives setting (world servers before tags) (message_at sent number)
  pub ran : OnOk answer (is_up (server_at servers (addressee_of (message_at sent number))) ≡ true)

there_still : {C : Type 0} (servers : List ProcessState) (before sent : List (Message C)) (joining : Adoption) (f : IsPredicted servers before (events.Arrive joining.number) joining) → sent ≡ before ++ ack_of joining ∷ [] → message_at sent joining.number ≡ Some f.message
there_still servers before sent joining f is =
    ap (λ l. message_at l joining.number) is ∙ still_there before (ack_of joining ∷ []) joining.number f.message f.is

acted_as : {C : Type 0} (setting : Setting C) (servers now : List ProcessState) (before sent : List (Message C)) (joining : Adoption) (given : List (Message C)) (f : IsPredicted servers before (events.Arrive joining.number) joining) → sent ≡ before ++ ack_of joining ∷ [] → IsHeard setting servers now sent joining.number (Ok given) → Acted setting servers now f.message given
acted_as {C} setting servers now before sent joining given f is h =
    λ b t. h.acts b t (λ e. absurd cc) ∙ ap (λ (o : Option (Message C)). arrives setting (world servers b t) o) (there_still servers before sent joining f is)

heard_at : {C : Type 0} (setting : Setting C) (servers now : List ProcessState) (sent : List (Message C)) (number : ℕ) (one other : Result (List (Message C)) WorldFault) → one ≡ other → IsHeard setting servers now sent number one → IsHeard setting servers now sent number other
heard_at setting servers now sent number one other is h =
    subst (λ (r : Result (List (Message _)) WorldFault). IsHeard setting servers now sent number r) is h

-- what was sent before is taken back
left_is : {C : Type 0} (before sent left : List (Message C)) (ack : Message C) (count : ℕ) → count ≡ length before → sent ≡ before ++ ack ∷ [] → left ≡ take count sent → left ≡ before
left_is before sent left ack count all is cut =
    cut ∙ ap (λ n. take n sent) all ∙ ap (take (length before)) is ∙ taken_back before (ack ∷ [])

pub joined_said : {C : Type 0} (setting : Setting C) (servers now : List ProcessState) (before sent : List (Message C)) (joining : Adoption) (count : ℕ) (answer : Result (List (Message C)) WorldFault) (given : List (Message C)) (tags : UsedTags) → IsPredicted servers before (events.Arrive joining.number) joining → count ≡ length before → sent ≡ before ++ ack_of joining ∷ [] → IsHeard setting servers now sent joining.number answer → answer ≡ Ok given → length given ≢ 0 → (world now sent tags, Ok (moved count 1)) ≡ arrives setting (world servers before tags) (message_at before joining.number)
joined_said {C} setting servers now before sent joining count answer given tags f all is heard told some =
    let h = heard_at setting servers now sent joining.number answer (Ok given) told heard in
    let up : is_up (server_at servers f.message.addressee) ≡ true = sym (ap (λ (o : Option (Message C)). is_up (server_at servers (addressee_of o))) (there_still servers before sent joining f is)) ∙ h.ran in
    let r = runs_by (server_at servers f.message.addressee) up in
    let one : Answer = Ok (moved (length before) 1) in
    ap (λ n. (let o : Answer = Ok (moved n 1) in (world now sent tags, o))) all
    ∙ ap (λ (l : List (Message C)). (world now l tags, one)) is
    ∙ says_it setting servers now before tags f.message r.0 (ack_of joining) given r.1 (f.says setting r.0 r.1) (omega (arith, some)) (acted_as setting servers now before sent joining given f is h)
    ∙ sym (ap (λ (o : Option (Message C)). arrives setting (world servers before tags) o) f.is)

pub joined_silent : {C : Type 0} (setting : Setting C) (servers now : List ProcessState) (before sent left : List (Message C)) (joining : Adoption) (count : ℕ) (answer : Result (List (Message C)) WorldFault) (given : List (Message C)) (tags : UsedTags) → IsPredicted servers before (events.Arrive joining.number) joining → count ≡ length before → sent ≡ before ++ ack_of joining ∷ [] → IsHeard setting servers now sent joining.number answer → answer ≡ Ok given → length given ≡ 0 → left ≡ take count sent → (world now left tags, Ok (moved count 0)) ≡ arrives setting (world servers before tags) (message_at before joining.number)
joined_silent {C} setting servers now before sent left joining count answer given tags f all is heard told none cut =
    let h = heard_at setting servers now sent joining.number answer (Ok given) told heard in
    let one : Answer = Ok (moved count 0) in
    ap (λ (l : List (Message C)). (world now l tags, one)) (left_is before sent left (ack_of joining) count all is cut)
    ∙ says_nothing setting servers now before tags f.message given (omega (arith, none)) (acted_as setting servers now before sent joining given f is h)
    ∙ sym (ap (λ (o : Option (Message C)). arrives setting (world servers before tags) o) f.is)

pub joined_refused : {C : Type 0} (setting : Setting C) (servers now : List ProcessState) (before sent left : List (Message C)) (joining : Adoption) (count : ℕ) (answer : Result (List (Message C)) WorldFault) (fault : WorldFault) (tags : UsedTags) → IsPredicted servers before (events.Arrive joining.number) joining → count ≡ length before → sent ≡ before ++ ack_of joining ∷ [] → IsHeard setting servers now sent joining.number answer → answer ≡ Err fault → (let r : Answer = Err fault in r ≢ Err faults.NoMemory) → left ≡ take count sent → (let r : Answer = Err fault in (world now left tags, r) ≡ arrives setting (world servers before tags) (message_at before joining.number))
joined_refused {C} setting servers now before sent left joining count answer fault tags f all is heard told kept cut =
    let h = heard_at setting servers now sent joining.number answer (Err fault) told heard in
    let refused : Answer = Err fault in
    ap (λ (l : List (Message C)). (world now l tags, refused)) (left_is before sent left (ack_of joining) count all is cut)
    ∙ h.acts before tags (λ e. kept (same_fault fault e))
    ∙ ap (λ (o : Option (Message C)). arrives setting (world servers before tags) o) (there_still servers before sent joining f is ∙ sym f.is)
  where
    same_fault : (fault : WorldFault) → (let r : Result (List (Message C)) WorldFault = Err fault in r ≡ Err faults.NoMemory) → (let r : Answer = Err fault in r ≡ Err faults.NoMemory)
    same_fault fault e = cc

-- ---- what is delivered then

pub delivers_less : {C : Type 0} (setting : Setting C) (w : World C) (m : Message C) (it : ProcessState) → running w.servers m.addressee ≡ Ok it → DeliversNoMore it.state (receives setting m.sender m.body it.state) → length (delivered_of (arrives setting w (Some m)).0 m.addressee) ≤ length (delivered_of w m.addressee)
delivers_less {C} setting w m it runs less =
    let there = up_is (server_at w.servers m.addressee) it runs in
    let now : ProcessState = standing it.up (receives setting m.sender m.body it.state).0 in
    let servers : (arrives setting w (Some m)).0.servers ≡ set w.servers (m.addressee - 1) now =
    ap (λ r. (acts w m.addressee (receives setting m.sender m.body) r).0.servers) runs ∙ set_by (receives setting m.sender m.body it.state).1 in
    let after : delivered_of (arrives setting w (Some m)).0 m.addressee ≡ delivered_list (Some now) =
    ap (λ l. delivered_list (server_at l m.addressee)) servers ∙ ap delivered_list (same_place w.servers m.addressee it now (found w.servers m.addressee it there)) in
    let before : delivered_of w m.addressee ≡ delivered_list (Some it) = ap delivered_list there in
    subst (λ n. n ≤ length (delivered_of w m.addressee)) (sym (ap length after))
    (subst (λ n. length (delivered_list (Some now)) ≤ n) (sym (ap length before)) less)
  where
    set_by : (r : Result (List (Message C)) RuleFault) → (told (with_server w m.addressee (standing it.up (receives setting m.sender m.body it.state).0)) (said r)).0.servers ≡ set w.servers (m.addressee - 1) (standing it.up (receives setting m.sender m.body it.state).0)
    set_by (Ok messages) = refl
    set_by (Err fault) = refl

-- ---- and nothing leads back

-- its server delivers no more
joined_delivers : {C : Type 0} (profile : Profile C) (w next : World C) (event : Event C) (joining : Adoption) (moved : Moved) → IsPredicted w.servers w.messages event joining → is_running w (mover w event) ≡ true → (next, Ok moved) ≡ arrives profile.setting w (message_at w.messages joining.number) → length (delivered_of next (mover w event)) ≤ length (delivered_of w (mover w event))
joined_delivers {C} profile w next event joining moved f ran acted =
    let at : mover w event ≡ f.message.addressee = ap (λ (e : Event C). mover w e) f.arrives ∙ ap (λ (o : Option (Message C)). addressee_of o) f.is in
    let r = runs_by (server_at w.servers f.message.addressee) (ap (λ n. is_running w n) (sym at) ∙ ran) in
    let less = delivers_less profile.setting w f.message r.0 r.1 (f.delivers profile.setting r.0 r.1) in
    let here : next ≡ (arrives profile.setting w (Some f.message)).0 = ap (λ (p : World C × Answer). p.0) (acted ∙ ap (λ (o : Option (Message C)). arrives profile.setting w o) f.is) in
    subst (λ n. length (delivered_of next n) ≤ length (delivered_of w n)) (sym at)
    (subst (λ (v : World C). length (delivered_of v f.message.addressee) ≤ length (delivered_of w f.message.addressee)) (sym here) less)

pub joined_falls : {C : Type 0} (profile : Profile C) (w next : World C) (event : Event C) (joining : Adoption) (moved : Moved) → IsPredicted w.servers w.messages event joining → is_running w (mover w event) ≡ true → (next, Ok moved) ≡ arrives profile.setting w (message_at w.messages joining.number) → MayFall profile w event next None
joined_falls {C} profile w next event joining moved f ran acted =
    inr (
      ap (λ (e : Event C). brings_new_leader w e) f.arrives ∙ (ap (λ (o : Option (Message C)). tells_new_leader o) f.is ∙ f.brings),
      (refl, joined_delivers profile w next event joining moved f ran acted),
    )

-- a step leads back that brings no NewLeader
pub steps_fall : {C : Type 0} (profile : Profile C) (w next : World C) (event : Event C) (fallen : Option (World C)) → ((it : ProcessState) → running w.servers (mover w event) ≡ Ok it → brings_new_leader w event ≡ false) → (is_running w (mover w event) ≡ true → fallen ≡ Some (happens profile w (events.Crash (mover w event))).0) → is_running w (mover w event) ≡ true → MayFall profile w event next fallen
steps_fall profile w next event fallen other falls ran =
    let r = runs_by (server_at w.servers (mover w event)) ran in
    inl (other r.0 r.1, falls ran)

-- ---- a world that has no way back

pub fell_or_not : {C : Type 0} (profile : Profile C) (servers : ℕ) (w next : World C) (event : Event C) (ran : Bool) (fallen : Option (World C)) → (ran ≡ true → MayFall profile w event next fallen) → (ran ≡ false → fallen ≡ None) → IsOfRun profile servers w → IfSome fallen (IsOfRun profile servers)
fell_or_not {C} profile servers w next event true fallen falls rests r = elim (falls refl) [
  | inl is ↦ fell profile servers w (events.Crash (mover w event)) true fallen (λ _. is.1) (λ e. absurd cc) r
  | inr none ↦ subst (λ (o : Option (World C)). IfSome o (IsOfRun profile servers)) (sym none.1.0) tt
]
fell_or_not {C} profile servers w next event false fallen falls rests r =
    subst (λ (o : Option (World C)). IfSome o (IsOfRun profile servers)) (sym (rests refl)) tt
