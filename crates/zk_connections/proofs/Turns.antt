-- Each frame that is taken of a connection takes work of its turn.
use Rattle.std.proofs.Common.{◌≡◌, ◌∙◌, ℕ, ◌+◌, ◌-◌, ◌≤◌, Bool, true, false, List, [], ◌∷◌, length, take, drop, Option, Some, None, Result, Ok, Err, if◌then◌else◌, refl, sym, ap, subst, arith}
use Rattle.std.specs.Prelude.{◌||◌, nat_eq, nat_le}
use Rattle.std.proofs.lemmas.Bool.{cond_both}
use Rattle.std.proofs.lemmas.List.{length-take}
use Rattle.zk_client_session.specs.Links.{action_of}
use Rattle.zk_client_session.specs.Parts.{left_by, left_by_ask, split}
use Rattle.zk_client_session.specs.declared.ask.Action.{Action}
use Rattle.zk_client_session.specs.declared.ask.Action.TheVariants.{Replies, Asks, Closes}
use Rattle.zk_client_session.specs.declared.ask.Ask.{Ask}
use Rattle.zk_client_session.specs.declared.ask.Ask.TheVariants.{Write, Read, Sync, SetWatches, RemoveWatches, Ephemerals, CountDescendants}
use Rattle.zk_client_session.specs.declared.expected_reply.ExpectedReply.{ExpectedReply}
use Rattle.zk_client_session.specs.declared.expected_reply.ReplyKind.TheVariants as kinds
use Rattle.zk_client_session.specs.declared.link.Link.{Link}
use Rattle.zk_connections.specs.Inputs.{acts, connects, frame_in, rests, taken_action, taken_frame, taken_in, taken_next, taken_of, taken_opening, taken_word, worked}
use Rattle.zk_connections.specs.ConnectionLaws.{TakesInTurn, frames_in, watches_by, watches_in}
use Rattle.zk_connections.specs.declared.connection.Connection.{Connection}
use Rattle.zk_connections.specs.declared.connection.Phase.{Phase}
use Rattle.zk_connections.specs.declared.connection.Phase.TheVariants.{New, Connecting, Connected}
use Rattle.zk_connections.specs.declared.input.Taken.{Taken}
use Rattle.zk_connections.specs.declared.input.Taken.TheVariants as taken
use Rattle.zk_connections.specs.declared.word.Word.{Word}
use Rattle.zk_frames.specs.declared.fault.FrameFault.{FrameFault}
use Rattle.zk_frames.specs.declared.records.ConnectRequest.{ConnectRequest}
use Rattle.zk_jute.specs.declared.fault.JuteFault.{JuteFault}

-- ---- an action

-- what is left of the work, with a unit for the action, and one for each of its watches
record Fits (action : Action) (work left : ℕ) : Type 0 where
  pub unit : left + 1 ≤ work
  pub watches : left + watches_by action ≤ work

ask_fits : (ask : Ask) (expected : ExpectedReply) (work : ℕ) → 1 ≤ work → watches_by (Asks ask expected) ≤ work → Fits (Asks ask expected) work (left_by_ask ask work)
ask_fits (SetWatches session zxid auths watches) expected work some few = record { unit = omega arith; watches = omega arith }
ask_fits (Ephemerals session prefix) expected work some few = record { unit = some; watches = omega arith }
ask_fits (CountDescendants session seen auths path) expected work some few = record { unit = some; watches = omega arith }
ask_fits (Write session cxid auths request) expected work some few = record { unit = omega arith; watches = omega arith }
ask_fits (Read session seen auths call watch) expected work some few = record { unit = omega arith; watches = omega arith }
ask_fits (Sync session) expected work some few = record { unit = omega arith; watches = omega arith }
ask_fits (RemoveWatches path kind) expected work some few = record { unit = omega arith; watches = omega arith }

fits : (action : Action) (work : ℕ) → 1 ≤ work → watches_by action ≤ work → Fits action work (left_by action work)
fits (Asks ask expected) work some few = ask_fits ask expected work some few
fits (Replies immediate) work some few = record { unit = omega arith; watches = omega arith }
fits Closes work some few = record { unit = omega arith; watches = omega arith }

-- ---- what is taken

-- an action takes its work, and nothing else takes any
abbrev Spends : ℕ → Connection × Option Taken → Type 0
Spends work (new, None) = Unit {0}
Spends work (new, Some (taken.Acts action)) = Fits action work new.work
Spends work (new, Some other) = new.work ≡ work

works : (action : Action) (left : Option Action) (n : ℕ) (it : Connection) → 1 ≤ it.work → watches_by action ≤ it.work → Spends it.work (worked (action, left) n it)
works action None n it some few = fits action it.work some few
works action (Some rest) n it some few = fits action it.work some few

-- a part has no more watches than there is work
few : (most : ℕ) (action : Action) → watches_by (split most action).0 ≤ most
few most (Asks (SetWatches session zxid auths watches) expected) =
    cond_both {A = Action × Option Action} (nat_le (length watches) most)
    (Asks (SetWatches session zxid auths watches) expected, None)
    (Asks (SetWatches session zxid auths (take most watches)) (record expected { kind = kinds.WatchesBegun }), Some (Asks (SetWatches session zxid auths (drop most watches)) expected))
    (λ parts. watches_by parts.0 ≤ most) (λ fit. grind (arith, fit)) (λ _. grind (arith, length-take most watches))
few most (Asks (Write session cxid auths request) expected) = omega arith
few most (Asks (Read session seen auths call watch) expected) = omega arith
few most (Asks (Sync session) expected) = omega arith
few most (Asks (RemoveWatches path kind) expected) = omega arith
few most (Asks (Ephemerals session prefix) expected) = omega arith
few most (Asks (CountDescendants session seen auths path) expected) = omega arith
few most (Replies immediate) = omega arith
few most Closes = omega arith

acts_spend : (link : Link) (action : Action) (n : ℕ) (it : Connection) → 1 ≤ it.work → Spends it.work (acts (link, action) n it)
acts_spend link action n it some =
    works (split it.work action).0 (split it.work action).1 n (record it { phase = Connected link }) some (few it.work action)

connects_spend : (request : Result ConnectRequest JuteFault) (n : ℕ) (it : Connection) → Spends it.work (connects request n it)
connects_spend (Ok request) n it = refl
connects_spend (Err fault) n it = refl

opens_spend : (frame : Result (Option ℕ) FrameFault) (it : Connection) → Spends it.work (taken_opening frame it)
opens_spend (Ok (Some n)) it = connects_spend _ n it
opens_spend (Ok None) it = tt
opens_spend (Err fault) it = refl

word_spends : (word : Option Word) (it : Connection) → Spends it.work (taken_word word it)
word_spends (Some word) it = refl
word_spends None it = opens_spend _ it

action_spends : (phase : Phase) (n : ℕ) (it : Connection) → 1 ≤ it.work → Spends it.work (taken_action phase n it)
action_spends New n it some = tt
action_spends Connecting n it some = tt
action_spends (Connected link) n it some = acts_spend (action_of link (frame_in n it.input)).0 (action_of link (frame_in n it.input)).1 n it some

frame_spends : (left : Option Action) (n : ℕ) (it : Connection) → 1 ≤ it.work → Spends it.work (taken_frame left n it)
frame_spends None n it some = action_spends it.phase n it some
frame_spends (Some action) n it some = works (split it.work action).0 (split it.work action).1 n it some (few it.work action)

next_spends : (frame : Result (Option ℕ) FrameFault) (it : Connection) → 1 ≤ it.work → Spends it.work (taken_next frame it)
next_spends (Ok (Some n)) it some = frame_spends it.left n it some
next_spends (Ok None) it some = tt
next_spends (Err fault) it some = refl

phase_spends : (phase : Phase) (it : Connection) → 1 ≤ it.work → Spends it.work (taken_in phase it)
phase_spends New it some = word_spends _ it
phase_spends Connecting it some = tt
phase_spends (Connected link) it some = next_spends _ it some

work_left : (ends : Bool) (work : ℕ) → (ends || nat_eq work 0) ≡ false → 1 ≤ work
work_left ends work goes = grind (arith, goes)

takes_work : (it : Connection) → Spends it.work (taken_of it)
takes_work it =
    cond_both (rests it) (it, None) (taken_in it.phase it) (Spends it.work) (λ _. tt)
    (λ goes. phase_spends it.phase it (work_left it.ends it.work goes))

-- ---- a turn

pub bounded : (frames : List Taken) (work : ℕ) → TakesInTurn frames work → (frames_in frames ≤ work) × (watches_in frames ≤ work)
bounded [] work takes = (omega arith, omega arith)
bounded (one ∷ rest) work takes = after one (subst (λ (n : ℕ). Spends n (takes.1, Some one)) takes.2 (subst (Spends takes.0.work) takes.3 (takes_work takes.0))) (bounded rest takes.1.work takes.4)
  where
    after : (one : Taken) → Spends work (takes.1, Some one) → (frames_in rest ≤ takes.1.work) × (watches_in rest ≤ takes.1.work) → (frames_in (one ∷ rest) ≤ work) × (watches_in (one ∷ rest) ≤ work)
    after (taken.Acts action) spends later = (omega (arith, spends.unit, later.0), omega (arith, spends.watches, later.1))
    after (taken.Word word) spends later = (subst (λ (n : ℕ). frames_in rest ≤ n) spends later.0, subst (λ (n : ℕ). watches_in rest ≤ n) spends later.1)
    after (taken.Connects request) spends later = (subst (λ (n : ℕ). frames_in rest ≤ n) spends later.0, subst (λ (n : ℕ). watches_in rest ≤ n) spends later.1)
    after taken.Breaks spends later = (subst (λ (n : ℕ). frames_in rest ≤ n) spends later.0, subst (λ (n : ℕ). watches_in rest ≤ n) spends later.1)
