-- What the guide says about watches, of every list of watches: ZooKeeper Programmer's Guide,
-- "ZooKeeper Watches".
use Rattle.std.specs.Prelude.{◌≡◌, ℕ, Bool, true, false, not, ◌==◌, List, [], ◌∷◌, map, filter}
use Rattle.std.specs.List.{AllByRecursion, list_any, flat_map}
use Rattle.std.specs.List.Sorted.{IsStrictlySortedBy}
use Rattle.std.specs.declared.cmp.Ordering.{Ordering}
use Rattle.std.specs.Ordering.{nat_cmp, ordering_then}
use Rattle.zk_machine.specs.declared.change.Change.{Change}
use Rattle.zk_machine.specs.Changes.{changes_of}
use Rattle.zk_machine.specs.ChangeLaws.{changes_by_instruction}
use Rattle.zk_table.specs.declared.txn.Txn.{Txn}
use Rattle.zk_table.specs.States.{State, path_cmp}
use Rattle.zk_watch.specs.declared.watch.Fired.{Fired}
use Rattle.zk_watch.specs.declared.watch.Watch.{Watch}
use Rattle.zk_watch.specs.declared.watch.WatchKind.{WatchKind}
use Rattle.zk_watch.specs.Watching.{IsWatchList, hears, told_by, after_change, fired_by, left_after, with_watch, without_session}

abbrev pub is_told : ℕ → List Fired → Bool
is_told session events = list_any (λ e. e.session == session) events

-- a watch fires once: after a change no session waits for another like it
abbrev pub WatchesAreToldOnce : Type 0
WatchesAreToldOnce = (change : Change) (ws : List Watch) → told_by change (after_change change ws) ≡ []

-- a session that has set a watch gets the next change that fires such a watch
abbrev pub SetWatchesAreTold : Type 0
SetWatchesAreTold = (session : ℕ) (kind : WatchKind) (change : Change) (ws : List Watch) → hears kind change.kind ≡ true → is_told session (told_by change (with_watch session kind change.path ws)) ≡ true

-- and every other session gets the events that it would have had
abbrev pub OthersStay : Type 0
OthersStay = (session other : ℕ) (kind : WatchKind) (path : List ℕ) (change : Change) (ws : List Watch) → (session == other) ≡ false → is_told other (told_by change (with_watch session kind path ws)) ≡ is_told other (told_by change ws)

abbrev pub TwiceIsOnce : Type 0
TwiceIsOnce = (session : ℕ) (kind : WatchKind) (path : List ℕ) (ws : List Watch) → with_watch session kind path (with_watch session kind path ws) ≡ with_watch session kind path ws

-- once a session is dropped, a change fires only the others' watches
abbrev pub DroppedAreToldNothing : Type 0
DroppedAreToldNothing = (session : ℕ) (change : Change) (ws : List Watch) → told_by change (without_session session ws) ≡ filter (λ e. not (e.session == session)) (told_by change ws)

-- and no later change fires one of its watches, either
abbrev pub DroppedStayUntold : Type 0
DroppedStayUntold = (session : ℕ) (changes : List Change) (ws : List Watch) → is_told session (fired_by changes (without_session session ws)) ≡ false

-- by path, then by session
abbrev pub event_cmp : Fired → Fired → Ordering
event_cmp a b = ordering_then (path_cmp a.path b.path) (nat_cmp a.session b.session)

-- changes in the order of their paths, one at each, give events that rise by path and session
abbrev pub EventsRise : Type 0
EventsRise = (changes : List Change) (ws : List Watch) → IsWatchList ws → IsStrictlySortedBy path_cmp (map (λ c. c.path) changes) → IsStrictlySortedBy event_cmp (fired_by changes ws)

-- ---- every transaction, in every state

-- the events of instructions in turn, a list for each
abbrev pub events_in_turn : List (List Change) → List Watch → List (List Fired)
events_in_turn [] ws = []
events_in_turn (changes ∷ later) ws = fired_by changes ws ∷ events_in_turn later (left_after changes ws)

abbrev pub events_by_instruction : State → Txn → List Watch → List (List Fired)
events_by_instruction state txn ws = events_in_turn (changes_by_instruction state txn) ws

-- the events of a transaction are those of its first instruction, then those of the next
abbrev pub EventsComeByInstruction : Type 0
EventsComeByInstruction = (state : State) (txn : Txn) (ws : List Watch) → fired_by (changes_of state txn) ws ≡ flat_map (λ events. events) (events_by_instruction state txn ws)

-- those of an instruction rise by path and session, so they are one for each path and session
abbrev pub EventsOfInstructionsRise : Type 0
EventsOfInstructionsRise = (state : State) (txn : Txn) (ws : List Watch) → IsWatchList ws → AllByRecursion (IsStrictlySortedBy event_cmp) (events_by_instruction state txn ws)
