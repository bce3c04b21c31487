-- The outcome of a call or a sync at a server, and a session's new events there. Own; events are
-- those of the ZooKeeper Programmer's Guide, "ZooKeeper Watches".
use Rattle.std.specs.Prelude.{◌≡◌, ℕ, ℤ, ◌==◌, Bool, List, length, reverse, drop, map, Option, option_map}
use Rattle.std.specs.Int.{w64, cast_unsigned}
use Rattle.std.specs.List.{filter, find}
use Rattle.zab_broadcast.specs.declared.syncs.Caught.{Caught}
use Rattle.zk_machine.specs.declared.change.Change.{Change}
use Rattle.zk_model.specs.declared.answer.Answered.{Answered}
use Rattle.zk_watch.specs.declared.watch.Fired.{Fired}
use Rattle.zk_ensemble.specs.declared.outcome.Mark.{Mark}
use Rattle.zk_ensemble.specs.declared.outcome.Outcome.{Outcome}

-- the result of the call with this tag; in every run a tag occurs once
abbrev pub answered_with : ℕ → List Answered → Option Answered
answered_with tag answers = find (λ it. it.tag == tag) (reverse answers)

-- the number of entries that the sync with this tag waited for
abbrev pub caught_with : ℕ → List Caught → Option ℕ
caught_with tag syncs = option_map (λ it. it.length) (find (λ it. it.tag == tag) (reverse syncs))

abbrev pub is_for : ℤ → Fired → Bool
is_for session fired = fired.session == cast_unsigned w64 session

abbrev pub change_in : Fired → Change
change_in fired = record { path = fired.path; kind = fired.kind }

-- a session's events after the first `n` of all, in order
abbrev pub news_of : ℤ → ℕ → List Fired → List Change
news_of session from events = map change_in (filter (is_for session) (drop from events))

abbrev pub mark : ℕ → ℕ → ℕ → Mark
mark answers syncs events = record { answers = answers; syncs = syncs; events = events }

-- the outcome of the call or sync with this tag, and the session's events, among all that is after
-- the mark
pub record IsOutcome (answers : List Answered) (syncs : List Caught) (all : List Fired) (tag : ℕ) (session : ℤ) (from : Mark) (it : Outcome) : Type 0 where
  pub answered : it.answered ≡ answered_with tag (drop from.answers answers)
  pub caught : it.caught ≡ caught_with tag (drop from.syncs syncs)
  pub events : it.events.items ≡ news_of session from.events all
  pub mark : it.mark ≡ mark (length answers) (length syncs) (length all)
