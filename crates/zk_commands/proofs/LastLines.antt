-- The output for a line does not depend on the line that is kept for the next one.
use Rattle.std.proofs.Common.{ℕ, List, ◌⊎◌, Option, None, Some, String, inl, inr}
use Rattle.std.specs.Global.{Global}
use Rattle.zk_debug.specs.declared.command.Command.{Command}
use Rattle.zk_commands.specs.Answering.{AnswersCommand, AnswersOther, AnswersOwn, Obeys}
use Rattle.zk_commands.specs.declared.repl_command.ReplCommand.{ReplCommand}
use Rattle.zk_commands.specs.declared.repl_command.ReplCommand.TheVariants as owns
use Rattle.zk_commands.specs.declared.session.Session.{Session}
use Rattle.zk_commands.specs.declared.session.Turn.{Turn}
use Rattle.zk_commands.specs.Words.{own_from}

module _ (old : Session) (line answer : List ℕ) (new : Session) (last : String Global) where
  abbrev kept : Session
  kept = record new { last = last }

  obeys_kept : (command : Command) → Obeys old command answer new → Obeys old command answer kept
  obeys_kept command h = record { text = h.text; answers = h.answers; told = h.told; began = h.began }

  own_kept : (own : Option ReplCommand) → AnswersOwn old line own answer new → AnswersOwn old line own answer kept
  own_kept None h = h
  own_kept (Some owns.Help) h = h
  own_kept (Some (owns.Around count)) h = h
  own_kept (Some owns.Diff) h = h
  own_kept (Some owns.DiffLast) h = h
  own_kept (Some (owns.Subtree path)) h = h
  own_kept (Some owns.Breakpoints) h = h
  own_kept (Some (owns.Do command)) h = obeys_kept command h
  own_kept (Some owns.Quit) h = h

  pub answers_kept : (turn : Turn) → AnswersCommand old line answer turn new ⊎ AnswersOther old line answer turn new → AnswersCommand old line answer turn kept ⊎ AnswersOther old line answer turn kept
  answers_kept turn (inl h) = inl (record { command = h.command; says = h.says; obeys = obeys_kept h.command h.obeys; goes_on = h.goes_on })
  answers_kept turn (inr h) = inr (record { nothing = h.nothing; own = own_kept (own_from line) h.own; goes = h.goes })
