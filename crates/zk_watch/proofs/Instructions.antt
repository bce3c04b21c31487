-- The events of a transaction, instruction by instruction.
use Rattle.std.proofs.Common.{◌≡◌, List, [], ◌∷◌, ◌++◌, refl, sym, ap, ◌∙◌}
use Rattle.std.proofs.lemmas.List.{append_assoc}
use Rattle.std.specs.List.{AllByRecursion, flat_map}
use Rattle.std.specs.List.Sorted.{IsStrictlySortedBy}
use Rattle.zk_machine.specs.ChangeLaws.{changes_by_instruction, PathsRise, InstructionsAreTheTransaction, InstructionsChangeInOneWay}
use Rattle.zk_machine.specs.declared.change.Change.{Change}
use Rattle.zk_watch.proofs.Guide.{events_rise}
use Rattle.zk_watch.proofs.Kept.{change_kept}
use Rattle.zk_watch.specs.declared.watch.Watch.{Watch}
use Rattle.zk_watch.specs.WatchLaws.{event_cmp, events_in_turn, EventsComeByInstruction, EventsOfInstructionsRise}
use Rattle.zk_watch.specs.Watching.{IsWatchList, told_by, after_change, fired_by, left_after}

fired_in_two : (cs ds : List Change) (ws : List Watch) → fired_by (cs ++ ds) ws ≡ fired_by cs ws ++ fired_by ds (left_after cs ws)
fired_in_two [] ds ws = refl
fired_in_two (c ∷ cs) ds ws =
    ap (λ l. told_by c ws ++ l) (fired_in_two cs ds (after_change c ws)) ∙ sym (append_assoc (told_by c ws) (fired_by cs (after_change c ws)) (fired_by ds (left_after cs (after_change c ws))))

fired_in_turn : (turns : List (List Change)) (ws : List Watch) → fired_by (flat_map (λ changes. changes) turns) ws ≡ flat_map (λ events. events) (events_in_turn turns ws)
fired_in_turn [] ws = refl
fired_in_turn (changes ∷ later) ws =
    fired_in_two changes (flat_map (λ changes. changes) later) ws ∙ ap (λ l. fired_by changes ws ++ l) (fired_in_turn later (left_after changes ws))

all_kept : (cs : List Change) (ws : List Watch) → IsWatchList ws → IsWatchList (left_after cs ws)
all_kept [] ws h = h
all_kept (c ∷ cs) ws h = all_kept cs (after_change c ws) (change_kept c ws h)

rise_in_turn : (turns : List (List Change)) (ws : List Watch) → IsWatchList ws → AllByRecursion PathsRise turns → AllByRecursion (IsStrictlySortedBy event_cmp) (events_in_turn turns ws)
rise_in_turn [] ws h rise = tt
rise_in_turn (changes ∷ later) ws h rise = (events_rise changes ws h rise.0, rise_in_turn later (left_after changes ws) (all_kept changes ws h) rise.1)

pub come_by_instruction : InstructionsAreTheTransaction → EventsComeByInstruction
come_by_instruction whole state txn ws = ap (λ cs. fired_by cs ws) (sym (whole state txn)) ∙ fired_in_turn (changes_by_instruction state txn) ws

pub of_instructions_rise : InstructionsChangeInOneWay → EventsOfInstructionsRise
of_instructions_rise one_way state txn ws h = rise_in_turn (changes_by_instruction state txn) ws h (one_way state txn)
