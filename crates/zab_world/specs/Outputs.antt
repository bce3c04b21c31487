-- A server's output at an event, apart from sending it. Own.
use Rattle.std.specs.Prelude.{◌≡◌, List, [], ◌∷◌, ◌++◌, length, take, Result, Ok, Err}
use Rattle.zab_epoch.specs.declared.message.Message.{Message}
use Rattle.zab_model.specs.declared.fault.WorldFault.{WorldFault}
use Rattle.zab_model.specs.declared.fault.WorldFault.TheVariants as faults
use Rattle.zab_model.specs.declared.used_tags.UsedTags.{UsedTags}
use Rattle.zab_model.specs.Worlds.{World, Answer, world, spent, moved}
use Rattle.zab_world.specs.declared.output.Output.{Output}
use Rattle.zab_world.specs.declared.output.ConsumedTag.{ConsumedTag}
use Rattle.zab_world.specs.declared.output.ConsumedTag.TheVariants.{Nothing, OfCall, OfSync}

-- the tags used up then
abbrev pub spent_by : ConsumedTag → UsedTags → UsedTags
spent_by Nothing tags = tags
spent_by (OfCall tag) tags = spent (tags.calls ++ tag ∷ []) tags.syncs
spent_by (OfSync tag) tags = spent tags.calls (tags.syncs ++ tag ∷ [])

-- the output is sent after all earlier messages
abbrev pub sent : {C : Type 0} → World C → Result (Output C) WorldFault → World C × Answer
sent w (Ok saying) = (
  world w.servers (w.messages ++ saying.messages) (spent_by saying.spends w.tags),
  Ok (moved (length w.messages) (length saying.messages)),
)
sent w (Err fault) = (w, Err fault)

abbrev pub silence : {C : Type 0} → Output C
silence = record { messages = []; spends = Nothing }

-- neither of the two errors of a failed allocation
abbrev pub IsPlain : WorldFault → Type 0
IsPlain faults.NoMemory = ⊥
IsPlain (faults.Died number) = ⊥
IsPlain fault = Unit {0}

abbrev pub IsPlainAnswer : Answer → Type 0
IsPlainAnswer (Ok numbers) = Unit {0}
IsPlainAnswer (Err fault) = IsPlain fault

-- a rule's error is no crash
abbrev pub IsLiving : WorldFault → Type 0
IsLiving (faults.Died number) = ⊥
IsLiving fault = Unit {0}

-- earlier messages and tags are still prefixes of the present ones
pub record Goes {C : Type 0} (before : List (Message C)) (tags : UsedTags) (now : List (Message C)) (tags_now : UsedTags) : Type 0 where
  pub messages : take (length before) now ≡ before
  pub calls : take (length tags.calls) tags_now.calls ≡ tags.calls
  pub syncs : take (length tags.syncs) tags_now.syncs ≡ tags.syncs
