-- The bytes of a script, and its execution.
use Rattle.std.proofs.Common.{◌≡◌, ℕ, List, Option, Some, None, Result, Ok, Err, subst}
use Rattle.zk_debug.specs.Debugging.{Debugging, started}
use Rattle.zk_log.specs.declared.source.Source.{Source}
use Rattle.zk_debug.specs.Scripts.{RunsScript}
use Rattle.zk_listing.specs.declared.script_fault.ScriptFault.{ScriptFault}
use Rattle.zk_listing.specs.declared.script_fault.ScriptFault.TheVariants as script_faults
use Rattle.zk_table.specs.States.{State}
use Rattle.zk_table.specs.declared.txn.Txn.{Txn}
use Rattle.zk_log_commands.specs.Debugs.{RunsFromStart}
use Rattle.zk_log_commands.specs.Reading.{ReadsAll, TellsRead}
use Rattle.zk_log_commands.specs.declared.text.TextFault.{TextFault}
use Rattle.zk_log_commands.specs.declared.text.TextFault.TheVariants as faults

pub text_read : {T : Type 0} (bytes_of : T → List ℕ) (remaining : Option (List ℕ)) (text : T) → ReadsAll bytes_of remaining (Ok text) → ReadsAll {T = List ℕ} (λ bytes. bytes) remaining (Ok (bytes_of text))
text_read bytes_of None text h = tt
text_read bytes_of (Some bytes) text h = h

refused_alike : {T : Type 0} (bytes_of : T → List ℕ) (remaining : Option (List ℕ)) (fault : TextFault) → ReadsAll bytes_of remaining (Err fault) → ReadsAll {T = List ℕ} (λ bytes. bytes) remaining (Err fault)
refused_alike bytes_of None fault h = tt
refused_alike bytes_of (Some bytes) faults.Read h = tt
refused_alike bytes_of (Some bytes) faults.Utf8 h = h
refused_alike bytes_of (Some bytes) faults.NoMemory h = tt

pub text_refused : {T : Type 0} (bytes_of : T → List ℕ) (remaining : Option (List ℕ)) (fault fault' : TextFault) → fault ≡ fault' → ReadsAll bytes_of remaining (Err fault) → ReadsAll {T = List ℕ} (λ bytes. bytes) remaining (Err fault')
text_refused bytes_of remaining fault fault' same h =
    subst (λ (f : TextFault). ReadsAll {T = List ℕ} (λ bytes. bytes) remaining (Err f)) same (refused_alike bytes_of remaining fault h)

told_alike : {R T : Type 0} (bytes_of : T → List ℕ) (old : Source R) (turns : ℕ) (fault : TextFault) (new : Source R) → TellsRead {T = T} old turns (Err fault) new → TellsRead {T = List ℕ} old turns (Err fault) new
told_alike bytes_of old turns faults.Read new h = h
told_alike bytes_of old turns faults.Utf8 new h = h
told_alike bytes_of old turns faults.NoMemory new h = h

pub refusal_told_so : {R T : Type 0} (bytes_of : T → List ℕ) (old : Source R) (turns : ℕ) (fault fault' : TextFault) (new : Source R) → fault ≡ fault' → TellsRead {T = T} old turns (Err fault) new → TellsRead {T = List ℕ} old turns (Err fault') new
refusal_told_so bytes_of old turns fault fault' new same h =
    subst (λ (f : TextFault). TellsRead {T = List ℕ} old turns (Err f) new) same (told_alike bytes_of old turns fault new h)

pub from_start : (base : State) (txns : List Txn) (script before after : List ℕ) (old new : Debugging) (ran : Result (Unit {0}) ScriptFault) → old ≡ started base txns → RunsScript old script before ran after new → RunsFromStart base txns script before ran after
from_start base txns script before after old new (Ok done) same h = (new, subst (λ (d : Debugging). RunsScript d script before (Ok done) after new) same h)
from_start base txns script before after old new (Err (script_faults.Malformed line)) same h = (new, subst (λ (d : Debugging). RunsScript d script before (Err (script_faults.Malformed line)) after new) same h)
from_start base txns script before after old new (Err script_faults.NoMemory) same h = tt
