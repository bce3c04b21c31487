-- What the command `serve` writes, by its status. Nothing is specified of the bytes on sockets.
use Rattle.std.specs.Prelude.{ℕ, zero, suc, ◌++◌, List, ◌⊎◌, Option, Result, Ok, Err, codes}
use Rattle.std.specs.Fmt.{decimal}
use Rattle.zk_records.specs.declared.sink.Sink.{Sink}
use Rattle.zk_path.specs.declared.memory.NoMemory.{NoMemory}
use Rattle.zk_log_commands.specs.Telling.{Told}
use Rattle.zk_log_commands.specs.Writing.{LeavesSink, Wrote, BrokeOff}

-- the line with the port that clients connect to
abbrev pub listening_line : ℕ → List ℕ
listening_line port = codes "listening " ++ decimal port ++ codes "\n"

-- the line for a chronicle whose receipt at an index does not match
abbrev pub mismatch_line : ℕ → List ℕ
mismatch_line at = codes "zk: C2 " ++ decimal at ++ codes "\n"

-- `port` is the one on the command line; the listener's address is outside every contract
module _ {O E : Type 0} (written : O → Option (List ℕ)) (told : E → Option (List ℕ)) (port : ℕ) (output output' : Sink O) (faults faults' : Sink E) where
  -- nothing was written but the line for the user: the listener does not have the port
  abbrev pub TellsNoPort : Type 0
  TellsNoPort = LeavesSink written output output' × Told told faults faults' (codes "zk: listen\n")

  -- the output failed in the port
  abbrev pub TellsNoOutput : Type 0
  TellsNoOutput = BrokeOff written output output' (listening_line port) × Told told faults faults' (codes "zk: write\n")

  -- the port was written, and then the listener failed, or the servers' chronicle was rejected
  abbrev pub TellsWhy : Type 0
  TellsWhy =
      Wrote written output output' (listening_line port)
      × (Told told faults faults' (codes "zk: listen\n")
      ⊎ (Told told faults faults' (codes "zk: C1\n") ⊎ ((at : ℕ) × Told told faults faults' (mismatch_line at))))

  abbrev pub Serves : Result ℕ NoMemory → Type 0
  -- the port was written, all connections were served, and the chronicle was returned
  Serves (Ok zero) = Wrote written output output' (listening_line port) × LeavesSink told faults faults'
  Serves (Ok (suc zero)) = TellsNoPort ⊎ (TellsNoOutput ⊎ TellsWhy)
  Serves (Ok (suc (suc more))) = ⊥
  -- an allocation failed, before the port was written or after it
  Serves (Err refused) = (LeavesSink written output output' ⊎ Wrote written output output' (listening_line port)) × LeavesSink told faults faults'
