-- How the command ends, by what was written.
use Rattle.std.proofs.Common.{◌≡◌, ℕ, List, Option, Ok, Err, inl, inr, subst, codes}
use Rattle.zk_records.specs.declared.sink.Sink.{Sink}
use Rattle.zk_path.specs.declared.memory.NoMemory.{NoMemory}
use Rattle.zk_log_commands.specs.Telling.{Told}
use Rattle.zk_log_commands.specs.Writing.{LeavesSink, Wrote, BrokeOff}
use Rattle.zk_serve.specs.Serving.{Serves, listening_line, mismatch_line}

module _ {O E : Type 0} (written : O → Option (List ℕ)) (told : E → Option (List ℕ)) (port : ℕ) (output output' : Sink O) (faults faults' : Sink E) where
  pub no_port : LeavesSink written output output' → Told told faults faults' (codes "zk: listen\n") → Serves written told port output output' faults faults' (Ok 1)
  no_port left line = inl (left, line)

  module _ (text : List ℕ) (spelled : text ≡ listening_line port) where
    wrote_line : Wrote written output output' text → Wrote written output output' (listening_line port)
    wrote_line wrote = subst (λ (line : List ℕ). Wrote written output output' line) spelled wrote

    pub not_written : BrokeOff written output output' text → Told told faults faults' (codes "zk: write\n") → Serves written told port output output' faults faults' (Ok 1)
    not_written broke line = inr (inl (subst (λ (l : List ℕ). BrokeOff written output output' l) spelled broke, line))

    pub all_served : Wrote written output output' text → LeavesSink told faults faults' → Serves written told port output output' faults faults' (Ok 0)
    all_served wrote left = (wrote_line wrote, left)

    pub unheard : Wrote written output output' text → Told told faults faults' (codes "zk: listen\n") → Serves written told port output output' faults faults' (Ok 1)
    unheard wrote line = inr (inr (wrote_line wrote, inl line))

    pub miscounted : Wrote written output output' text → Told told faults faults' (codes "zk: C1\n") → Serves written told port output output' faults faults' (Ok 1)
    miscounted wrote line = inr (inr (wrote_line wrote, inr (inl line)))

    pub mismatched : (at : ℕ) → Wrote written output output' text → Told told faults faults' (mismatch_line at) → Serves written told port output output' faults faults' (Ok 1)
    mismatched at wrote line = inr (inr (wrote_line wrote, inr (inr (at, line))))

    pub refused_behind : (refused : NoMemory) → Wrote written output output' text → LeavesSink told faults faults' → Serves written told port output output' faults faults' (Err refused)
    refused_behind refused wrote left = (inr (wrote_line wrote), left)

  pub refused_before : (refused : NoMemory) → LeavesSink written output output' → LeavesSink told faults faults' → Serves written told port output output' faults faults' (Err refused)
  refused_before refused left kept = (inl left, kept)
