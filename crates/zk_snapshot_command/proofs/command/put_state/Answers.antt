use Rattle.std.proofs.Common.{ℕ, List, inl, inr, refl, subst, ◌∙◌}
use Rattle.std.proofs.KnownBytes.{Keeps-refl}
use Rattle.zk_directory_state.specs.Notices.{OutputsWith}
use Rattle.zk_records.specs.Sinks.{writer_of}
use Rattle.zk_snapshot.specs.Snapshots.{IsContents, IsSnapshotOf}
use Rattle.zk_snapshot.specs.declared.snapshot.Snapshot.{Snapshot}
use Rattle.zk_snapshot_command.proofs.command.put_state.Goals as goal

pub returns-in-Ok : goal.returns-in-Ok
returns-in-Ok g c =
    let bytes = c.in-Ok.writer in
    inl (record {
      bytes = bytes;
      of_snapshot = subst (λ (s : Snapshot). IsSnapshotOf bytes s) c.in_ok-snapshot.ensures c.in-Ok.ensures.whole;
      outputs = subst (λ (notices : List ℕ). OutputsWith g.O.Write.contents g.E.Write.contents bytes notices c.args.output.now c.put_bytes.new.output c.args.faults.now c.put_bytes.new.faults c.put_bytes.result) (c.as_str.ensures.value ∙ c.in_ok-notices.ensures)
          c.put_bytes.ensures;
    })

pub returns-in-Err-Long : goal.returns-in-Err-Long
returns-in-Err-Long g c =
    let fault = rw c.in-Err-Long.field-0-is at c.in-Err-Long.ensures.fault in
    inr (inl (record {
      long = subst (λ (s : Snapshot). ¬ IsContents s.contents) c.in_ok-snapshot.ensures fault;
      status = refl;
      no_byte = record { bytes = Keeps-refl (g.O.Write.contents (writer_of c.args.output.now)); failures = refl };
      line = c.tell.ensures;
    }))
