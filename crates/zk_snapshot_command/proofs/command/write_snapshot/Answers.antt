use Rattle.std.proofs.Common.{Err, refl}
use Rattle.std.proofs.KnownBytes.{Keeps-refl}
use Rattle.zk_records.specs.Sinks.{writer_of}
use Rattle.zk_snapshot_command.proofs.Rereading.{unread_holds}
use Rattle.zk_snapshot_command.proofs.command.write_snapshot.Goals as goal

pub returns : goal.returns
returns g c =
    let fault = c.in-Err-owners_in.fault in
    record {
      answer = Err fault;
      holds = unread_holds (g.S.Folder.names_in c.args.snapshots.now) (g.S.Folder.bytes_in c.args.snapshots.now) (g.L.Folder.names_in c.args.logs.now) (g.L.Folder.bytes_in c.args.logs.now) c.args.upto fault c.in-Err-owners_in.ensures.unread;
      outputs = (record { bytes = Keeps-refl (g.O.Write.contents (writer_of c.args.output.now)); failures = refl }, c.tell_fault-in-Err-owners_in.ensures);
    }
