use Rattle.std.proofs.Common.{ℤ, List, Ok, ap, subst}
use Rattle.zk_machine.specs.Machines.{MachineView}
use Rattle.zk_commands.specs.Later.{LaterIn}
use Rattle.zk_commands.proofs.start.start_with.Goals as goal

pub returns-clause-start : goal.returns-clause-start
returns-clause-start g c = record {
  later = c.in-Ok-later_in.later;
  continues = record {
    logged = c.in-Ok.logged.items;
    are_logs = c.in-Ok.ensures.given;
    later = subst (λ (logged : List ℤ). LaterIn (g.L.Folder.bytes_in c.args.logs.now) logged c.args.shown.restored.position (Ok c.in-Ok-later_in.later)) c.as_slice.ensures.value c.in-Ok-later_in.ensures;
  };
  base = ap (λ (m : MachineView). m.state) c.in_ok-base.ensures;
  txns = c.from_vec.ensures;
}
