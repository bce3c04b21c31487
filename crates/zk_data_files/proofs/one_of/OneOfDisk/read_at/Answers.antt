use Rattle.std.proofs.Common.{◌<◌, length, sym, subst}
use Rattle.std.specs.Prelude.{IsTrue, OnOk}
use Rattle.sqlite_disk.specs.Disk.{Holds}
use Rattle.zk_data_files.specs.OneOf.{seen_in}
use Rattle.zk_data_files.specs.declared.one_of.OneOf.{OneOf}
use Rattle.zk_data_files.proofs.one_of.OneOfDisk.read_at.Goals as goal

pub returns-in-First-clause-read : goal.returns-in-First-clause-read
returns-in-First-clause-read g c =
    subst (λ (s : (OneOf g.row.A.Denot g.row.B.Denot g.row.C.Denot)). OnOk c.read_at.result (IsTrue (g.A.Disk.is_clean c.read_at.new.self) → 0 < length c.args.buf.now → Holds (seen_in g.A.Disk g.B.Disk g.C.Disk s) c.args.at c.read_at.new.buf)) (sym c.in-First.is) c.read_at.ensures.read

pub returns-in-Second-clause-read : goal.returns-in-Second-clause-read
returns-in-Second-clause-read g c =
    subst (λ (s : (OneOf g.row.A.Denot g.row.B.Denot g.row.C.Denot)). OnOk c.read_at-in-Second.result (IsTrue (g.B.Disk.is_clean c.read_at-in-Second.new.self) → 0 < length c.args.buf.now → Holds (seen_in g.A.Disk g.B.Disk g.C.Disk s) c.args.at c.read_at-in-Second.new.buf)) (sym c.in-Second.is) c.read_at-in-Second.ensures.read

pub returns-in-Third-clause-read : goal.returns-in-Third-clause-read
returns-in-Third-clause-read g c =
    subst (λ (s : (OneOf g.row.A.Denot g.row.B.Denot g.row.C.Denot)). OnOk c.read_at-in-Third.result (IsTrue (g.C.Disk.is_clean c.read_at-in-Third.new.self) → 0 < length c.args.buf.now → Holds (seen_in g.A.Disk g.B.Disk g.C.Disk s) c.args.at c.read_at-in-Third.new.buf)) (sym c.in-Third.is) c.read_at-in-Third.ensures.read
