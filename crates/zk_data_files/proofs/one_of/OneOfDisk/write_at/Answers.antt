use Rattle.std.proofs.Common.{sym, subst}
use Rattle.std.specs.Prelude.{IsTrue, IsErr}
use Rattle.sqlite_disk.specs.Disk.{StaysFrozen}
use Rattle.zk_data_files.specs.OneOf.{seen_in, may_leave_in, is_clean_in, is_frozen_in}
use Rattle.zk_data_files.specs.declared.one_of.OneOf.{OneOf}
use Rattle.zk_data_files.specs.declared.one_of.OneOf.TheVariants.{First, Second, Third}
use Rattle.zk_data_files.proofs.one_of.OneOfDisk.write_at.Goals as goal

pub returns-in-First-clause-frozen : goal.returns-in-First-clause-frozen
returns-in-First-clause-frozen g c =
    subst (λ (s : (OneOf g.row.A.Denot g.row.B.Denot g.row.C.Denot)). IsTrue (is_frozen_in g.A.Disk g.B.Disk g.C.Disk s) → IsErr c.write_at.result × StaysFrozen (seen_in g.A.Disk g.B.Disk g.C.Disk) (may_leave_in g.A.Disk g.B.Disk g.C.Disk) (is_clean_in g.A.Disk g.B.Disk g.C.Disk) (is_frozen_in g.A.Disk g.B.Disk g.C.Disk) s (First c.write_at.new.self)) (sym c.in-First.is)
    (λ f. let e = c.write_at.ensures.frozen f in (e.0, record { frozen = e.1.frozen; same = e.1.same; clean = e.1.clean; no_more = e.1.no_more; no_fewer = e.1.no_fewer }))

pub returns-in-Second-clause-frozen : goal.returns-in-Second-clause-frozen
returns-in-Second-clause-frozen g c =
    subst (λ (s : (OneOf g.row.A.Denot g.row.B.Denot g.row.C.Denot)). IsTrue (is_frozen_in g.A.Disk g.B.Disk g.C.Disk s) → IsErr c.write_at-in-Second.result × StaysFrozen (seen_in g.A.Disk g.B.Disk g.C.Disk) (may_leave_in g.A.Disk g.B.Disk g.C.Disk) (is_clean_in g.A.Disk g.B.Disk g.C.Disk) (is_frozen_in g.A.Disk g.B.Disk g.C.Disk) s (Second c.write_at-in-Second.new.self)) (sym c.in-Second.is)
    (λ f. let e = c.write_at-in-Second.ensures.frozen f in (e.0, record { frozen = e.1.frozen; same = e.1.same; clean = e.1.clean; no_more = e.1.no_more; no_fewer = e.1.no_fewer }))

pub returns-in-Third-clause-frozen : goal.returns-in-Third-clause-frozen
returns-in-Third-clause-frozen g c =
    subst (λ (s : (OneOf g.row.A.Denot g.row.B.Denot g.row.C.Denot)). IsTrue (is_frozen_in g.A.Disk g.B.Disk g.C.Disk s) → IsErr c.write_at-in-Third.result × StaysFrozen (seen_in g.A.Disk g.B.Disk g.C.Disk) (may_leave_in g.A.Disk g.B.Disk g.C.Disk) (is_clean_in g.A.Disk g.B.Disk g.C.Disk) (is_frozen_in g.A.Disk g.B.Disk g.C.Disk) s (Third c.write_at-in-Third.new.self)) (sym c.in-Third.is)
    (λ f. let e = c.write_at-in-Third.ensures.frozen f in (e.0, record { frozen = e.1.frozen; same = e.1.same; clean = e.1.clean; no_more = e.1.no_more; no_fewer = e.1.no_fewer }))
