use Rattle.std.proofs.Common.{◌≡◌, ◌++◌, rules}
use Rattle.std.specs.Prelude.{FitsSigned}
use Rattle.std.specs.Int.{w32}
use Rattle.std.proofs.lemmas.Int.{to_z-of_z}
use Rattle.zk_records.specs.Records.{int}
use Rattle.zab_frames.specs.Messages.{identity, acl_entry}
use Rattle.zab_frames.proofs.Joined.{joined_two}
use Rattle.zab_frames.proofs.field_writers.put_acl.Goals as goal

pub returns-clause-written : goal.returns-clause-written
unfolding acl_entry
returns-clause-written c =
    let acl = c.args.acl.now in
    let perms : FitsSigned w32 acl.perms = search rules in
    let one : c.put_int.new.out.items ≡ c.args.out.now.items ++ int acl.perms = simp to_z-of_z at c.in_ok-put_int.ensures.written in
    joined_two c.args.out.now.items (int acl.perms) (identity acl.id) _ _ one c.in_ok-put_identity.ensures.written
