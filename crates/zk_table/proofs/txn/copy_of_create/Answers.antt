use Rattle.std.proofs.Common.{ap₂, ◌∙◌, w32, of_z, to_z}
use Rattle.std.proofs.lemmas.Int.{to_z-of_z}
use Rattle.zk_table.specs.declared.txn.Op.TheVariants.{Create}
use Rattle.zk_table.proofs.txn.copy_of_create.Goals as goal

pub returns : goal.returns
returns c =
    ap₂ (λ path content. Create path content c.in_ok-acl.acl c.args.ephemeral (to_z w32 (of_z w32 c.args.count))) c.in_ok-path.ensures c.in_ok-content.ensures
    ∙ ap₂ (λ acl count. Create c.args.path.now c.args.content.now acl c.args.ephemeral count) c.in_ok-acl.ensures (to_z-of_z w32 c.args.count c.ranges.count)
