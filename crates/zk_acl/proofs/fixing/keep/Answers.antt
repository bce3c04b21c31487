use Rattle.std.proofs.Common.{[], ◌∷◌, ◌++◌, sym, ◌∙◌, ap₂, w32}
use Rattle.std.proofs.lemmas.Int.{to_z-of_z}
use Rattle.zk_acl.proofs.Once.{entry_by, is_kept, Keeps-same, Keeps-new}
use Rattle.zk_acl.proofs.fixing.keep.Goals as goal

pub returns-then-is_kept : goal.returns-then-is_kept
returns-then-is_kept c =
    let perms = to_z-of_z w32 c.args.perms c.ranges.perms in
    let asked = ap₂ (λ kept perms. is_kept (entry_by perms c.args.who.now) kept) (sym c.deref.ensures.value) (sym perms) in
    Keeps-same c.args.kept.now.items (entry_by c.args.perms c.args.who.now) (asked ∙ sym c.is_kept.ensures ∙ c.if-is_kept.true)

pub returns : goal.returns
returns c =
    let perms = to_z-of_z w32 c.args.perms c.ranges.perms in
    let asked = ap₂ (λ kept perms. is_kept (entry_by perms c.args.who.now) kept) (sym c.deref.ensures.value) (sym perms) in
    let more = ap₂ (λ perms id. c.args.kept.now.items ++ entry_by perms id ∷ []) perms c.in_ok-id.ensures in
    Keeps-new c.args.kept.now.items c.push.new.self.items (entry_by c.args.perms c.args.who.now) (asked ∙ sym c.is_kept.ensures ∙ c.if-is_kept.false) (c.in_ok-push.ensures.items ∙ more)
