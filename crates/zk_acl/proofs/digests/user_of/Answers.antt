use Rattle.std.proofs.Common.{sym, ◌∙◌, ap, lit<}
use Rattle.std.specs.Option.{option_copied}
use Rattle.zk_acl.proofs.Colons.{user_of-none}
use Rattle.zk_acl.proofs.digests.user_of.Goals as goal

pub returns-in_err-user : goal.returns-in_err-user
returns-in_err-user c =
    ap option_copied c.from_residual.ensures ∙ sym (user_of-none c.args.text.now (c.in_err-user.ensures.byte (lit< tt) (λ w o found. found)))
