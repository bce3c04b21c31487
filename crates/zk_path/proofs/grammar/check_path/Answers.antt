use Rattle.std.proofs.Common.{sym, ap, length, lit<}
use Rattle.std.proofs.lemmas.Bool.{eqb-false}
use Rattle.std.proofs.lemmas.Str.{encode_ascii}
use Rattle.zk_path.proofs.Slashes.{not_absolute}
use Rattle.zk_path.proofs.grammar.check_path.Goals as goal

pub returns-in_default : goal.returns-in_default
returns-in_default c =
    not_absolute
    c.args.text.now
    (λ empty. eqb-false (length c.args.text.now) 0 (sym c.if-is_empty.ensures) (ap length empty))
    (λ rest is. c.in_default.ensures.cases rest (rw (encode_ascii 47 (lit< tt)) is))
