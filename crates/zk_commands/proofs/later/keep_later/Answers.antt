use Rattle.std.proofs.Common.{◌≡◌, ℤ, List, Option, Some, filter, rules, int_lt, sym, ap, ◌∙◌}
use Rattle.std.proofs.lemmas.Fn.{filter_same}
use Rattle.zk_table.specs.declared.txn.Txn.{Txn}
use Rattle.zk_commands.specs.Later.{is_later}
use Rattle.zk_commands.proofs.later.keep_later.Goals as goal

pub returns-in-Some : goal.returns-in-Some
returns-in-Some c =
    let kept : c.retain.new.self.items ≡ filter (is_later (Some c.in-Some.zxid)) c.args.txns.now.items = filter_same _ (is_later (Some c.in-Some.zxid)) _ (λ x b f' k. search rules) c.args.txns.now.items c.retain.new.self.items c.retain.ensures.filtered in
    kept ∙ ap (λ (z : Option ℤ). filter (is_later z) c.args.txns.now.items) (sym c.in-Some.is)
