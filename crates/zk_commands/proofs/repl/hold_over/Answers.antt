use Rattle.std.proofs.Common.{◌≡◌, ℤ, Option, ap, ◌∙◌, inl, subst}
use Rattle.zk_debug.specs.Debugging.{Debugging, started}
use Rattle.zk_log_commands.specs.Notices.{first_zxid, within_epoch}
use Rattle.zk_commands.specs.Holding.{Sits}
use Rattle.zk_table.specs.States.{start_state}
use Rattle.zk_commands.proofs.repl.hold_over.Goals as goal

pub returns : goal.returns
returns g c =
    let first : c.first_zxid-first.result ≡ first_zxid c.args.loaded.txns = c.first_zxid-first.ensures ∙ ap first_zxid c.as_slice.ensures in
    inl (subst (λ (first : Option ℤ). Sits g.L.Read.remaining g.O.Write.contents g.E.Write.contents c.args.prompts (within_epoch first) (started start_state c.args.loaded.txns) c.args.lines.now c.hold.new.lines c.args.output.now c.hold.new.output c.args.faults.now c.hold.new.faults c.hold.result) first
    (subst (λ (d : Debugging). Sits g.L.Read.remaining g.O.Write.contents g.E.Write.contents c.args.prompts (within_epoch c.first_zxid-first.result) d c.args.lines.now c.hold.new.lines c.args.output.now c.hold.new.output c.args.faults.now c.hold.new.faults c.hold.result) c.in-Ok.ensures c.hold.ensures))
