use Rattle.std.proofs.Common.{◌≡◌, drop, sym, ap, ◌∙◌, arith}
use Rattle.std.proofs.lemmas.Cmp.{nat_cmp_total}
use Rattle.std.proofs.lemmas.List.{drop_all}
use Rattle.std.specs.FinMap as finite
use Rattle.std.specs.FinMap.{nat_cmp-IsAntisymmetric}
use Rattle.zk_fold.proofs.Reopened.{all_put, all_put_again}
use Rattle.zk_fold.proofs.sessions.Sessions.of_machine.Goals as goal

pub returns : goal.returns
returns c =
    let items = c.as_slice-session-items.result.now in
    ap (all_put c.loop-session.sessions) (sym (drop_all c.loop-session.session-index items (omega (arith, c.loop-session-test.false))))
    ∙ c.loop-session.invariant
    ∙ ap (all_put finite.empty) (c.as_slice-session-items.ensures.value ∙ c.in_ok-entries.ensures)
    ∙ all_put_again nat_cmp_total nat_cmp-IsAntisymmetric c.args.self.now
