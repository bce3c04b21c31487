use Rattle.std.proofs.Common.{ℤ, w64, ap, ◌∙◌}
use Rattle.std.proofs.lemmas.Int.{to_z-of_z}
use Rattle.std.specs.BTreeMap.{is_at}
use Rattle.std.specs.Map.{lookup}
use Rattle.std.specs.Ordering.{int_cmp}
use Rattle.zk_sessions.proofs.lives.Lives.get.Goals as goal

pub returns : goal.returns
returns c =
    c.copied.ensures
    ∙ c.get.ensures.value
    ∙ ap (λ (s : ℤ). lookup (is_at (int_cmp s)) c.self.inside.sessions.entries) (to_z-of_z w64 c.args.session c.ranges.session)
    ∙ ap (lookup (is_at (int_cmp c.args.session))) c.self.view_is
