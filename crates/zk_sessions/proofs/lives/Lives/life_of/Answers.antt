use Rattle.std.proofs.Common.{ℤ, Option, w64, ap, ◌∙◌}
use Rattle.std.proofs.lemmas.Int.{to_z-of_z}
use Rattle.std.specs.BTreeMap.{is_at}
use Rattle.std.specs.Map.{lookup}
use Rattle.std.specs.Option.{unwrap_or}
use Rattle.std.specs.Ordering.{int_cmp}
use Rattle.zk_sessions.specs.Lives.{found}
use Rattle.zk_sessions.specs.declared.session.Session.{Session}
use Rattle.zk_sessions.proofs.lives.Lives.life_of.Goals as goal

pub returns : goal.returns
returns c =
    c.unwrap_or.ensures
    ∙ ap (λ (o : Option Session). unwrap_or o c.unknown.result) (c.copied.ensures
    ∙ c.get.ensures.value
    ∙ ap (λ (s : ℤ). lookup (is_at (int_cmp s)) c.self.inside.sessions.entries) (to_z-of_z w64 c.args.session c.ranges.session)
    ∙ ap (lookup (is_at (int_cmp c.args.session))) c.self.view_is)
    ∙ ap (unwrap_or (found c.args.self.now c.args.session)) c.unknown.ensures
