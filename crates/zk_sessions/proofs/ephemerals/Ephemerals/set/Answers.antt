use Rattle.std.proofs.Common.{w64, of_z, to_z, map, ap, ◌∙◌}
use Rattle.std.proofs.lemmas.Int.{to_z-of_z}
use Rattle.std.specs.String.{string_bytes}
use Rattle.zk_sessions.proofs.Texts.{insert_shown, shown}
use Rattle.zk_sessions.specs.Ephemerals.{with_owner}
use Rattle.zk_sessions.proofs.ephemerals.Ephemerals.set.Goals as goal

pub returns : goal.returns
returns c =
    let text = c.in_ok-text.text in
    let session = to_z w64 (of_z w64 c.args.session) in
    ap (map shown) c.in_ok-insert.ensures.entries
    ∙ insert_shown c.self.inside.sessions.entries text session
    ∙ ap (λ owned. with_owner owned (string_bytes text) session) c.self.view_is
    ∙ ap (λ path. with_owner c.args.self.now path session) c.in_ok-text.ensures.ok
    ∙ ap (with_owner c.args.self.now c.args.path.now) (to_z-of_z w64 c.args.session c.ranges.session)
