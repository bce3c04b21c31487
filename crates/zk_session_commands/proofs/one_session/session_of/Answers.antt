use Rattle.std.proofs.Common.{rules, subst}
use Rattle.std.specs.String.{string_bytes}
use Rattle.zk_directory_state.specs.Records as records
use Rattle.zk_directory_state.specs.declared.range.Range.{Range}
use Rattle.zk_session_commands.proofs.Finished.{session_told}
use Rattle.zk_session_commands.proofs.one_session.session_of.Goals as goal

pub returns : goal.returns
returns g c =
    let folded = c.in_ok-fold.ensures in
    let told = session_told c.args.asked c.in_ok-known.known c.new-start.result c.in_ok-fold.field-0.fold _ folded.0 c.life_of-life.result _ (string_bytes c.in_ok-text.text) c.new-start.ensures.asked c.new-start.ensures.known c.new-start.ensures.text folded.2 c.in_ok-text.ensures (search rules) c.life_of-life.ensures c.as_str.ensures.value in
    let answers = subst (λ (r : Range). records.Answers r (g.S.Folder.names_in c.args.snapshots.now) (g.L.Folder.names_in c.args.logs.now) (g.L.Folder.bytes_in c.args.logs.now) folded.0 (string_bytes c.in_ok-fold.field-0.notice)) c.unbounded.ensures folded.1 in
    (folded.0, answers, (c.in_ok-known.known, c.in_ok-known.ensures, told))
