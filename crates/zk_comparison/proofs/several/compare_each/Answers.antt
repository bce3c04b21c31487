use Rattle.std.proofs.Common.{◌≡◌, ◌≢◌, length, arith}
use Rattle.std.proofs.lemmas.Bool.Decides.{nat_tests}
use Rattle.zk_comparison.proofs.AllReported.{more_than_one}
use Rattle.zk_comparison.specs.Sources.{named_by}
use Rattle.zk_comparison.proofs.several.compare_each.Goals.{in_default-via-then-others-lt1, in_default-via-else-others-lt1+else-others-lt2}
use Rattle.zk_comparison.proofs.several.compare_each.Goals as goal

pub returns-in_default : goal.returns-in_default
returns-in_default g c =
    let named = named_by g.S.Folder.names_in g.S.Folder.bytes_in g.L.Folder.names_in g.L.Folder.bytes_in in
    let other : length c.args.others.now ≢ 1 = elim c.in_default.branch [ in_default-via-then-others-lt1 w ↦ (λ e. grind (arith, nat_tests)) | in_default-via-else-others-lt1+else-others-lt2 w ↦ (λ e. grind (arith, nat_tests)) ] in
    more_than_one named c.args.form g.O.Write.contents g.E.Write.contents (named c.args.first.now) c.args.others.now c.args.output.now c.compare_several.new.output c.args.faults.now c.compare_several.new.faults c.compare_several.result other c.compare_several.ensures
