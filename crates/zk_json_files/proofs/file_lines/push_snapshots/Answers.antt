use Rattle.std.proofs.Common.{get_or, pos, refl, rules, sym, w64, to_z, of_z, FitsSigned}
use Rattle.std.proofs.lemmas.Int.{to_z-of_z}
use Rattle.std.specs.String.{string_bytes}
use Rattle.zk_json_files.proofs.Lines.{snapshots_all, snapshots_more}
use Rattle.zk_json_files.proofs.file_lines.push_snapshots.Goals as goal

pub loop-zxid-init : goal.loop-zxid-init
loop-zxid-init g c = λ more lines. (more, lines, refl)

pub loop-zxid-preserved : goal.loop-zxid-preserved
loop-zxid-preserved g c =
    let zxids = c.args.zxids.now in
    let i = c.loop-zxid.zxid-index in
    let zxid = get_or zxids i (pos 0) in
    let fits : FitsSigned w64 zxid = search rules in
    snapshots_more (g.F.Folder.bytes_in c.args.folder.now) zxids i (to_z w64 (of_z w64 zxid)) (string_bytes c.args.text.now) (string_bytes c.loop-zxid.text) (string_bytes c.push_snapshot.new.text) c.loop-zxid-test.true (sym (to_z-of_z w64 zxid fits)) c.loop-zxid.invariant
    c.in_ok-push_snapshot.ensures.line

pub returns-clause-lines : goal.returns-clause-lines
returns-clause-lines g c =
    snapshots_all (g.F.Folder.bytes_in c.args.folder.now) c.args.zxids.now c.loop-zxid.zxid-index (string_bytes c.args.text.now) (string_bytes c.loop-zxid.text) c.loop-zxid-test.false c.loop-zxid.invariant
