use Rattle.std.proofs.Common.{get_or, pos, refl, rules, sym, w64, to_z, of_z, FitsSigned}
use Rattle.std.proofs.lemmas.Int.{to_z-of_z}
use Rattle.std.specs.String.{string_bytes}
use Rattle.zk_json_files.proofs.Lines.{logs_all, logs_more}
use Rattle.zk_json_files.proofs.file_lines.push_logs.Goals as goal

pub loop-zxid-init : goal.loop-zxid-init
loop-zxid-init g c = λ more lines. (more, lines, refl)

pub loop-zxid-preserved : goal.loop-zxid-preserved
loop-zxid-preserved g c =
    let zxids = c.args.zxids.now in
    let i = c.loop-zxid.zxid-index in
    let zxid = get_or zxids i (pos 0) in
    let fits : FitsSigned w64 zxid = search rules in
    logs_more (g.F.Folder.bytes_in c.args.folder.now) zxids i (to_z w64 (of_z w64 zxid)) c.loop-zxid.last c.in_ok-last.last (string_bytes c.args.text.now) (string_bytes c.loop-zxid.text) (string_bytes c.push_log.new.text) c.loop-zxid-test.true (sym (to_z-of_z w64 zxid fits))
    c.loop-zxid.invariant c.in_ok-last.ensures.line

pub returns-clause-lines : goal.returns-clause-lines
returns-clause-lines g c =
    logs_all (g.F.Folder.bytes_in c.args.folder.now) c.args.zxids.now c.loop-zxid.zxid-index c.loop-zxid.last (string_bytes c.args.text.now) (string_bytes c.loop-zxid.text) c.loop-zxid-test.false c.loop-zxid.invariant
