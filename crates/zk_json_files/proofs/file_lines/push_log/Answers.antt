use Rattle.std.proofs.Common.{subst, ◌∙◌, FitsSigned, w64}
use Rattle.std.proofs.lemmas.Int.{to_z-of_z}
use Rattle.zk_directory.specs.LogFiles.{IsLogFile}
use Rattle.zk_json_files.specs.Logs.{AreLogLines}
use Rattle.zk_json_files.proofs.file_lines.push_log.Goals as goal

pub returns-clause-line : goal.returns-clause-line
returns-clause-line g c =
    let file = c.in_ok-file.file in
    let bytes = c.in_ok-bytes.bytes.items in
    let fits : FitsSigned w64 c.args.zxid = c.ranges.zxid in
    let named = simp to_z-of_z at c.in_ok-name.ensures in
    let pushed = c.in_ok-push_log_lines.ensures.lines in (
      pushed.0,
      record {
        bytes = bytes;
        file = file;
        given = simp to_z-of_z at c.in_ok-bytes.ensures.given;
        is_log = subst (λ l. IsLogFile l file) c.as_slice.ensures.value c.in_ok-file.ensures;
        are_lines = subst (λ n. AreLogLines n c.args.last file pushed.0) (c.as_str.ensures.value ∙ named) pushed.1;
        after_it = c.in_ok-push_log_lines.ensures.last;
      },
      pushed.2,
    )
