use Rattle.std.proofs.Common.{refl, subst, FitsSigned, w64}
use Rattle.std.proofs.lemmas.Int.{to_z-of_z}
use Rattle.zk_directory_state.specs.Files.{log_line}
use Rattle.zk_directory.specs.LogFiles.{IsLogFile}
use Rattle.zk_directory_state.proofs.file_listing.push_log.Goals as goal

pub returns-clause-line : goal.returns-clause-line
returns-clause-line g c =
    let fits : FitsSigned w64 c.args.zxid = c.ranges.zxid in
    let file = c.in_ok-file.file in
    let bytes = c.in_ok-bytes.bytes.items in (
      log_line c.args.zxid c.args.last file,
      record {
        bytes = bytes;
        file = file;
        given = simp to_z-of_z at c.in_ok-bytes.ensures.given;
        is_log = subst (λ l. IsLogFile l file) c.as_slice.ensures.value c.in_ok-file.ensures;
        line_of = refl;
        after_it = c.in_ok-push_log_line.ensures.last;
      },
      simp to_z-of_z at c.in_ok-push_log_line.ensures.line,
    )
