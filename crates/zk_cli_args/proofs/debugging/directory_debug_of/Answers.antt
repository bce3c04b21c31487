use Rattle.std.proofs.Common.{Option, subst}
use Rattle.zk_cli_args.specs.Debugs.{ReadsDebugLine}
use Rattle.zk_cli_args.specs.declared.debugging.FolderDebug.{FolderDebug}
use Rattle.zk_cli_args.proofs.DebugLaws.{no_line}
use Rattle.zk_cli_args.proofs.WordsLaws.{texts}
use Rattle.zk_cli_args.proofs.debugging.directory_debug_of.Goals as goal

pub returns-in_default : goal.returns-in_default
returns-in_default c =
    let words = texts c.args.words.now in
    no_line words (subst (λ (read : Option FolderDebug). ReadsDebugLine words read) c.in_default.is c.in_ok-debug.ensures)
