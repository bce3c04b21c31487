use Rattle.std.proofs.Common.{Option, subst}
use Rattle.zk_cli_args.specs.Ensembles.{ReadsEnsemble}
use Rattle.zk_cli_args.specs.declared.ensemble.Ensemble.{Ensemble}
use Rattle.zk_cli_args.proofs.LinesLaws.{no_ensemble}
use Rattle.zk_cli_args.proofs.WordsLaws.{texts}
use Rattle.zk_cli_args.proofs.ensemble_job.recorded_by.Goals as goal

pub returns-in-None : goal.returns-in-None
returns-in-None c =
    let words = texts c.args.words.now in
    no_ensemble c.args.file.now words (subst (λ (read : Option Ensemble). ReadsEnsemble words read) c.in-None.is c.in_ok-ensemble.ensures)
