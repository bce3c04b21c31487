-- The words of `zk top`, as they are read.
use Rattle.std.specs.Prelude.{ℕ, List, Option, Some, None, option_map}
use Rattle.zk_cli_args.specs.Incidents.{IsTop, TopWords}
use Rattle.zk_cli_args.specs.declared.top.TopGiven.{TopGiven}
use Rattle.zk_cli_args.specs.declared.top.TopJob.{TopJob}

abbrev pub words_of_top : TopGiven → TopWords
words_of_top given = record {
  folder = given.folder.now;
  logs = option_map (λ word. word.now) given.logs;
  by = option_map (λ word. word.now) given.by;
  from = option_map (λ word. word.now) given.from;
  to = option_map (λ word. word.now) given.to;
  number = option_map (λ word. word.now) given.number;
}

abbrev pub ReadsTopWords : TopWords → Option TopJob → Type 0
ReadsTopWords given (Some job) = IsTop given job
ReadsTopWords given None = (job : TopJob) → ¬ IsTop given job
