-- What the words of `zk top` ask for.
use Rattle.std.proofs.Common.{◌≡◌, ℕ, List, Option, Some, None, sym, subst, ◌∙◌}
use Rattle.zk_cli_args.specs.Incidents.{IsTop, NamesTop, ReadsBound, ReadsBy, ReadsNumber, ReadsTop, TopWords, top_of}
use Rattle.zk_cli_args.specs.Tops.{ReadsTopWords}
use Rattle.zk_cli_args.specs.declared.folders.Until.{Until}
use Rattle.zk_cli_args.specs.declared.top.By.{By}
use Rattle.zk_cli_args.specs.declared.top.TopJob.{TopJob}

same : (a b : TopWords) → (let x : Option TopWords = Some a in let y : Option TopWords = Some b in x ≡ y) → a ≡ b
same a b e = cc

pub given_top : (words : List (List ℕ)) (given : TopWords) (read : Option TopJob) → Some given ≡ top_of words → ReadsTopWords given read → ReadsTop words read
given_top words given (Some job) is r = record { given = given; parted = sym is; is = r }
given_top words given None is r = λ job n. r job (subst (λ (g : TopWords). IsTop g job) (same n.given given (sym n.parted ∙ sym is)) n.is)

pub no_top : (words : List (List ℕ)) → None ≡ top_of words → ReadsTop words None
no_top words is = λ job n. none_some n.given (is ∙ n.parted)
  where
    none_some : (given : TopWords) → (let x : Option TopWords = None in let y : Option TopWords = Some given in x ≡ y) → ⊥
    none_some given e = cc

pub no_by : (given : TopWords) → ReadsBy given.by None → ReadsTopWords given None
no_by given none = λ job n. none job.by n.by

pub no_from : (given : TopWords) → ReadsBound given.from None → ReadsTopWords given None
no_from given none = λ job n. none job.from n.from

pub no_to : (given : TopWords) → ReadsBound given.to None → ReadsTopWords given None
no_to given none = λ job n. none job.to n.to

pub no_number : (given : TopWords) → ReadsNumber given.number None → ReadsTopWords given None
no_number given none = λ job n. none job.number n.number

pub whole_top : (given : TopWords) (job : TopJob) → IsTop given job → ReadsTopWords given (Some job)
whole_top given job is = is
