-- What the words of `zk session` name.
use Rattle.std.proofs.Common.{◌≡◌, ℕ, ℤ, List, Option, Some, None, sym, subst, ◌∙◌}
use Rattle.zk_cli_args.specs.Sessions.{IsSession, NamesSession, ReadsId, ReadsSession, ReadsSessionId, ReadsSessionWords, SessionWords, SpellsSession, session_words, widened}
use Rattle.zk_cli_args.specs.declared.session.SessionJob.{SessionJob}

same : (a b : SessionWords) → (let x : Option SessionWords = Some a in let y : Option SessionWords = Some b in x ≡ y) → a ≡ b
same a b e = cc

pub given_session : (words : List (List ℕ)) (given : SessionWords) (read : Option SessionJob) → Some given ≡ session_words words → ReadsSessionWords given read → ReadsSession words read
given_session words given (Some job) is r = record { given = given; parted = sym is; is = r }
given_session words given None is r = λ job n. r job (subst (λ (g : SessionWords). IsSession g job) (same n.given given (sym n.parted ∙ sym is)) n.is)

pub no_session : (words : List (List ℕ)) → None ≡ session_words words → ReadsSession words None
no_session words is = λ job n. none_some n.given (is ∙ n.parted)
  where
    none_some : (given : SessionWords) → (let x : Option SessionWords = None in let y : Option SessionWords = Some given in x ≡ y) → ⊥
    none_some given e = cc

pub no_id : (given : SessionWords) → ((session : ℤ) → ¬ SpellsSession given.session session) → ReadsSessionWords given None
no_id given none = λ job n. none job.session n.session

pub whole_session : (given : SessionWords) (job : SessionJob) → IsSession given job → ReadsSessionWords given (Some job)
whole_session given job is = is

-- ---- its number

as_session : (word : List ℕ) (read : Option ℤ) → ReadsId (widened word) read → ReadsSessionId word read
as_session word (Some session) r = r
as_session word None r = λ session s. r session s.0 s.1

pub reads_widened : (word plain : List ℕ) (read : Option ℤ) → plain ≡ widened word → ReadsId plain read → ReadsSessionId word read
reads_widened word plain read e r = as_session word read (subst (λ (w : List ℕ). ReadsId w read) e r)
