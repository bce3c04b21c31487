-- A command line names at most one job, on files or on a directory, or one set of servers.
use Rattle.std.proofs.Common.{◌≡◌, false, ℕ, ◌<◌, ◌≤◌, ◌^◌, List, [], ◌∷◌, Option, Some, None, refl, sym, ap, ◌∙◌, subst, codes, arith}
use Rattle.std.proofs.lemmas.Fmt.{decimal_injective}
use Rattle.zk_cli_args.specs.Commands.{Names, NamesBy, NamesNoJob, script_of}
use Rattle.zk_cli_args.specs.Folders.{NamesNoFolder, logs_of}
use Rattle.zk_cli_args.specs.Comparing.{words_of_compare}
use Rattle.zk_cli_args.specs.Ensembles.{NamesEnsemble, NamesEnsembleBehind, ReadsEnsemble}
use Rattle.zk_cli_args.specs.Incidents.{words_of_history}
use Rattle.zk_cli_args.specs.Lines.{IsAsked, IsSeveral, NamesCommand, NamesEnsembleBy, NamesOnly, ReadsRecorded, ReadsRecordedBy, file_of, name_of}
use Rattle.zk_cli_args.specs.Options.{ValueBeside, record_of}
use Rattle.zk_cli_args.specs.Sessions.{words_of_sessions}
use Rattle.zk_cli_args.specs.Verifying.{words_of_verify}
use Rattle.zk_cli_args.specs.Serving.{NamesBehind, NamesNoServing, NamesServers, NamesServing, SpellsConnections, SpellsWithin}
use Rattle.zk_cli_args.specs.declared.command.Order.{Order}
use Rattle.zk_cli_args.specs.declared.command.Order.TheVariants as orders
use Rattle.zk_cli_args.specs.declared.serving.Serving.{Serving}
use Rattle.zk_cli_args.specs.declared.commands.Command.{Command}
use Rattle.zk_cli_args.specs.declared.commands.Command.TheVariants as commands
use Rattle.zk_cli_args.specs.declared.ensemble.Ensemble.{Ensemble}
use Rattle.zk_cli_args.specs.declared.ensemble_job.EnsembleJob.{EnsembleJob}
use Rattle.zk_cli_args.proofs.DirectoryLaws.{no_folder_job, no_folder_serving, same_folder}
use Rattle.zk_cli_args.proofs.KindLaws.{compare_name, diff_name, history_name, is_known, no_debug_folder, no_debug_serving, no_known_folder, no_known_job, no_known_serving, restore_name, session_name, sessions_name, snapshot_name, top_name, verify_name}
use Rattle.zk_cli_args.proofs.NamesLaws.{apart, same_named}

same_given : (x y : Option (List ℕ) × List (List ℕ)) → Some x ≡ Some y → x ≡ y
same_given x y e = cc

-- ---- servers are not a job

no_job : (values : List (List ℕ)) (o : Order) (i : List ℕ) (s : Option (List ℕ)) (t : List ℕ) → NamesBy (codes "serve") values o i s t → ⊥
no_job values (orders.Show u) i s t p = let e : codes "serve" ≡ codes "show" = p.0 in cc
no_job values orders.List i s t p = apart (codes "list") (codes "serve") 108 115 refl refl (omega arith) (sym p.0)
no_job values orders.Asm i s t p = apart (codes "asm") (codes "serve") 97 115 refl refl (omega arith) (sym p.0)
no_job values orders.Mend i s t p = apart (codes "mend") (codes "serve") 109 115 refl refl (omega arith) (sym p.0)
no_job values orders.Debug i None t p = p
no_job values orders.Debug i (Some s) t p = apart (codes "debug") (codes "serve") 100 115 refl refl (omega arith) (sym p.0)
no_job values (orders.Session prompts) i s t p = apart (codes "debug") (codes "serve") 100 115 refl refl (omega arith) (sym p.0)
no_job values orders.Run i s t p = apart (codes "run") (codes "serve") 114 115 refl refl (omega arith) (sym p.0)

not_both : (words : List (List ℕ)) (o : Order) (i : List ℕ) (s : Option (List ℕ)) (t : List ℕ) (serving : Serving) → Names words o i s t → NamesServing words serving → ⊥
not_both words o i s t serving p q =
    let both : p.program ∷ p.name ∷ p.rest ≡ q.program ∷ codes "serve" ∷ q.rest = sym p.spelled ∙ q.spelled in
    let name : p.name ≡ codes "serve" = cc both in
    no_job p.values o i s t (subst (λ (n : List ℕ). NamesBy n p.values o i s t) name p.named)

-- ---- one port, one number of servers, one number of connections

one_number : (least most : ℕ) (word : List ℕ) (m n : ℕ) → most < 2 ^ 64 → SpellsWithin least most word m → SpellsWithin least most word n → m ≡ n
one_number least most word m n small p q =
    let left : m ≤ most = p.few in
    let right : n ≤ most = q.few in
    decimal_injective m n (omega arith) (omega arith) (sym p.spelled ∙ q.spelled)

one_count : (count : Option (List ℕ)) (m n : ℕ) → SpellsConnections count m → SpellsConnections count n → m ≡ n
one_count None m n p q = p ∙ sym q
one_count (Some word) m n p q = one_number 0 4294967295 word m n (omega arith) p q

one_serving : (a b : Serving) → a.port ≡ b.port → a.servers ≡ b.servers → a.connections ≡ b.connections → a ≡ b
one_serving a b p q r =
    ap (λ (n : ℕ). record a { port = n }) p
    ∙ ap (λ (n : ℕ). record a { port = b.port; servers = n }) q
    ∙ ap (λ (n : ℕ). record a { port = b.port; servers = b.servers; connections = n }) r

same_servers : (values : List (List ℕ)) (a b : Serving) → NamesServers 2 values a → NamesServers 2 values b → (a.port ≡ b.port) × (a.servers ≡ b.servers)
same_servers values a b p q =
    let both : p.port ∷ p.servers ∷ [] ≡ q.port ∷ q.servers ∷ [] = sym p.two ∙ q.two in
    let port : q.port ≡ p.port = cc both in
    let servers : q.servers ≡ p.servers = cc both in (
      one_number 1 65535 p.port a.port b.port (omega arith) p.is_port (subst (λ (w : List ℕ). SpellsWithin 1 65535 w b.port) port q.is_port),
      one_number 2 15 p.servers a.servers b.servers (omega arith) p.are_servers (subst (λ (w : List ℕ). SpellsWithin 2 15 w b.servers) servers q.are_servers),
    )

same_behind : (words : List (List ℕ)) (a b : Serving) → NamesBehind words a → NamesBehind words b → a ≡ b
same_behind words a b p q =
    let given = same_given (q.count, q.values) (p.count, p.values) (sym q.given ∙ p.given) in
    let count : q.count ≡ p.count = ap (λ (x : Option (List ℕ) × List (List ℕ)). x.0) given in
    let values : q.values ≡ p.values = ap (λ (x : Option (List ℕ) × List (List ℕ)). x.1) given in
    let servers = same_servers p.values a b p.named (subst (λ (v : List (List ℕ)). NamesServers 2 v b) values q.named) in
    let connections = one_count p.count a.connections b.connections p.connections (subst (λ (w : Option (List ℕ)). SpellsConnections w b.connections) count q.connections) in
    one_serving a b servers.0 servers.1 connections

same_serving : (words : List (List ℕ)) (a b : Serving) → NamesServing words a → NamesServing words b → a ≡ b
same_serving words a b p q =
    let both : p.program ∷ codes "serve" ∷ p.rest ≡ q.program ∷ codes "serve" ∷ q.rest = sym p.spelled ∙ q.spelled in
    let rest : q.rest ≡ p.rest = cc both in
    same_behind p.rest a b p.named (subst (λ (r : List (List ℕ)). NamesBehind r b) rest q.named)

-- ---- a command line

-- a command whose name no job, directory or servers have
pub names_other : (words : List (List ℕ)) (command : Command) (name : List ℕ) → name_of words ≡ name → is_known name ≡ false → NamesCommand words command → NamesOnly words command
names_other words command name e unknown p = record {
  names = p;
  job = λ o i s t q. absurd (no_known_job words o i s t name e unknown q);
  folder = λ o f l q. absurd (no_known_folder words o f l name e unknown q);
  serving = λ serving q. absurd (no_known_serving words serving name e unknown q);
}

ensemble_only : (words : List (List ℕ)) (job : EnsembleJob) (file : Option (List ℕ)) → file_of job ≡ file → NamesEnsembleBy words file job.ensemble → NamesOnly words (commands.Ensemble job)
ensemble_only words job None e p =
    names_other words (commands.Ensemble job) (codes "ensemble") (ap name_of p.spelled) refl (subst (λ (f : Option (List ℕ)). NamesEnsembleBy words f job.ensemble) (sym e) p)
ensemble_only words job (Some file) e p = record {
  names = subst (λ (f : Option (List ℕ)). NamesEnsembleBy words f job.ensemble) (sym e) p;
  job = λ o i s t q. absurd (p.1 o i s t q);
  folder = λ o f l q. absurd (p.2 o f l q);
  serving = λ serving q. absurd (p.3 serving q);
}

pub names_only : (words : List (List ℕ)) (command : Command) → NamesCommand words command → NamesOnly words command
names_only words (commands.Act job) p = record {
  names = p;
  job = λ o i s t q. same_named words o job.order i job.input.now s (script_of job) t job.output.now q p;
  folder = λ o f l q. no_folder_job words job.order job.input.now (script_of job) job.output.now o f l p q;
  serving = λ serving q. not_both words job.order job.input.now (script_of job) job.output.now serving p q;
}
names_only words (commands.Look job) p = record {
  names = p;
  job = λ o i s t q. no_folder_job words o i s t job.order job.folder.now (logs_of job) q p;
  folder = λ o f l q. same_folder words o job.order f job.folder.now l (logs_of job) q p;
  serving = λ serving q. no_folder_serving words job.order job.folder.now (logs_of job) serving p q;
}
names_only words (commands.Serve it) p = record {
  names = p;
  job = λ o i s t q. not_both words o i s t it q p;
  folder = λ o f l q. no_folder_serving words o f l it q p;
  serving = λ serving q. same_serving words serving it q p;
}
names_only words (commands.Debug it) p = record {
  names = p;
  job = λ o i s t q. absurd (p.2 o i s t q);
  folder = λ o f l q. absurd (no_debug_folder words o f l (ap name_of p.0.spelled) q);
  serving = λ serving q. absurd (no_debug_serving words serving (ap name_of p.0.spelled) q);
}
names_only words (commands.History job) p = names_other words (commands.History job) (codes "history") (history_name words (words_of_history job) p) refl p
names_only words (commands.Top job) p = names_other words (commands.Top job) (codes "top") (top_name words p.given p.parted) refl p
names_only words (commands.Sessions job) p = names_other words (commands.Sessions job) (codes "sessions") (sessions_name words (words_of_sessions job) p) refl p
names_only words (commands.Session job) p = names_other words (commands.Session job) (codes "session") (session_name words p.given p.parted) refl p
names_only words (commands.Compare job) p = names_other words (commands.Compare job) (codes "compare") (compare_name words (words_of_compare job) p) refl p
names_only words (commands.Verify job) p = names_other words (commands.Verify job) (codes "verify") (verify_name words (words_of_verify job) p) refl p
names_only words (commands.Diff job) p = names_other words (commands.Diff job) (codes "diff") (diff_name words p.given p.parted) refl p
names_only words (commands.Restore job) p = names_other words (commands.Restore job) (codes "restore") (restore_name words p.given p.parted) refl p
names_only words (commands.Snapshot job) p = names_other words (commands.Snapshot job) (codes "snapshot") (snapshot_name words p.given p.parted) refl p
names_only words (commands.Ensemble job) p = ensemble_only words job (file_of job) refl p

pub asked_named : (words : List (List ℕ)) (command : Command) → IsAsked words command → NamesCommand words command
asked_named words (commands.Act job) p = absurd p
asked_named words (commands.Look job) p = absurd p
asked_named words (commands.Debug it) p = absurd p
asked_named words (commands.Serve it) p = absurd p
asked_named words (commands.Ensemble job) p = absurd p
asked_named words (commands.History job) p = p
asked_named words (commands.Top job) p = p
asked_named words (commands.Sessions job) p = p
asked_named words (commands.Session job) p = p
asked_named words (commands.Compare job) p = p
asked_named words (commands.Verify job) p = p
asked_named words (commands.Diff job) p = p
asked_named words (commands.Restore job) p = p
asked_named words (commands.Snapshot job) p = p

pub recorded_named : (words : List (List ℕ)) (job : EnsembleJob) → ReadsRecorded words (Some job) → NamesNoJob words → NamesNoFolder words → NamesNoServing words → NamesCommand words (commands.Ensemble job)
recorded_named words job p no_job no_folder no_serving =
    subst (λ (f : Option (List ℕ)). NamesEnsembleBy words f job.ensemble) (sym p.1) (p.2, no_job, no_folder, no_serving)

-- ---- an ensemble's record

same_found : (x y : ValueBeside) → Some x ≡ Some y → x ≡ y
same_found x y e = cc

pub recorded : (words others : List (List ℕ)) (file : List ℕ) (read : Option EnsembleJob) → record_of words ≡ Some (file, others) → ReadsRecordedBy file others read → ReadsRecorded words read
recorded words others file (Some job) e r = (file, r.0, record { others = others; found = e; named = r.1; several = r.2 })
recorded words others file None e r = λ asked it names.
    let found = same_found (file, others) (asked, names.others) (sym e ∙ names.found) in
    let same : others ≡ names.others = ap (λ (x : ValueBeside). x.1) found in
    r it (subst (λ (w : List (List ℕ)). NamesEnsemble w it) (sym same) names.named) names.several

pub not_recorded : (words : List (List ℕ)) → record_of words ≡ None → ReadsRecorded words None
not_recorded words e = λ file it names. absurd (cc (sym e ∙ names.found))

same_count : (values : List (List ℕ)) (a b : Serving) → NamesServers 1 values a → NamesServers 1 values b → a.servers ≡ b.servers
same_count values a b p q =
    let both : p.port ∷ p.servers ∷ [] ≡ q.port ∷ q.servers ∷ [] = sym p.two ∙ q.two in
    let servers : q.servers ≡ p.servers = cc both in
    one_number 1 15 p.servers a.servers b.servers (omega arith) p.are_servers (subst (λ (w : List ℕ). SpellsWithin 1 15 w b.servers) servers q.are_servers)

same_size : (words : List (List ℕ)) (a b : Ensemble) → NamesEnsemble words a → NamesEnsemble words b → a.serving.servers ≡ b.serving.servers
same_size words a b p q =
    let both : p.program ∷ codes "ensemble" ∷ p.rest ≡ q.program ∷ codes "ensemble" ∷ q.rest = sym p.spelled ∙ q.spelled in
    let rest : q.rest ≡ p.rest = cc both in
    let named : NamesEnsembleBehind p.rest b = subst (λ (r : List (List ℕ)). NamesEnsembleBehind r b) rest q.named in
    let left = p.named.others.others.others.others in
    let right = named.others.others.others.others in
    let values : right.values ≡ left.values = cc (sym right.given ∙ left.given) in
    same_count left.values a.serving b.serving left.named (subst (λ (v : List (List ℕ)). NamesServers 1 v b.serving) values right.named)

-- one server has no record
pub of_several : (file : List ℕ) (words : List (List ℕ)) (it : Ensemble) (read : Option EnsembleJob) → ReadsEnsemble words (Some it) → IsSeveral file it read → ReadsRecordedBy file words read
of_several file words it (Some job) named r =
    (r.0, subst (λ (e : Ensemble). NamesEnsemble words e) (sym r.1) named, subst (λ (e : Ensemble). 1 < e.serving.servers) (sym r.1) r.2)
of_several file words it None named few = λ other names several.
    let same : it.serving.servers ≡ other.serving.servers = same_size words it other named names in
    omega (arith, few, several, same)

pub no_ensemble : (file : List ℕ) (words : List (List ℕ)) → ReadsEnsemble words None → ReadsRecordedBy file words None
no_ensemble file words none = λ it names several. none it names
