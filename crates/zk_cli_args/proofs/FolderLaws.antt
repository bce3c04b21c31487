-- The job on a data directory that words name.
use Rattle.std.proofs.Common.{◌≡◌, ℕ, List, ◌∷◌, Option, Some, None, refl, sym, ap, ◌∙◌, subst, option_map, codes}
use Rattle.zk_cli_args.specs.Commands.{values_of}
use Rattle.zk_cli_args.specs.Folders.{NamesFolderBy, ReadsFolder, ReadsFolderBehind, ReadsFolderBy, ReadsFolderGiven, logs_of, looked_by}
use Rattle.zk_cli_args.specs.Options.{ValueBeside, given_beside, option_in}
use Rattle.zk_cli_args.specs.declared.folders.FolderJob.{FolderJob}

-- ---- values

same_values : (x y : List (List ℕ)) → Some x ≡ Some y → x ≡ y
same_values x y e = cc

pub of_values : (name : List ℕ) (given : Option (List (List ℕ))) (values : List (List ℕ)) (logs : Option (List ℕ)) (read : Option FolderJob) → given ≡ Some values → ReadsFolderBy name values logs read → ReadsFolderGiven name given logs read
of_values name given values logs (Some job) e r = (values, e, r.0, r.1)
of_values name given values logs None e r = λ others order folder f named.
    let same : others ≡ values = same_values others values (sym f ∙ e) in
    r order folder (subst (λ (v : List (List ℕ)). NamesFolderBy name v logs order folder) same named)

-- ---- the directory of the logs

abbrev beside : Option (List ℕ) → Option (List (List ℕ)) → Option (Option (List ℕ) × List (List ℕ))
beside logs given = option_map (λ values. (logs, values)) given

same_pair : (x y : Option (List ℕ) × List (List ℕ)) → Some x ≡ Some y → x ≡ y
same_pair x y e = cc

pub is_beside : (logs asked : Option (List ℕ)) (given : Option (List (List ℕ))) (values : List (List ℕ)) → beside logs given ≡ Some (asked, values) → (given ≡ Some values) × (asked ≡ logs)
is_beside logs asked None values e = absurd (cc e)
is_beside logs asked (Some found) values e =
    let same = same_pair (logs, found) (asked, values) e in
    (ap Some (ap (λ (x : Option (List ℕ) × List (List ℕ)). x.1) same), sym (ap (λ (x : Option (List ℕ) × List (List ℕ)). x.0) same))

taken : (name : List ℕ) (logs : Option (List ℕ)) (given : Option (List (List ℕ))) (words : List (List ℕ)) (read : Option FolderJob) → looked_by words ≡ beside logs given → ReadsFolderGiven name given logs read → ReadsFolderBehind name words read
taken name logs given words (Some job) e r =
    let asked : beside logs given ≡ Some (logs_of job, r.0) = rw (r.1, r.3) refl in
    (r.0, e ∙ asked, subst (λ (l : Option (List ℕ)). NamesFolderBy name r.0 l job.order job.folder.now) (sym r.3) r.2)
taken name logs given words None e r = λ values order folder asked f named.
    let both = is_beside logs asked given values (sym e ∙ f) in
    r values order folder both.0 (subst (λ (l : Option (List ℕ)). NamesFolderBy name values l order folder) both.1 named)

pub plain_folder : (name : List ℕ) (words : List (List ℕ)) (read : Option FolderJob) → option_in (codes "--logs") (codes "--logs=") words ≡ None → ReadsFolderGiven name (values_of words) None read → ReadsFolderBehind name words read
plain_folder name words read e r = taken name None (values_of words) words read (ap (λ (found : Option ValueBeside). given_beside found words) e) r

pub folder_with_logs : (name : List ℕ) (words : List (List ℕ)) (logs : List ℕ) (others : List (List ℕ)) (read : Option FolderJob) → option_in (codes "--logs") (codes "--logs=") words ≡ Some (logs, others) → ReadsFolderGiven name (values_of others) (Some logs) read → ReadsFolderBehind name words read
folder_with_logs name words logs others read e r = taken name (Some logs) (values_of others) words read (ap (λ (found : Option ValueBeside). given_beside found words) e) r

-- ---- the name

pub named_folder : (words : List (List ℕ)) (program name : List ℕ) (rest : List (List ℕ)) (read : Option FolderJob) → words ≡ program ∷ name ∷ rest → ReadsFolderBehind name rest read → ReadsFolder words read
named_folder words program name rest (Some job) e r = record { program = program; name = name; rest = rest; values = r.0; spelled = e; given = r.1; named = r.2 }
named_folder words program name rest None e r = λ order folder logs names.
    let both : program ∷ name ∷ rest ≡ names.program ∷ names.name ∷ names.rest = sym e ∙ names.spelled in
    let same_name : names.name ≡ name = cc both in
    let same_rest : names.rest ≡ rest = cc both in
    r names.values order folder logs (subst (λ (l : List (List ℕ)). looked_by l ≡ Some (logs, names.values)) same_rest names.given)
    (subst (λ (n : List ℕ). NamesFolderBy n names.values logs order folder) same_name names.named)
