-- Words that name a job on a directory name no other.
use Rattle.std.proofs.Common.{◌≡◌, Bool, true, false, ℕ, ℤ, List, [], ◌∷◌, ◌==◌, take, drop, Option, Some, None, IsSome, refl, sym, ap, ◌∙◌, subst, codes, arith, if◌then◌else◌}
use Rattle.std.proofs.lemmas.Slice.Eq.{bytes_eq-Decides}
use Rattle.std.specs.Str.{bytes_eq}
use Rattle.zk_cli_args.specs.Moments.{moment_of}
use Rattle.zk_cli_args.specs.Zxids.{padded}
use Rattle.zk_cli_args.specs.Commands.{Names, NamesBy, ShowsUpto, given_by, given_with, is_option, prompts_of, upto_text, values_of, with_value, without_prompt}
use Rattle.zk_cli_args.specs.Folders.{NamesFolder, NamesFolderBy, NeedsDirectory, SpellsUntil, looked_by}
use Rattle.zk_cli_args.specs.Options.{ValueBeside, behind, found_or, given_beside, option_in, value_behind, value_in}
use Rattle.zk_cli_args.specs.Serving.{NamesServing}
use Rattle.zk_cli_args.specs.declared.command.Order.{Order}
use Rattle.zk_cli_args.specs.declared.command.Order.TheVariants as orders
use Rattle.zk_cli_args.specs.declared.folders.FolderOrder.{FolderOrder}
use Rattle.zk_cli_args.specs.declared.folders.FolderOrder.TheVariants as folder_orders
use Rattle.zk_cli_args.specs.declared.folders.Until.{Until}
use Rattle.zk_cli_args.specs.declared.folders.Until.TheVariants as untils
use Rattle.zk_cli_args.specs.declared.serving.Serving.{Serving}
use Rattle.zk_cli_args.proofs.FolderLaws as folders
use Rattle.zk_cli_args.proofs.GivenLaws as jobs
use Rattle.zk_cli_args.proofs.NamesLaws.{apart}
use Rattle.zk_cli_args.proofs.UntilLaws.{last_is_no_moment, no_moment, one_until}

-- ---- words with `--logs` are no values

abbrev found_in : List (List ℕ) → Option ValueBeside
found_in words = option_in (codes "--logs") (codes "--logs=") words

is_dashed : (word : List ℕ) → take 7 word ≡ codes "--logs=" → is_option word ≡ true
is_dashed [] e = absurd (cc e)
is_dashed (a ∷ []) e = absurd (cc e)
is_dashed (a ∷ b ∷ rest) e = let first : a ≡ 45 = cc e in ap (λ (c : ℕ). c == 45) first

value_dashed : (word : List ℕ) (test : Bool) (value : List ℕ) → bytes_eq (take 7 word) (codes "--logs=") ≡ test → (if test then Some (drop 7 word) else None) ≡ Some value → is_option word ≡ true
value_dashed word true value e f = is_dashed word ((bytes_eq-Decides (take 7 word) (codes "--logs=")).0 e)
value_dashed word false value e f = absurd (cc f)

further_found : (front : List (List ℕ)) (further : Option ValueBeside) (found : ValueBeside) → behind front further ≡ Some found → (it : ValueBeside) × (further ≡ Some it)
further_found front None found e = absurd (cc e)
further_found front (Some it) found e = (it, refl)

abbrev no_list_of_values : Option (List (List ℕ))
no_list_of_values = None

either_none : (test : Bool) → (if test then no_list_of_values else no_list_of_values) ≡ no_list_of_values
either_none true = refl
either_none false = refl

found_at : (word : List ℕ) (rest : List (List ℕ)) (found : ValueBeside) (dashes is : Bool) (value : Option (List ℕ)) → ((it : ValueBeside) → found_in rest ≡ Some it → values_of rest ≡ None)
    → bytes_eq word (codes "--logs") ≡ is → value_in (codes "--logs=") word ≡ value
    → (if dashes then None else (if is then value_behind rest else found_or value word rest (found_in rest))) ≡ Some found → (if dashes then Some rest else (if is_option word then None else with_value word (values_of rest))) ≡ None
found_at word rest found true is value more p q e = absurd (cc e)
found_at word rest found false true value more p q e =
    let same : word ≡ codes "--logs" = (bytes_eq-Decides word (codes "--logs")).0 p in
    let option : is_option word ≡ true = ap is_option same in
    rw option refl
found_at word rest found false false (Some value) more p q e =
    let option : is_option word ≡ true = value_dashed word (bytes_eq (take 7 word) (codes "--logs=")) value refl q in
    rw option refl
found_at word rest found false false None more p q e =
    let further = further_found (word ∷ []) (found_in rest) found e in
    let none : values_of rest ≡ None = more further.0 further.1 in
    rw none (either_none (is_option word))

pub no_values : (words : List (List ℕ)) (found : ValueBeside) → found_in words ≡ Some found → values_of words ≡ None
no_values [] found e = absurd (cc e)
no_values (word ∷ rest) found e =
    found_at word rest found (bytes_eq word (codes "--")) (bytes_eq word (codes "--logs")) (value_in (codes "--logs=") word) (no_values rest) refl refl e

-- ---- the values of a job, and of one on a directory

by_prompt : (kept : Option (List (List ℕ))) (words values : List (List ℕ)) → given_with kept words ≡ Some (false, values) → values_of words ≡ Some values
by_prompt None words values e = (jobs.is_beside false false (values_of words) values e).0
by_prompt (Some kept) words values e = let never : false ≡ true = (jobs.is_beside true false (values_of kept) values e).1 in absurd (cc never)

by_logs : (found : Option ValueBeside) (words values : List (List ℕ)) (logs : Option (List ℕ)) → found_in words ≡ found → given_beside found words ≡ Some (logs, values) → IsSome logs → values_of words ≡ None
by_logs None words values None is e some = let never : false ≡ true = some in absurd (cc never)
by_logs None words values (Some logs) is e some = let never : Some logs ≡ None = (folders.is_beside None (Some logs) (values_of words) values e).1 in absurd (cc never)
by_logs (Some found) words values logs is e some = no_values words found is

by_none : (found : Option ValueBeside) (words values : List (List ℕ)) → given_beside found words ≡ Some (None, values) → values_of words ≡ Some values
by_none None words values e = (folders.is_beside None None (values_of words) values e).0
by_none (Some found) words values e = let never : None ≡ Some found.0 = (folders.is_beside (Some found.0) None (values_of found.1) values e).1 in absurd (cc never)

-- one that prompts for lines has another name
not_both_given : (words values others : List (List ℕ)) (logs : Option (List ℕ)) → given_by words ≡ Some (false, values) → looked_by words ≡ Some (logs, others) → IsSome logs → ⊥
not_both_given words values others logs p q some =
    let is : values_of words ≡ Some values = by_prompt (without_prompt words) words values p in
    let none : values_of words ≡ None = by_logs (found_in words) words others logs refl q some in
    let never : Some values ≡ None = sym is ∙ none in
    cc

same_values : (x y : List (List ℕ)) → Some x ≡ Some y → x ≡ y
same_values x y e = cc

-- ---- a job is none on a directory

no_directory : (upto : Option ℤ) (word : List ℕ) (until : Until) → upto_text upto ≡ padded word → SpellsUntil word until → NeedsDirectory until None → ⊥
no_directory upto word untils.Last e spelled needs = let never : false ≡ true = needs in cc
no_directory upto word (untils.Zxid z) e spelled needs = let never : false ≡ true = needs in cc
no_directory None word (untils.Time t) e spelled needs = last_is_no_moment t (ap moment_of e ∙ spelled)
no_directory (Some z) word (untils.Time t) e spelled needs = no_moment z t (ap moment_of e ∙ spelled)

not_shown : (words values others : List (List ℕ)) (upto : Option ℤ) (input word folder : List ℕ) (until : Until) (logs : Option (List ℕ)) → given_by words ≡ Some (false, values) → looked_by words ≡ Some (logs, others) → ShowsUpto values input upto
    → others ≡ folder ∷ word ∷ [] → SpellsUntil word until → NeedsDirectory until logs → ⊥
not_shown words values others upto input word folder until (Some logs) p q e f spelled needs = not_both_given words values others (Some logs) p q refl
not_shown words values others upto input word folder until None p q e f spelled needs =
    let same : values ≡ others = same_values values others (sym (by_prompt (without_prompt words) words values p) ∙ by_none (found_in words) words others q) in
    let both : input ∷ e.0 ∷ [] ≡ folder ∷ word ∷ [] = sym e.1 ∙ same ∙ f in
    let one : e.0 ≡ word = cc both in
    let text : upto_text upto ≡ padded word = sym e.2 ∙ ap padded one in
    no_directory upto word until text spelled needs

no_files : (values : List (List ℕ)) (o : Order) (i : List ℕ) (s : Option (List ℕ)) (t : List ℕ) → NamesBy (codes "files") values o i s t → ⊥
no_files values (orders.Show u) i s t p = apart (codes "files") (codes "show") 102 115 refl refl (omega arith) p.0
no_files values orders.List i s t p = apart (codes "files") (codes "list") 102 108 refl refl (omega arith) p.0
no_files values orders.Asm i s t p = apart (codes "asm") (codes "files") 97 102 refl refl (omega arith) (sym p.0)
no_files values orders.Mend i s t p = apart (codes "files") (codes "mend") 102 109 refl refl (omega arith) p.0
no_files values orders.Debug i None t p = p
no_files values orders.Debug i (Some s) t p = apart (codes "debug") (codes "files") 100 102 refl refl (omega arith) (sym p.0)
no_files values (orders.Session prompts) i s t p = apart (codes "debug") (codes "files") 100 102 refl refl (omega arith) (sym p.0)
no_files values orders.Run i s t p = apart (codes "files") (codes "run") 102 114 refl refl (omega arith) p.0

no_list : (words values others : List (List ℕ)) (logs : Option (List ℕ)) (o : Order) (i : List ℕ) (s : Option (List ℕ)) (t : List ℕ) → given_by words ≡ Some (prompts_of o, values) → looked_by words ≡ Some (logs, others) → IsSome logs → NamesBy (codes "list") values o i s t → ⊥
no_list words values others logs (orders.Show u) i s t g l some p = apart (codes "list") (codes "show") 108 115 refl refl (omega arith) p.0
no_list words values others logs orders.List i s t g l some p = not_both_given words values others logs g l some
no_list words values others logs orders.Asm i s t g l some p = apart (codes "asm") (codes "list") 97 108 refl refl (omega arith) (sym p.0)
no_list words values others logs orders.Mend i s t g l some p = apart (codes "list") (codes "mend") 108 109 refl refl (omega arith) p.0
no_list words values others logs orders.Debug i None t g l some p = p
no_list words values others logs orders.Debug i (Some s) t g l some p = apart (codes "debug") (codes "list") 100 108 refl refl (omega arith) (sym p.0)
no_list words values others logs (orders.Session prompts) i s t g l some p = apart (codes "debug") (codes "list") 100 108 refl refl (omega arith) (sym p.0)
no_list words values others logs orders.Run i s t g l some p = apart (codes "list") (codes "run") 108 114 refl refl (omega arith) p.0

no_show : (words values others : List (List ℕ)) (logs : Option (List ℕ)) (o : Order) (i : List ℕ) (s : Option (List ℕ)) (t word folder : List ℕ) (until : Until) → given_by words ≡ Some (prompts_of o, values) → looked_by words ≡ Some (logs, others)
    → others ≡ folder ∷ word ∷ [] → SpellsUntil word until → NeedsDirectory until logs → NamesBy (codes "show") values o i s t → ⊥
no_show words values others logs (orders.Show u) i s t word folder until g l f spelled needs p = not_shown words values others u i word folder until logs g l p.1 f spelled needs
no_show words values others logs orders.List i s t word folder until g l f spelled needs p = apart (codes "list") (codes "show") 108 115 refl refl (omega arith) (sym p.0)
no_show words values others logs orders.Asm i s t word folder until g l f spelled needs p = apart (codes "asm") (codes "show") 97 115 refl refl (omega arith) (sym p.0)
no_show words values others logs orders.Mend i s t word folder until g l f spelled needs p = apart (codes "mend") (codes "show") 109 115 refl refl (omega arith) (sym p.0)
no_show words values others logs orders.Debug i None t word folder until g l f spelled needs p = p
no_show words values others logs orders.Debug i (Some s) t word folder until g l f spelled needs p = apart (codes "debug") (codes "show") 100 115 refl refl (omega arith) (sym p.0)
no_show words values others logs (orders.Session prompts) i s t word folder until g l f spelled needs p = apart (codes "debug") (codes "show") 100 115 refl refl (omega arith) (sym p.0)
no_show words values others logs orders.Run i s t word folder until g l f spelled needs p = apart (codes "run") (codes "show") 114 115 refl refl (omega arith) (sym p.0)

no_job_by : (words values others : List (List ℕ)) (name : List ℕ) (o : Order) (i : List ℕ) (s : Option (List ℕ)) (t : List ℕ) (order : FolderOrder) (folder : List ℕ) (logs : Option (List ℕ)) → given_by words ≡ Some (prompts_of o, values) → looked_by words ≡ Some (logs, others)
    → NamesBy name values o i s t → NamesFolderBy name others logs order folder → ⊥
no_job_by words values others name o i s t folder_orders.Files folder logs g l p q = no_files values o i s t (subst (λ (n : List ℕ). NamesBy n values o i s t) q.0 p)
no_job_by words values others name o i s t folder_orders.List folder logs g l p q = no_list words values others logs o i s t g l q.2 (subst (λ (n : List ℕ). NamesBy n values o i s t) q.0 p)
no_job_by words values others name o i s t (folder_orders.Show until) folder logs g l p q = no_show words values others logs o i s t q.0 folder until g l q.2 q.3 q.4 (subst (λ (n : List ℕ). NamesBy n values o i s t) q.1 p)

pub no_folder_job : (words : List (List ℕ)) (o : Order) (i : List ℕ) (s : Option (List ℕ)) (t : List ℕ) (order : FolderOrder) (folder : List ℕ) (logs : Option (List ℕ)) → Names words o i s t → NamesFolder words order folder logs → ⊥
no_folder_job words o i s t order folder logs p q =
    let both : p.program ∷ p.name ∷ p.rest ≡ q.program ∷ q.name ∷ q.rest = sym p.spelled ∙ q.spelled in
    let name : p.name ≡ q.name = cc both in
    let rest : p.rest ≡ q.rest = cc both in
    no_job_by q.rest p.values q.values q.name o i s t order folder logs (subst (λ (r : List (List ℕ)). given_by r ≡ Some (prompts_of o, p.values)) rest p.given) q.given (subst (λ (n : List ℕ). NamesBy n p.values o i s t) name p.named) q.named

-- ---- servers are none either

no_serving_by : (values : List (List ℕ)) (order : FolderOrder) (folder : List ℕ) (logs : Option (List ℕ)) → NamesFolderBy (codes "serve") values logs order folder → ⊥
no_serving_by values folder_orders.Files folder logs p = apart (codes "files") (codes "serve") 102 115 refl refl (omega arith) (sym p.0)
no_serving_by values folder_orders.List folder logs p = apart (codes "list") (codes "serve") 108 115 refl refl (omega arith) (sym p.0)
no_serving_by values (folder_orders.Show until) folder logs p = let e : codes "serve" ≡ codes "show" = p.1 in cc

pub no_folder_serving : (words : List (List ℕ)) (order : FolderOrder) (folder : List ℕ) (logs : Option (List ℕ)) (serving : Serving) → NamesFolder words order folder logs → NamesServing words serving → ⊥
no_folder_serving words order folder logs serving p q =
    let both : p.program ∷ p.name ∷ p.rest ≡ q.program ∷ codes "serve" ∷ q.rest = sym p.spelled ∙ q.spelled in
    let name : p.name ≡ codes "serve" = cc both in
    no_serving_by p.values order folder logs (subst (λ (n : List ℕ). NamesFolderBy n p.values logs order folder) name p.named)

-- ---- one directory, and one of logs

abbrev pub IsSameFolder : FolderOrder → List ℕ → Option (List ℕ) → FolderOrder → List ℕ → Option (List ℕ) → Type 0
IsSameFolder order folder logs order' folder' logs' = (order ≡ order') × (folder ≡ folder') × (logs ≡ logs')

same_by : (name : List ℕ) (values : List (List ℕ)) (logs : Option (List ℕ)) (o o' : FolderOrder) (f f' : List ℕ) → NamesFolderBy name values logs o f → NamesFolderBy name values logs o' f' → (o ≡ o') × (f ≡ f')
same_by name values logs folder_orders.Files folder_orders.Files f f' p q =
    let both : f ∷ [] ≡ f' ∷ [] = sym p.1 ∙ q.1 in
    (refl, cc both)
same_by name values logs folder_orders.List folder_orders.List f f' p q =
    let both : f ∷ [] ≡ f' ∷ [] = sym p.1 ∙ q.1 in
    (refl, cc both)
same_by name values logs (folder_orders.Show u) (folder_orders.Show v) f f' p q =
    let both : f ∷ p.0 ∷ [] ≡ f' ∷ q.0 ∷ [] = sym p.2 ∙ q.2 in
    let word : q.0 ≡ p.0 = cc both in
    (ap folder_orders.Show (one_until p.0 u v p.3 (subst (λ (w : List ℕ). SpellsUntil w v) word q.3)), cc both)
same_by name values logs folder_orders.Files folder_orders.List f f' p q = absurd (apart (codes "files") (codes "list") 102 108 refl refl (omega arith) (sym p.0 ∙ q.0))
same_by name values logs folder_orders.List folder_orders.Files f f' p q = absurd (apart (codes "files") (codes "list") 102 108 refl refl (omega arith) (sym q.0 ∙ p.0))
same_by name values logs folder_orders.Files (folder_orders.Show v) f f' p q = absurd (apart (codes "files") (codes "show") 102 115 refl refl (omega arith) (sym p.0 ∙ q.1))
same_by name values logs (folder_orders.Show u) folder_orders.Files f f' p q = absurd (apart (codes "files") (codes "show") 102 115 refl refl (omega arith) (sym q.0 ∙ p.1))
same_by name values logs folder_orders.List (folder_orders.Show v) f f' p q = absurd (apart (codes "list") (codes "show") 108 115 refl refl (omega arith) (sym p.0 ∙ q.1))
same_by name values logs (folder_orders.Show u) folder_orders.List f f' p q = absurd (apart (codes "list") (codes "show") 108 115 refl refl (omega arith) (sym q.0 ∙ p.1))

same_given : (x y : Option (List ℕ) × List (List ℕ)) → Some x ≡ Some y → x ≡ y
same_given x y e = cc

pub same_folder : (words : List (List ℕ)) (o o' : FolderOrder) (f f' : List ℕ) (l l' : Option (List ℕ)) → NamesFolder words o f l → NamesFolder words o' f' l' → IsSameFolder o f l o' f' l'
same_folder words o o' f f' l l' p q =
    let both : p.program ∷ p.name ∷ p.rest ≡ q.program ∷ q.name ∷ q.rest = sym p.spelled ∙ q.spelled in
    let name : q.name ≡ p.name = cc both in
    let rest : q.rest ≡ p.rest = cc both in
    let given = same_given (l', q.values) (l, p.values) (sym q.given ∙ ap looked_by rest ∙ p.given) in
    let logs : l' ≡ l = ap (λ (x : Option (List ℕ) × List (List ℕ)). x.0) given in
    let values : q.values ≡ p.values = ap (λ (x : Option (List ℕ) × List (List ℕ)). x.1) given in
    let of_logs : NamesFolderBy q.name q.values l o' f' = subst (λ (m : Option (List ℕ)). NamesFolderBy q.name q.values m o' f') logs q.named in
    let of_values : NamesFolderBy q.name p.values l o' f' = subst (λ (v : List (List ℕ)). NamesFolderBy q.name v l o' f') values of_logs in
    let named : NamesFolderBy p.name p.values l o' f' = subst (λ (n : List ℕ). NamesFolderBy n p.values l o' f') name of_values in
    let same = same_by p.name p.values l o o' f f' p.named named in
    (same.0, same.1, sym logs)
