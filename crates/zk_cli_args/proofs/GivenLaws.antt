-- The job of a command's name and all words after it.
use Rattle.std.proofs.Common.{◌≡◌, Bool, true, false, ℕ, List, ◌∷◌, Option, Some, None, refl, sym, ap, ◌∙◌, subst, option_map}
use Rattle.zk_cli_args.specs.Commands.{NamesBy, ReadsBehind, ReadsGiven, ReadsJob, given_by, given_with, prompts_of, values_of, without_prompt}
use Rattle.zk_cli_args.specs.declared.command.Job.{Job}

-- whether prompts are on, with the values
abbrev beside : Bool → Option (List (List ℕ)) → Option (Bool × List (List ℕ))
beside prompts given = option_map (λ values. (prompts, values)) given

same_pair : (x y : Bool × List (List ℕ)) → Some x ≡ Some y → x ≡ y
same_pair x y e = cc

pub is_beside : (prompts asked : Bool) (given : Option (List (List ℕ))) (values : List (List ℕ)) → beside prompts given ≡ Some (asked, values) → (given ≡ Some values) × (asked ≡ prompts)
is_beside prompts asked None values e = absurd (cc e)
is_beside prompts asked (Some found) values e =
    let same = same_pair (prompts, found) (asked, values) e in
    (ap Some (ap (λ (x : Bool × List (List ℕ)). x.1) same), sym (ap (λ (x : Bool × List (List ℕ)). x.0) same))

taken : (name : List ℕ) (prompts : Bool) (given : Option (List (List ℕ))) (words : List (List ℕ)) (read : Option Job) → given_by words ≡ beside prompts given → ReadsGiven name prompts given read → ReadsBehind name words read
taken name prompts given words (Some job) e r =
    let asked : beside prompts given ≡ Some (prompts_of job.order, r.0) = rw (r.1, r.2) refl in
    (r.0, e ∙ asked, r.3)
taken name prompts given words None e r = λ values order input script output f named.
    let both = is_beside prompts (prompts_of order) given values (sym e ∙ f) in
    r values order input script output both.0 both.1 named

pub plain_behind : (name : List ℕ) (words : List (List ℕ)) (read : Option Job) → without_prompt words ≡ None → ReadsGiven name false (values_of words) read → ReadsBehind name words read
plain_behind name words read e r = taken name false (values_of words) words read (ap (λ kept. given_with kept words) e) r

pub prompted_behind : (name : List ℕ) (words kept : List (List ℕ)) (read : Option Job) → without_prompt words ≡ Some kept → ReadsGiven name true (values_of kept) read → ReadsBehind name words read
prompted_behind name words kept read e r = taken name true (values_of kept) words read (ap (λ kept. given_with kept words) e) r

pub named_behind : (words : List (List ℕ)) (program name : List ℕ) (rest : List (List ℕ)) (read : Option Job) → words ≡ program ∷ name ∷ rest → ReadsBehind name rest read → ReadsJob words read
named_behind words program name rest (Some job) e r = record { program = program; name = name; rest = rest; values = r.0; spelled = e; given = r.1; named = r.2 }
named_behind words program name rest None e r = λ order input script output names.
    let both : program ∷ name ∷ rest ≡ names.program ∷ names.name ∷ names.rest = sym e ∙ names.spelled in
    let same_name : names.name ≡ name = cc both in
    let same_rest : names.rest ≡ rest = cc both in
    r names.values order input script output (subst (λ (l : List (List ℕ)). given_by l ≡ Some (prompts_of order, names.values)) same_rest names.given)
    (subst (λ (n : List ℕ). NamesBy n names.values order input script output) same_name names.named)
