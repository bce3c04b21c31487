-- The servers that the words after the command's name name.
use Rattle.std.proofs.Common.{◌≡◌, ℕ, List, Option, Some, None, refl, sym, ap, ◌∙◌, subst, option_map, codes}
use Rattle.zk_cli_args.specs.Commands.{values_of}
use Rattle.zk_cli_args.specs.Options.{ValueBeside, given_beside, option_in}
use Rattle.zk_cli_args.specs.Serving.{ReadsServersOf, ReadsServingBehind, SpellsConnections, SpellsWithin}
use Rattle.zk_cli_args.specs.declared.serving.Serving.{Serving}

-- a count, with the values
abbrev beside : Option (List ℕ) → Option (List (List ℕ)) → Option (Option (List ℕ) × List (List ℕ))
beside count given = option_map (λ values. (count, values)) given

same_pair : (x y : Option (List ℕ) × List (List ℕ)) → Some x ≡ Some y → x ≡ y
same_pair x y e = cc

is_beside : (count asked : Option (List ℕ)) (given : Option (List (List ℕ))) (values : List (List ℕ)) → beside count given ≡ Some (asked, values) → (given ≡ Some values) × (asked ≡ count)
is_beside count asked None values e = absurd (cc e)
is_beside count asked (Some found) values e =
    let same = same_pair (count, found) (asked, values) e in
    (ap Some (ap (λ (x : Option (List ℕ) × List (List ℕ)). x.1) same), sym (ap (λ (x : Option (List ℕ) × List (List ℕ)). x.0) same))

taken : (count : Option (List ℕ)) (connections : ℕ) (given : Option (List (List ℕ))) (words : List (List ℕ)) (read : Option Serving) → given_beside (option_in (codes "--conns") (codes "--conns=") words) words ≡ beside count given → SpellsConnections count connections
    → ReadsServersOf given 2 connections read → ReadsServingBehind words read
taken count connections given words (Some serving) e spelled r = record {
  count = count;
  values = r.0;
  given = e ∙ ap (λ (found : Option (List (List ℕ))). beside count found) r.1;
  named = r.2;
  connections = subst (λ (n : ℕ). SpellsConnections count n) (sym r.3) spelled;
}
taken count connections given words None e spelled r = λ serving named.
    r named.values serving (is_beside count named.count given named.values (sym e ∙ named.given)).0 named.named

pub plain_serving : (words : List (List ℕ)) (read : Option Serving) → option_in (codes "--conns") (codes "--conns=") words ≡ None → ReadsServersOf (values_of words) 2 1 read → ReadsServingBehind words read
plain_serving words read e r = taken None 1 (values_of words) words read (ap (λ (told : Option ValueBeside). given_beside told words) e) refl r

pub counted_serving : (words : List (List ℕ)) (count : List ℕ) (others : List (List ℕ)) (connections : ℕ) (read : Option Serving) → option_in (codes "--conns") (codes "--conns=") words ≡ Some (count, others) → SpellsWithin 0 4294967295 count connections
    → ReadsServersOf (values_of others) 2 connections read → ReadsServingBehind words read
counted_serving words count others connections read e spelled r = taken (Some count) connections (values_of others) words read (ap (λ (told : Option ValueBeside). given_beside told words) e) spelled r

pub uncounted : (words : List (List ℕ)) (count : List ℕ) (others : List (List ℕ)) → option_in (codes "--conns") (codes "--conns=") words ≡ Some (count, others) → ((n : ℕ) → SpellsWithin 0 4294967295 count n → ⊥) → ReadsServingBehind words None
uncounted words count others e none = λ serving named.
    let given = is_beside (Some count) named.count (values_of others) named.values (sym (ap (λ (told : Option ValueBeside). given_beside told words) e) ∙ named.given) in
    none serving.connections (subst (λ (c : Option (List ℕ)). SpellsConnections c serving.connections) given.1 named.connections)
