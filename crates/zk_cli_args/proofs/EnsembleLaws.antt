-- The ensemble that words name.
use Rattle.std.proofs.Common.{◌≡◌, ◌∙◌, ℕ, ◌<◌, ◌≤◌, ◌-◌, Bool, true, false, List, [], ◌∷◌, Bor, get_or, take, drop, length, Option, Some, None, Result, Ok, Err, IfOk, refl, sym, ap, subst, codes, arith, option_map}
use Rattle.std.proofs.lemmas.List.{take_all}
use Rattle.zk_cli_args.specs.Ensembles.{NamesBound, NamesEnding, NamesEnsemble, NamesEnsembleBehind, NamesLimited, NamesPlain, ReadsBound, ReadsEnsemble, ReadsEnsembleBehind, ReadsEnsembleNamed, ReadsLimited, ReadsPlain, ReadsStored, SpellsMost, bind_of, bound, directory_of, ending, flag_or, limited, stored, value_or}
use Rattle.zk_cli_args.specs.Commands.{values_of}
use Rattle.zk_cli_args.specs.Options.{ValueBeside, flag_in, option_in}
use Rattle.zk_cli_args.specs.Serving.{NamesServers, ReadsServersOf, SpellsWithin}
use Rattle.zk_cli_args.specs.declared.ensemble.Ensemble.{Ensemble}
use Rattle.zk_cli_args.specs.declared.serving.Serving.{Serving}
use Rattle.zk_cli_args.proofs.WordsLaws.{no_word, texts}

named_behind : (words : List (List ℕ)) (program name : List ℕ) (rest : List (List ℕ)) (read : Option Ensemble) → words ≡ program ∷ name ∷ rest → ReadsEnsembleNamed name rest read → ReadsEnsemble words read
named_behind words program name rest (Some it) e r =
    record { program = program; rest = rest; spelled = e ∙ ap (λ (n : List ℕ). program ∷ n ∷ rest) r.0; named = r.1 }
named_behind words program name rest None e r = λ it names.
    let both : program ∷ name ∷ rest ≡ names.program ∷ codes "ensemble" ∷ names.rest = sym e ∙ names.spelled in
    let same_name : name ≡ codes "ensemble" = cc both in
    let same_rest : names.rest ≡ rest = cc both in
    r it same_name (subst (λ (l : List (List ℕ)). NamesEnsembleBehind l it) same_rest names.named)

pub if_named : {E : Type 0} (name : List ℕ) (words : List (List ℕ)) (read : Result (Option Ensemble) E) → name ≡ codes "ensemble" → IfOk read (λ it. ReadsEnsembleBehind words it) → IfOk read (λ it. ReadsEnsembleNamed name words it)
if_named name words (Ok (Some it)) e r = (e, r)
if_named name words (Ok None) e r = λ it same. r it
if_named name words (Err fault) e r = tt

-- after the names of the program and the command
pub from_words : {E : Type 0} (words : List (Bor (List ℕ))) (read : Result (Option Ensemble) E) → 2 ≤ length words → IfOk read (λ it. ReadsEnsembleNamed (get_or words 1 no_word).now (texts (take (length words - 2) (drop 2 words))) it)
    → IfOk read (λ it. ReadsEnsemble (texts words) it)
from_words words (Err fault) some r = tt
from_words [] (Ok found) some r = absurd (omega (arith, some))
from_words (program ∷ []) (Ok found) some r = absurd (omega (arith, some))
from_words (program ∷ name ∷ words) (Ok found) some r =
    let rest : take (length (program ∷ name ∷ words) - 2) words ≡ words = take_all (length (program ∷ name ∷ words) - 2) words (omega arith) in
    named_behind (texts (program ∷ name ∷ words)) program.now name.now (texts words) found refl (subst (λ (l : List (Bor (List ℕ))). ReadsEnsembleNamed name.now (texts l) found) rest r)

-- ---- the directory

stores : (place : Option (List ℕ)) (words others : List (List ℕ)) (read : Option Ensemble) → stored words ≡ (place, others) → ReadsStored place others read → ReadsEnsembleBehind words read
stores place words others (Some it) e r = record {
  place = r.0 ∙ sym (ap (λ (given : Option (List ℕ) × List (List ℕ)). given.0) e);
  others = subst (λ (given : Option (List ℕ) × List (List ℕ)). NamesBound given.1 it) (sym e) r.1;
}
stores place words others None e r = λ it names. r it (subst (λ (given : Option (List ℕ) × List (List ℕ)). NamesBound given.1 it) e names.others)

pub unstored : (words : List (List ℕ)) (read : Option Ensemble) → option_in (codes "--data") (codes "--data=") words ≡ None → ReadsStored None words read → ReadsEnsembleBehind words read
unstored words read e r = stores None words words read (ap (λ (found : Option ValueBeside). value_or found words) e) r

pub is_stored : (words : List (List ℕ)) (place : List ℕ) (others : List (List ℕ)) (read : Option Ensemble) → option_in (codes "--data") (codes "--data=") words ≡ Some (place, others) → ReadsStored (Some place) others read → ReadsEnsembleBehind words read
is_stored words place others read e r = stores (Some place) words others read (ap (λ (found : Option ValueBeside). value_or found words) e) r

-- the directory is no part of what the other words name
with_data : (place : Option (Bor (List ℕ))) (words : List (List ℕ)) (it : Ensemble) → NamesBound words it → NamesBound words (record it { directory = place })
with_data place words it names = record {
  address = names.address;
  others = record {
    most = names.others.most;
    others = record {
      flag = names.others.others.flag;
      others = record { values = names.others.others.others.values; given = names.others.others.others.given; named = names.others.others.others.named };
    };
  };
}

pub has_data : (before : Option (List ℕ)) (place : Bor (List ℕ)) (words : List (List ℕ)) (it : Ensemble) → ReadsStored before words (Some it) → ReadsStored (Some place.now) words (Some (record it { directory = Some place }))
has_data before place words it r = (refl, with_data (Some place) words it r.1)

pub has_no_address : (before : Option (List ℕ)) (place : List ℕ) (words : List (List ℕ)) → ReadsStored before words None → ReadsStored (Some place) words None
has_no_address before place words r = r

-- ---- the address

binds : (bind : Option (List ℕ)) (words others : List (List ℕ)) (read : Option Ensemble) → bound words ≡ (bind, others) → ReadsBound bind others read → ReadsStored None words read
binds bind words others (Some it) e r = (
  r.0,
  record {
    address = r.1 ∙ sym (ap (λ (given : Option (List ℕ) × List (List ℕ)). given.0) e);
    others = subst (λ (given : Option (List ℕ) × List (List ℕ)). NamesLimited given.1 it) (sym e) r.2;
  },
)
binds bind words others None e r = λ it names. r it (subst (λ (given : Option (List ℕ) × List (List ℕ)). NamesLimited given.1 it) e names.others)

pub unbound : (words : List (List ℕ)) (read : Option Ensemble) → option_in (codes "--bind") (codes "--bind=") words ≡ None → ReadsBound None words read → ReadsStored None words read
unbound words read e r = binds None words words read (ap (λ (found : Option ValueBeside). value_or found words) e) r

pub is_bound : (words : List (List ℕ)) (bind : List ℕ) (others : List (List ℕ)) (read : Option Ensemble) → option_in (codes "--bind") (codes "--bind=") words ≡ Some (bind, others) → ReadsBound (Some bind) others read → ReadsStored None words read
is_bound words bind others read e r = binds (Some bind) words others read (ap (λ (found : Option ValueBeside). value_or found words) e) r

-- ---- the limit

limits : (bind count : Option (List ℕ)) (most : ℕ) (words others : List (List ℕ)) (read : Option Ensemble) → limited words ≡ (count, others) → SpellsMost count most → ReadsLimited bind most others read → ReadsBound bind words read
limits bind count most words others (Some it) e spelled r = (
  r.0,
  r.1,
  record {
    most = subst (λ (given : Option (List ℕ) × List (List ℕ)). SpellsMost given.0 it.serving.connections) (sym e) (subst (λ (n : ℕ). SpellsMost count n) (sym r.2) spelled);
    others = subst (λ (given : Option (List ℕ) × List (List ℕ)). NamesEnding given.1 it) (sym e) r.3;
  },
)
limits bind count most words others None e spelled r = λ it names. r it (subst (λ (given : Option (List ℕ) × List (List ℕ)). NamesEnding given.1 it) e names.others)

pub unlimited : (bind : Option (List ℕ)) (words : List (List ℕ)) (read : Option Ensemble) → option_in (codes "--max-connections") (codes "--max-connections=") words ≡ None → ReadsLimited bind 1000 words read → ReadsBound bind words read
unlimited bind words read e r = limits bind None 1000 words words read (ap (λ (found : Option ValueBeside). value_or found words) e) refl r

pub is_limited : (bind : Option (List ℕ)) (words : List (List ℕ)) (count : List ℕ) (others : List (List ℕ)) (most : ℕ) (read : Option Ensemble) → option_in (codes "--max-connections") (codes "--max-connections=") words ≡ Some (count, others)
    → SpellsWithin 1 4294967295 count most → ReadsLimited bind most others read → ReadsBound bind words read
is_limited bind words count others most read e spelled r = limits bind (Some count) most words others read (ap (λ (found : Option ValueBeside). value_or found words) e) spelled r

pub has_no_limit : (bind : Option (List ℕ)) (words : List (List ℕ)) (count : List ℕ) (others : List (List ℕ)) → option_in (codes "--max-connections") (codes "--max-connections=") words ≡ Some (count, others)
    → ((n : ℕ) → SpellsWithin 1 4294967295 count n → ⊥) → ReadsBound bind words None
has_no_limit bind words count others e none = λ it names.
    none it.serving.connections (subst (λ (found : Option ValueBeside). SpellsMost (value_or found words).0 it.serving.connections) e names.most)

-- ---- the flag

flags : (bind : Option (List ℕ)) (most : ℕ) (flag : Bool) (words others : List (List ℕ)) (read : Option Ensemble) → ending words ≡ (flag, others) → ReadsPlain bind most flag others read → ReadsLimited bind most words read
flags bind most flag words others (Some it) e r = (
  r.0,
  r.1,
  r.2,
  record {
    flag = r.3 ∙ sym (ap (λ (given : Bool × List (List ℕ)). given.0) e);
    others = subst (λ (given : Bool × List (List ℕ)). NamesPlain given.1 it) (sym e) r.4;
  },
)
flags bind most flag words others None e r = λ it names. r it (subst (λ (given : Bool × List (List ℕ)). NamesPlain given.1 it) e names.others)

pub unflagged : (bind : Option (List ℕ)) (most : ℕ) (words : List (List ℕ)) (read : Option Ensemble) → flag_in (codes "--until-eof") words ≡ None → ReadsPlain bind most false words read → ReadsLimited bind most words read
unflagged bind most words read e r = flags bind most false words words read (ap (λ (found : Option (List (List ℕ))). flag_or found words) e) r

pub is_flagged : (bind : Option (List ℕ)) (most : ℕ) (words others : List (List ℕ)) (read : Option Ensemble) → flag_in (codes "--until-eof") words ≡ Some others → ReadsPlain bind most true others read → ReadsLimited bind most words read
is_flagged bind most words others read e r = flags bind most true words others read (ap (λ (found : Option (List (List ℕ))). flag_or found words) e) r

-- ---- the values

pub is_plain : (bind : Option (List ℕ)) (most : ℕ) (words : List (List ℕ)) (it : Ensemble) → directory_of it ≡ None → bind_of it ≡ bind → ReadsServersOf (values_of words) 1 most (Some it.serving) → ReadsPlain bind most it.until_eof words (Some it)
is_plain bind most words it none e r = (none, e, r.3, refl, record { values = r.0; given = r.1; named = r.2 })

pub has_no_servers : (bind : Option (List ℕ)) (most : ℕ) (until_eof : Bool) (words : List (List ℕ)) → ReadsServersOf (values_of words) 1 most None → ReadsPlain bind most until_eof words None
has_no_servers bind most until_eof words r = λ it names. r names.values it.serving names.given names.named
