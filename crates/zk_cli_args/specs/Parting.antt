-- Options and flags, with the other words.
use Rattle.std.specs.Prelude.{ℕ, Bool, List, map, Option, option_map}
use Rattle.zk_cli_args.specs.declared.parting.PartedFlag.{PartedFlag}
use Rattle.zk_cli_args.specs.declared.parting.PartedOption.{PartedOption}

abbrev pub shown_option : PartedOption → Option (List ℕ) × List (List ℕ)
shown_option found = (option_map (λ word. word.now) found.value, map (λ word. word.now) found.others.items)

abbrev pub shown_flag : PartedFlag → Bool × List (List ℕ)
shown_flag found = (found.is_there, map (λ word. word.now) found.others.items)
