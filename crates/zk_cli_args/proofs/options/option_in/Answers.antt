use Rattle.std.proofs.Common.{◌≡◌, ℕ, List, Option, None, Bor, get_or, option_map, sym, ap, ◌∙◌}
use Rattle.zk_cli_args.specs.Options.{option_in, value_in}
use Rattle.zk_cli_args.proofs.OptionLaws.{one_on}
use Rattle.zk_cli_args.proofs.WordsLaws.{no_word, texts}
use Rattle.zk_cli_args.proofs.options.option_in.Goals as goal

pub loop-rest-preserved : goal.loop-rest-preserved
loop-rest-preserved c =
    let rest = c.loop-rest.rest.now in
    let name = c.args.name.now in
    let prefix = c.args.prefix.now in
    let none : value_in prefix (get_or rest 0 no_word).now ≡ None = sym c.value_in.ensures ∙ ap (λ (found : Option (Bor (List ℕ))). option_map (λ (value : Bor (List ℕ)). value.now) found) c.in_default-value_in.is in
    one_on name prefix c.loop-rest.front.items c.push.new.self.items rest (option_in name prefix (texts c.args.words.now)) c.in-len1-up.len_at_least c.in_ok-push.ensures.items c.if-eq.ensures c.if-eq-2.ensures none c.loop-rest.invariant
