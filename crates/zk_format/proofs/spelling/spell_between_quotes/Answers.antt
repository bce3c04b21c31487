use Rattle.std.proofs.Common.{◌≡◌, false, sym, ◌∙◌, ap, ◌++◌}
use Rattle.std.proofs.lemmas.Iterator.{YieldsList-from_chars}
use Rattle.std.proofs.lemmas.Iterator.Consumers.{YieldsList-end}
use Rattle.std.proofs.lemmas.List.{map-id}
use Rattle.std.specs.List.{flat_map, list_any}
use Rattle.std.specs.Str.{chars}
use Rattle.std.specs.String.{string_bytes}
use lib.Utf8.{encode}
use Rattle.zk_format.specs.Spelling.{escaped, is_escaped}
use Rattle.zk_format.proofs.QuotedBytes.{nothing_escaped}
use Rattle.zk_format.proofs.spelling.spell_between_quotes.Goals as goal

pub returns-then-not-has_escaped : goal.returns-then-not-has_escaped
returns-then-not-has_escaped c =
    let none : list_any is_escaped c.args.text.now ≡ false = sym c.has_escaped.ensures ∙ c.if-not-has_escaped.true in
    c.in_ok-push_str.ensures.bytes ∙ ap (λ l. string_bytes c.args.line.now ++ l) (sym (nothing_escaped c.args.text.now c.utf8.text none))

pub returns : goal.returns
unfolding encode
returns c =
    let ended = YieldsList-end (YieldsList-from_chars c.args.text.now c.utf8.text cc) c.loop-c.yielded _ c.loop-c.yielded_by _ _ c.in-None.is c.next.ensures.steps in
    let all : c.loop-c.yielded ≡ chars c.args.text.now = sym (map-id c.loop-c.yielded) ∙ ended.0 in
    c.loop-c.invariant ∙ ap (λ cs. string_bytes c.args.line.now ++ flat_map escaped cs) all
