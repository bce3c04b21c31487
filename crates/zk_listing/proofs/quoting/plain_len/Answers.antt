use Rattle.std.proofs.Common.{ap, length, ◌∙◌}
use Rattle.std.specs.Option.{unwrap_or}
use Rattle.zk_listing.proofs.InsideQuotes.{plain-unwrap_or}
use Rattle.zk_listing.proofs.quoting.plain_len.Goals as goal

pub returns : goal.returns
returns c =
    c.unwrap_or.ensures ∙ ap (λ o. unwrap_or o (length c.args.bytes.now)) c.first_escaped.ensures ∙ plain-unwrap_or c.args.bytes.now
