use Rattle.std.proofs.Common.{ap, ◌++◌, ◌∙◌}
use Rattle.std.specs.String.{string_bytes}
use Rattle.std.proofs.lemmas.List.{flat_map_more}
use Rattle.zk_format.specs.Listings.{line_of}
use Rattle.zk_log_commands.proofs.list.ListSinkTxnSink.take.Goals as goal

pub returns : goal.returns
returns c = λ start txns t.
    c.in_ok-spell_line.ensures ∙ ap (λ l. l ++ line_of c.args.txn) t ∙ flat_map_more line_of (string_bytes start.text) txns c.args.txn
