use Rattle.std.specs.Str.{IsUtf8}
use Rattle.std.specs.String.{string_bytes}
use Rattle.zk_listing.specs.Reading.{quoted_at}
use Rattle.zk_listing.proofs.QuotedLaws.{quoted_exact}
use Rattle.zk_format.specs.Spelling.{quoted}
use Rattle.zk_request_syntax.specs.Reading.{text_field_at}
use Rattle.zk_request_syntax.proofs.Ended.{takes_ended}
use Rattle.zk_request_syntax.proofs.fields.string.Goals as goal

pub returns : goal.returns
unfolding text_field_at
returns c =
    let found = takes_ended (λ text. string_bytes text) quoted IsUtf8 quoted_at quoted_exact c.args.input.now.now c.read_quoted-read.result c.read_quoted-read.new.input.now c.read_quoted-read.ensures.found c.read_quoted-read.ensures.only in
    rw c.ended.ensures found
