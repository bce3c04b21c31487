use Rattle.std.specs.Str.{IsUtf8}
use Rattle.std.specs.String.{string_bytes}
use Rattle.zk_listing.specs.Reading.{quoted_at}
use Rattle.zk_listing.proofs.QuotedLaws.{quoted_exact}
use Rattle.zk_format.specs.Spelling.{quoted}
use Rattle.zk_line_protocol.proofs.LoneFields.{lone_made}
use Rattle.zk_line_protocol.proofs.reading.lone_string.Goals as goal

pub returns : goal.returns
returns c =
    let made = lone_made quoted IsUtf8 quoted_at quoted_exact c.args.input.now (λ text. string_bytes text) c.read_quoted-read.result c.read_quoted-read.new.input.now c.read_quoted-read.ensures.found c.read_quoted-read.ensures.only in
    rw c.alone.ensures made
