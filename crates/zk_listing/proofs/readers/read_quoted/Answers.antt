use Rattle.std.specs.Str.{IsUtf8}
use Rattle.std.specs.String.{string_bytes}
use Rattle.zk_format.specs.Spelling.{quoted}
use Rattle.zk_listing.specs.Reading.{quoted_at}
use Rattle.zk_listing.proofs.QuotedLaws.{quoted_exact}
use Rattle.zk_listing.proofs.ReaderLaws.{moved_found, moved_only}
use Rattle.zk_listing.proofs.readers.read_quoted.Goals as goal

pub returns-clause-found : goal.returns-clause-found
returns-clause-found c = moved_found (λ x. string_bytes x) quoted IsUtf8 quoted_at quoted_exact c.quoted-read.result c.move_on.result c.args.input.now.now c.quoted-read.new.input.now c.move_on.new.input.now c.move_on.ensures.same c.move_on.ensures.moved c.quoted-read.ensures

pub returns-clause-only : goal.returns-clause-only
returns-clause-only c = moved_only (λ x. string_bytes x) quoted IsUtf8 quoted_at quoted_exact c.quoted-read.result c.move_on.result c.args.input.now.now c.quoted-read.new.input.now c.move_on.new.input.now c.move_on.ensures.same c.move_on.ensures.moved c.quoted-read.ensures
