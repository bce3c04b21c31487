use Rattle.std.proofs.Common.{List, ℕ, ◌==◌, length}
use Rattle.zk_listing.specs.Reading.{path_at}
use Rattle.zk_listing.proofs.QuotedLaws.{path_exact}
use Rattle.zk_request_syntax.specs.Reading.{whole, ended_result}
use Rattle.zk_format.specs.Listings.{IsListedPath}
use Rattle.zk_format.specs.Spelling.{quoted}
use Rattle.zk_line_protocol.proofs.LoneFields.{lone_made, made_itself}
use Rattle.zk_line_protocol.proofs.reading.lone_path.Goals as goal

pub returns : goal.returns
returns c =
    let made = made_itself (ended_result (length c.read_path-read.new.input.now == 0) c.read_path-read.result) (whole (path_at c.args.input.now))
    (lone_made quoted IsListedPath path_at path_exact c.args.input.now (λ path. path) c.read_path-read.result c.read_path-read.new.input.now c.read_path-read.ensures.found c.read_path-read.ensures.only) in
    rw c.alone.ensures made
