use Rattle.std.proofs.Common.{◌≡◌, rules}
use Rattle.hex.specs.Hex.{encode_lower}
use Rattle.zk_format.proofs.HexBytes.{digits_utf8}
use Rattle.zk_format.proofs.spelling.push_piece.Goals as goal

pub from_utf8_unchecked-requires : goal.from_utf8_unchecked-requires
from_utf8_unchecked-requires c =
    let same : c.write_digits.new.digits ≡ encode_lower c.args.piece.now = search rules in
    rw same (digits_utf8 c.args.piece.now)
