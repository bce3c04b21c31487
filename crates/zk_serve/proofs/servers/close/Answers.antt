-- A rejected chronicle, by the seats and receipts that were closed.
use Rattle.std.proofs.Common.{rules}
use Rattle.zk_serve.proofs.ClosesLaws.{miscounts, mismatches}
use Rattle.zk_serve.proofs.servers.close.Goals as goal

pub returns-in-Count : goal.returns-in-Count
returns-in-Count g c =
    miscounts c.in-Err.unclosed.board.records _ c.push.new.self.items _ c.append.new.self.items c.args.ended.served c.in-Err.unclosed.fault
    (search rules) (search rules) (search rules) c.in-Err.ensures.refused

pub returns-in-Receipt : goal.returns-in-Receipt
returns-in-Receipt g c =
    mismatches c.in-Err.unclosed.board.records _ c.push.new.self.items _ c.append.new.self.items c.args.ended.served c.in-Err.unclosed.fault
    c.in-Receipt.at (search rules) (search rules) (search rules) c.in-Err.ensures.refused
