use Rattle.std.proofs.Common.{◌-◌, rules}
use Rattle.zk_peers.proofs.Unchanged.{kept}
use Rattle.zk_peers.proofs.places.end_record.Goals as goal

pub returns : goal.returns
returns g c =
    kept c.args.places.now (c.args.server - 1) c.index_mut.result.now c.end_record.new.self c.index_mut.ensures.value c.end_record.ensures
