use Rattle.std.proofs.Common.{refl}
use Rattle.std.proofs.lemmas.Result.{on_ok_weaker}
use Rattle.json.specs.Json.{null}
use Rattle.zk_json.proofs.changes.push_side.Goals as goal

pub returns-in-None : goal.returns-in-None
returns-in-None c = rw c.in-None.is (on_ok_weaker c.push_null.result (λ e. (null, refl, e)) c.push_null.ensures)
