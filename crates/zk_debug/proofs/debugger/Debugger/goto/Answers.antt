use Rattle.std.proofs.Common.{◌≡◌, length, take, ap, ◌∙◌, w64}
use Rattle.std.proofs.lemmas.Int.{to_z-of_z}
use Rattle.zk_debug.specs.Debugging.{Debugging, up_to}
use Rattle.zk_debug.specs.Walks.{Walk}
use Rattle.zk_debug.specs.declared.stop.Stop.{Stop}
use Rattle.zk_debug.proofs.Hits.{first_up_to}
use Rattle.zk_debug.proofs.debugger.Debugger.goto.Goals as goal

pub returns-clause-rising : goal.returns-clause-rising
returns-clause-rising c last rising =
    let place : c.stop.result.place ≡ length (up_to c.args.zxid c.args.self.now.txns) =
    ap (λ (s : Stop). s.place) c.stop.ensures
    ∙ ap (λ (w : Walk). w.place) c.in_ok-go_to.ensures.moved
    ∙ c.count_up_to-place.ensures.count
    ∙ ap (λ zxid. length (up_to zxid c.self.inside.walk.txns)) (to_z-of_z w64 c.args.zxid c.ranges.zxid)
    ∙ ap (λ (d : Debugging). length (up_to c.args.zxid d.txns)) c.self.view_is in
    ap (λ n. take n c.args.self.now.txns) place ∙ first_up_to c.args.zxid last c.args.self.now.txns rising
