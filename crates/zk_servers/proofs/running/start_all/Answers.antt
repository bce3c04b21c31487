use Rattle.std.proofs.Common.{rules, ◌≡◌, ◌++◌, ◌∷◌, [], ℕ, List, length, sym, ap, subst, ◌∙◌, arith}
use Rattle.std.specs.Vec.Iter.{into_iter_items}
use Rattle.std.proofs.lemmas.List.{nil_from_length}
use Rattle.std.specs.declared.thread.PromisedHandle.{PromisedHandle}
use Rattle.zk_servers.specs.declared.serving.Worker.{Worker}
use Rattle.zk_servers.specs.declared.serving.Worked.{Worked}
use Rattle.zk_servers.specs.declared.running.Turns.{Turns}
use Rattle.zk_servers.proofs.Starting.{IsOf, Started, started_more, all_started}
use Rattle.zk_servers.proofs.running.start_all.Goals as goal

pub loop-worker-preserved : goal.loop-worker-preserved
loop-worker-preserved g c =
    let L = g.row.L.Denot in
    let all : List (Worker L) = c.args.workers.items in
    let worker : Worker L = c.in-Some.worker in
    let child : PromisedHandle (Worked L) (Turns L) = c.in-Ok.child in
    let children : List (PromisedHandle (Worked L) (Turns L)) = c.loop-worker.children.items in
    let left : List (Worker L) = into_iter_items c.next.new.self in
    let step : into_iter_items c.loop-worker.worker-iterator ≡ worker ∷ left = search rules in
    let of : child.promise.worker.value ≡ worker = search rules in
    let turns : child.promise.turns ≡ c.args.turns = search rules in
    let was = subst (λ (l : List (Worker L)). Started all c.args.turns l children) step c.loop-worker.invariant.0 in
    let pushed : c.push_reserved.new.self.items ≡ children ++ child ∷ [] = search rules in
    (subst (λ (l : List (PromisedHandle (Worked L) (Turns L))). Started all c.args.turns left l) (sym pushed) (started_more all c.args.turns left children worker child was (of, turns)), search rules)

pub returns : goal.returns
returns g c =
    let L = g.row.L.Denot in
    let all : List (Worker L) = c.args.workers.items in
    let none : into_iter_items c.loop-worker.worker-iterator ≡ [] = nil_from_length (into_iter_items c.loop-worker.worker-iterator) (search (rules, c.in-None.ensures.steps.0)) in
    all_started all c.args.turns c.loop-worker.children.items (subst (λ (l : List (Worker L)). Started all c.args.turns l c.loop-worker.children.items) none c.loop-worker.invariant.0)
