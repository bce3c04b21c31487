use Rattle.std.proofs.Common.{rules, ◌≡◌, ◌++◌, ◌∷◌, [], true, false, ℕ, List, take, ◌+◌, sym, ap, subst, ◌∙◌, arith}
use Rattle.std.specs.Vec.Iter.{into_iter_items}
use Rattle.zk_servers.proofs.Turning.{length_zero}
use Rattle.zk_model.specs.declared.event.Event.{Event}
use Rattle.zk_servers.specs.declared.record.Receipt.{Receipt}
use Rattle.zk_servers.specs.declared.calls.Made.{Made}
use Rattle.zk_servers.specs.Calls.{made}
use Rattle.zk_servers.proofs.Turning.{Busy, busy_first, busy_made, busy_passed, jobs_done, turned_by}
use Rattle.zk_servers.proofs.serving.serve.Goals as goal

pub loop-job-init : goal.loop-job-init
loop-job-init g c =
    let before : List Made = c.args.worker.seat in
    let jobs : List Event = take c.args.turns c.args.worker.jobs.items in
    let left : into_iter_items c.into_iter-job-iterator.result ≡ jobs = search rules in
    let none : c.new-receipts.result.items ≡ [] = c.new-receipts.ensures.items in
    subst (λ (l : List Event). Busy jobs before l before c.new-receipts.result.items 0 0) (sym left)
    (subst (λ (r : List Receipt). Busy jobs before jobs before r 0 0) (sym none) (busy_first jobs before))

pub loop-job-preserved-then-not-call_once : goal.loop-job-preserved-then-not-call_once
loop-job-preserved-then-not-call_once g c =
    let before : List Made = c.args.worker.seat in
    let jobs : List Event = take c.args.turns c.args.worker.jobs.items in
    let was = c.loop-job in
    let job : Event = c.in-Some.job in
    let left : List Event = into_iter_items c.next.new.self in
    let step : into_iter_items was.job-iterator ≡ job ∷ left = search rules in
    let no = c.call_once.ensures.refused c.if-not-call_once.true in
    subst (λ (s : List Made). Busy jobs before left s c.call_once.new.receipts.items (was.passed + 1) (was.turn + 1)) (sym no.1)
    (subst (λ (r : List Receipt). Busy jobs before left was.seat r (was.passed + 1) (was.turn + 1)) (sym no.0)
    (busy_passed jobs before left was.seat was.receipts.items was.passed was.turn job (subst (λ (l : List Event). Busy jobs before l was.seat was.receipts.items was.passed was.turn) step was.invariant)))

pub loop-job-preserved : goal.loop-job-preserved
loop-job-preserved g c =
    let before : List Made = c.args.worker.seat in
    let jobs : List Event = take c.args.turns c.args.worker.jobs.items in
    let was = c.loop-job in
    let job : Event = c.in-Some.job in
    let left : List Event = into_iter_items c.next.new.self in
    let step : into_iter_items was.job-iterator ≡ job ∷ left = search rules in
    let yes = c.call_once.ensures.made c.if-not-call_once.false in
    let call = made yes.0.number job in
    subst (λ (s : List Made). Busy jobs before left s c.call_once.new.receipts.items was.passed (was.turn + 1)) (sym yes.2)
    (subst (λ (r : List Receipt). Busy jobs before left (was.seat ++ call ∷ []) r was.passed (was.turn + 1)) (sym yes.1)
    (busy_made jobs before left was.seat was.receipts.items was.passed was.turn job yes.0 (subst (λ (l : List Event). Busy jobs before l was.seat was.receipts.items was.passed was.turn) step was.invariant)))

pub loop-turn-init : goal.loop-turn-init
loop-turn-init g c =
    let before : List Made = c.args.worker.seat in
    let all : List Event = c.args.worker.jobs.items in
    let was = c.loop-job in
    let none : into_iter_items was.job-iterator ≡ [] = length_zero (into_iter_items was.job-iterator) (search (rules, c.in-None.ensures.steps.0)) in
    jobs_done all c.args.turns before was.seat was.receipts.items was.passed was.turn
    (subst (λ (l : List Event). Busy (take c.args.turns all) before l was.seat was.receipts.items was.passed was.turn) none was.invariant)

pub loop-turn-preserved : goal.loop-turn-preserved
loop-turn-preserved g c =
    let call = c.call_once-in-loop-turn in
    turned_by c.args.worker.jobs.items c.args.turns c.args.worker.seat c.loop-turn.seat c.loop-turn.receipts.items c.loop-job.passed c.in-Some-next.message
    call.new.seat call.new.receipts.items call.result c.loop-turn.invariant call.ensures.made call.ensures.refused
