-- One request is sorted.
use Rattle.std.proofs.Common.{◌∙◌, ◌++◌, sym, ap, append_assoc}
use Rattle.std.specs.Vec.Iter.{into_iter_items}
use Rattle.zk_hub.specs.Sorting.{reply_now, kept_now, still_ready, replies_from, kept_from}
use Rattle.zk_hub.proofs.hub.split_ready.Goals as goal

pub loop-request-preserved : goal.loop-request-preserved
loop-request-preserved g c =
    let connection = c.args.connection in
    let rest = into_iter_items c.next.new.self in
    let request = c.in-Some.request in
    let ready = c.loop-request.ready in
    record {
      replies =
          ap (λ front. front ++ replies_from c.in_ok-ready.ready connection rest) c.in_ok-ready.ensures.replies
          ∙ ap (λ it. (c.loop-request.replies.items ++ reply_now ready connection request) ++ replies_from it connection rest) c.in_ok-ready.ensures.ready
          ∙ append_assoc c.loop-request.replies.items (reply_now ready connection request) (replies_from (still_ready ready connection request) connection rest)
          ∙ ap (λ items. c.loop-request.replies.items ++ replies_from ready connection items) (sym c.in-Some.ensures.steps.0)
          ∙ c.loop-request.invariant.replies;
      rest =
          ap (λ front. front ++ kept_from c.in_ok-ready.ready connection rest) c.in_ok-ready.ensures.rest
          ∙ ap (λ it. (c.loop-request.rest.items ++ kept_now ready connection request) ++ kept_from it connection rest) c.in_ok-ready.ensures.ready
          ∙ append_assoc c.loop-request.rest.items (kept_now ready connection request) (kept_from (still_ready ready connection request) connection rest)
          ∙ ap (λ items. c.loop-request.rest.items ++ kept_from ready connection items) (sym c.in-Some.ensures.steps.0)
          ∙ c.loop-request.invariant.rest;
    }
