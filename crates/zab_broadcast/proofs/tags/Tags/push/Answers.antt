use Rattle.std.proofs.Common.{rules, ◌≡◌, ◌∙◌, ap, cond, length, Some, true, false}
use Rattle.std.specs.BTreeMap.{get, is_at}
use Rattle.std.specs.Option.{is_some}
use Rattle.std.specs.Ordering.{nat_cmp}
use Rattle.zab_broadcast.proofs.Places.{taken_again, newly_taken}
use Rattle.zab_broadcast.proofs.tags.Tags.push.Goals as goal
use Rattle.zab_broadcast.proofs.tags.Tags.push.Goals.{then-not-contains_key+in_ok-insert, else-not-contains_key}

pub invariant_of-self-2 : goal.invariant_of-self-2
invariant_of-self-2 c =
    let tags = c.self.inside.tags.items in
    let places = c.self.inside.places in
    let tag = c.args.tag in
    elim c.if-not-contains_key.branch [
      | then-not-contains_key+in_ok-insert w ↦
          (let free : is_some (get nat_cmp places tag) ≡ false = search rules in
          let all : w.len.result ≡ length tags = search rules in
          rw (c.push_reserved.ensures.items, w.self-inside-is, c.reserve.ensures.items)
          (newly_taken places w.insert.new.self tags tag c.self.invariant free
          (λ q. w.in_ok-insert.ensures.updates.0 q ∙ ap (λ v. cond (is_at (nat_cmp tag) q) (Some v) (get nat_cmp places q)) all)))
      | else-not-contains_key w ↦
          (let old : is_some (get nat_cmp places tag) ≡ true = search rules in
          rw (c.push_reserved.ensures.items, w.self-inside-is, c.reserve.ensures.items) (taken_again places tags tag c.self.invariant old))
    ]
