use Rattle.std.proofs.Common.{rules, ◌≡◌, ◌≢◌, ◌+◌, ◌-◌, ◌∙◌, sym, length, get_or, Some}
use Rattle.zab_broadcast.specs.Places.{place_from}
use Rattle.zab_broadcast.proofs.Places.{last_gone, last_kept}
use Rattle.zab_broadcast.proofs.tags.Tags.drop_last.Goals as goal
use Rattle.zab_broadcast.proofs.tags.Tags.drop_last.Goals.{then-is_first_at, else-is_first_at}

pub invariant_of-self : goal.invariant_of-self
invariant_of-self c =
    let tags = c.self.inside.tags.items in
    let places = c.self.inside.places in
    let n = c.len-last.result - 1 in
    let tag = c.index.result.now in
    let all : n + 1 ≡ length tags = search rules in
    let is : tag ≡ get_or tags n tag = search rules in
    elim c.if-is_first_at.branch [
      | then-is_first_at w ↦
          (let here : place_from 0 tag tags ≡ Some n = search rules in
          rw (c.truncate.ensures.items, w.self-inside-is)
          (last_gone places w.remove.new.self tags n tag c.self.invariant all is (c.self.invariant tag ∙ here) (λ q. w.remove.ensures.updates.0 q)))
      | else-is_first_at w ↦
          (let there : place_from 0 tag tags ≢ Some n = search rules in
          rw (c.truncate.ensures.items, w.self-inside-is)
          (last_kept places tags n tag c.self.invariant all is (λ here. there (sym (c.self.invariant tag) ∙ here))))
    ]
