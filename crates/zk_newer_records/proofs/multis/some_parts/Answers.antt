use Rattle.std.proofs.Common.{◌≡◌, ◌-◌, ◌+◌, ◌∷◌, ◌++◌, [], ap, ◌∙◌, length-append, arith, Ok}
use Rattle.std.proofs.lemmas.Result.{err_from_is_err_and}
use Rattle.zk_jute.specs.Reading.{many_at, made_of}
use Rattle.zk_jute.proofs.Turns.{with_front, goes_on, ends, is_done}
use Rattle.zk_newer_records.specs.NewerRecords.{paired}
use Rattle.zk_newer_records.specs.Reading.{newer_part_at, multi_of}
use Rattle.zk_newer_records.proofs.Forms.{both_paired}
use Rattle.zk_newer_records.proofs.Turns.{paired_more, made_fails}
use Rattle.zk_newer_records.proofs.multis.some_parts.Goals as goal

pub returns-in_err-sub : goal.returns-in_err-sub
returns-in_err-sub c =
    let p = err_from_is_err_and c.from_residual.result c.from_residual.ensures.1 in
    let read = many_at newer_part_at c.args.count c.args.input.now.now in
    rw (p.1, p.2) (made_fails c.in_err-sub.field-0.0 multi_of read (ends newer_part_at c.in_err-sub.field-0.0 (paired c.loop.parts.items c.loop.forms.items) c.args.count c.loop.counter c.loop.input.now read c.loop-test.true c.in_err-sub.ensures c.loop.invariant.so_far))

pub loop-preserved : goal.loop-preserved
loop-preserved c =
    let subs = c.loop.parts.items in
    let forms = c.loop.forms.items in
    let part = c.in_ok-sub.field-0 in
    let one = c.in_ok-push.ensures.items in
    let two = c.in_ok-push-2.ensures.items in
    let more = paired_more subs forms part c.loop.invariant.as_many in
    let pairs : paired c.push.new.self.items c.push-in-loop.new.self.items ≡ paired subs forms ++ part ∷ [] = rw (one, two) more in
    record {
      so_far =
          ap (λ front. with_front front (many_at newer_part_at (c.args.count - (c.loop.counter + 1)) c.part.new.input.now)) pairs
          ∙ goes_on newer_part_at (paired subs forms) c.args.count c.loop.counter c.loop.input.now part c.part.new.input.now (many_at newer_part_at c.args.count c.args.input.now.now) c.loop-test.true c.in_ok-sub.ensures c.loop.invariant.so_far;
      as_many = rw (one, two) (omega (arith, length-append subs (part.sub ∷ []), length-append forms (part.form ∷ []), c.loop.invariant.as_many));
    }

pub returns : goal.returns
returns c =
    let subs = c.loop.parts.items in
    let forms = c.loop.forms.items in
    let read = many_at newer_part_at c.args.count c.args.input.now.now in
    rw (c.new.ensures, c.new-2.ensures) (ap (made_of multi_of) (is_done newer_part_at (paired subs forms) c.args.count c.loop.counter c.loop.input.now read c.loop-test.false c.loop.invariant.so_far) ∙ ap (λ made. Ok (made, c.loop.input.now)) (both_paired subs forms c.loop.invariant.as_many))
