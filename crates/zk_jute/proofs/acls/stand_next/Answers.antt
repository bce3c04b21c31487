use Rattle.std.proofs.Common.{◌≡◌, refl, ◌∙◌, sym, ap, length, take, ◌+◌, ◌-◌, ◌++◌, ◌∷◌, [], Ok}
use Rattle.std.proofs.lemmas.List.{take_all, take_more}
use Rattle.zk_jute.specs.Reading.{many_at, acl_at}
use Rattle.zk_jute.proofs.Turns.{goes_on, is_done, with_front}
use Rattle.zk_jute.proofs.acls.stand_next.Goals as goal

pub loop-entry-preserved : goal.loop-entry-preserved
loop-entry-preserved c =
    let entries = c.args.entries.now in
    let i = c.loop-entry.entry-index in
    let one : take (i + 1) entries ≡ take i entries ++ c.entry-item.result ∷ [] = take_more entries i c.entry-item.result c.loop-entry-test.true ∙ ap (λ entry. take i entries ++ entry ∷ []) (sym c.entry-item.is) in
    ap (λ front. with_front front (many_at acl_at (length entries - (i + 1)) c.stands_next.new.input.now)) one
    ∙ goes_on acl_at (take i entries) (length entries) i c.loop-entry.input.now c.entry-item.result c.stands_next.new.input.now (many_at acl_at (length entries) c.args.input.now.now) c.loop-entry-test.true (c.if-not-stands_next.ensures refl) c.loop-entry.invariant

pub returns : goal.returns
returns c = λ _.
    is_done acl_at (take c.loop-entry.entry-index c.args.entries.now) (length c.args.entries.now) c.loop-entry.entry-index c.loop-entry.input.now (many_at acl_at (length c.args.entries.now) c.args.input.now.now) c.loop-entry-test.false c.loop-entry.invariant
    ∙ ap (λ entries. Ok (entries, c.loop-entry.input.now)) (take_all c.loop-entry.entry-index c.args.entries.now c.loop-entry-test.false)
