use Rattle.std.proofs.Common.{◌≡◌, ◌+◌, ◌<ℤ◌, ◌≤ℤ◌, pos, drop, get_or, subst, arith, rules}
use Rattle.std.specs.Prelude.{List, ℕ}
use Rattle.std.proofs.lemmas.Result.{err_from_is_err_and}
use Rattle.zk_jute.proofs.Turns.{with_front}
use Rattle.zab_epoch.specs.Entries.{last_zxid}
use Rattle.zab_epoch.specs.declared.history.Entry.{Entry}
use Rattle.zab_frames.specs.Reading.{entry_from, entries_at}
use Rattle.zab_frames.proofs.EntryLaws.{next_tag, no_tag, last_pushed, entries_go_on, entries_end, entries_fall, entries_done}
use Rattle.zab_frames.proofs.entries.entries.Goals as goal

pub returns-in_err-txn : goal.returns-in_err-txn
returns-in_err-txn c =
    let front = c.loop-tag.history in
    let tags = c.args.tags.now in
    let at = c.loop-tag.tag-index in
    let bytes = c.loop-tag.input.now in
    let total = entries_at (pos 0) tags c.args.input.now.now in
    let so_far = subst (λ (l : List ℕ). with_front front (entries_at (last_zxid front) l bytes) ≡ total) (next_tag tags at c.loop-tag-test.true) c.loop-tag.invariant in
    let p = err_from_is_err_and c.from_residual.result c.from_residual.ensures.1 in
    rw (p.1, p.2) (entries_end c.in_err-txn.field-0.0 front (last_zxid front) (get_or tags at 0) (drop (at + 1) tags) bytes total c.in_err-txn.ensures.read so_far)

pub loop-tag-preserved : goal.loop-tag-preserved
loop-tag-preserved c =
    let front = c.loop-tag.history in
    let tags = c.args.tags.now in
    let at = c.loop-tag.tag-index in
    let bytes = c.loop-tag.input.now in
    let txn = c.in_ok-txn.txn in
    let total = entries_at (pos 0) tags c.args.input.now.now in
    let so_far = subst (λ (l : List ℕ). with_front front (entries_at (last_zxid front) l bytes) ≡ total) (next_tag tags at c.loop-tag-test.true) c.loop-tag.invariant in
    let above : last_zxid front <ℤ txn.zxid = search rules in
    let entry : Entry = entry_from (get_or tags at 0, txn) in
    let step = entries_go_on front (last_zxid front) (get_or tags at 0) (drop (at + 1) tags) bytes txn c.entry.new.input.now total c.in_ok-txn.ensures.read above so_far in
    rw (c.in_ok-push.ensures.ok, last_pushed front entry) step

pub returns-then-txn-last_zxid : goal.returns-then-txn-last_zxid
returns-then-txn-last_zxid c =
    let front = c.loop-tag.history in
    let tags = c.args.tags.now in
    let at = c.loop-tag.tag-index in
    let bytes = c.loop-tag.input.now in
    let txn = c.in_ok-txn.txn in
    let total = entries_at (pos 0) tags c.args.input.now.now in
    let so_far = subst (λ (l : List ℕ). with_front front (entries_at (last_zxid front) l bytes) ≡ total) (next_tag tags at c.loop-tag-test.true) c.loop-tag.invariant in
    let below : txn.zxid ≤ℤ last_zxid front = search rules in
    entries_fall front (last_zxid front) (get_or tags at 0) (drop (at + 1) tags) bytes txn c.entry.new.input.now total c.in_ok-txn.ensures.read below so_far

pub returns : goal.returns
returns c =
    let front = c.loop-tag.history in
    let tags = c.args.tags.now in
    let at = c.loop-tag.tag-index in
    let bytes = c.loop-tag.input.now in
    let total = entries_at (pos 0) tags c.args.input.now.now in
    let none = no_tag tags at (omega (arith, c.loop-tag-test.false)) in
    entries_done front (last_zxid front) bytes total (subst (λ (l : List ℕ). with_front front (entries_at (last_zxid front) l bytes) ≡ total) none c.loop-tag.invariant)
