use Rattle.std.proofs.Common.{◌-◌, ◌*◌, Bool, ap, arith, inl, refl, subst, length, ◌∙◌}
use Rattle.std.specs.Prelude.{IsTrue}
use Rattle.zk_store.proofs.Blocks.{block_length}
use Rattle.zk_store.proofs.BookFiles.{both_there, replaced_first, replaced_second, selects, stored_left}
use Rattle.zk_store.proofs.book_storing.replace.Goals as goal

pub returns-in_err-block-clause-any_crash : goal.returns-in_err-block-clause-any_crash
returns-in_err-block-clause-any_crash g c = λ clean file left.
    let stored = c.requires.stored clean in
    inl (stored_left (g.D.Disk.seen c.args.disk.now) file c.args.held.now.slot c.args.held.now.book c.requires.slot stored.long stored.slot stored.book (stored.durable file left))

pub returns-in_err-write_and_sync-clause-any_crash : goal.returns-in_err-write_and_sync-clause-any_crash
returns-in_err-write_and_sync-clause-any_crash g c = λ clean file left.
    let stored = c.requires.stored (subst (λ (b : Bool). IsTrue b) c.write_and_sync.ensures.clean clean) in
    let slot = c.args.held.now.slot in
    inl (replaced_first (g.D.Disk.seen c.args.disk.now) file (4096 * (1 - slot)) (length c.as_slice.result.now) slot (1 - slot) c.args.held.now.book (g.D.Disk.may_leave c.args.disk.now) (g.D.Disk.may_leave c.write_and_sync.new.disk)
    refl (ap length (c.as_slice.ensures.value ∙ c.in_ok-block.ensures) ∙ block_length c.args.book) c.requires.slot refl stored.long stored.slot stored.book stored.durable c.write_and_sync.ensures.crash left)

pub returns-in_err-write_and_sync-2-clause-any_crash : goal.returns-in_err-write_and_sync-2-clause-any_crash
returns-in_err-write_and_sync-2-clause-any_crash g c = λ clean file left.
    let stored = c.requires.stored (subst (λ (b : Bool). IsTrue b) (c.write_and_sync-2.ensures.clean ∙ c.write_and_sync.ensures.clean) clean) in
    let slot = c.args.held.now.slot in
    let one = g.D.Disk.seen c.write_and_sync.new.disk in
    let both = both_there (g.D.Disk.seen c.args.disk.now) one c.as_slice.result.now (4096 * (1 - slot)) slot (1 - slot) c.args.held.now.book c.args.book refl c.requires.slot refl stored.long stored.slot stored.book
    (c.as_slice.ensures.value ∙ c.in_ok-block.ensures) c.block_is_read_back.ensures c.write_and_sync.ensures.others c.in_ok-write_and_sync.ensures.written in
    replaced_second one file slot (1 - slot) c.args.held.now.book c.args.book (g.D.Disk.may_leave c.write_and_sync.new.disk) (g.D.Disk.may_leave c.write_and_sync-2.new.disk) c.requires.slot refl both c.in_ok-write_and_sync.ensures.durable
    c.write_and_sync-2.ensures.crash left

pub returns-clause-any_crash : goal.returns-clause-any_crash
returns-clause-any_crash g c = λ clean file left.
    let stored = c.requires.stored (subst (λ (b : Bool). IsTrue b) (c.write_and_sync-2.ensures.clean ∙ c.write_and_sync.ensures.clean) clean) in
    let slot = c.args.held.now.slot in
    let one = g.D.Disk.seen c.write_and_sync.new.disk in
    let both = both_there (g.D.Disk.seen c.args.disk.now) one c.as_slice.result.now (4096 * (1 - slot)) slot (1 - slot) c.args.held.now.book c.args.book refl c.requires.slot refl stored.long stored.slot stored.book
    (c.as_slice.ensures.value ∙ c.in_ok-block.ensures) c.block_is_read_back.ensures c.write_and_sync.ensures.others c.in_ok-write_and_sync.ensures.written in
    replaced_second one file slot (1 - slot) c.args.held.now.book c.args.book (g.D.Disk.may_leave c.write_and_sync.new.disk) (g.D.Disk.may_leave c.write_and_sync-2.new.disk) c.requires.slot refl both c.in_ok-write_and_sync.ensures.durable
    c.write_and_sync-2.ensures.crash left

pub returns-clause-stored : goal.returns-clause-stored
returns-clause-stored g c = λ clean.
    let stored = c.requires.stored (subst (λ (b : Bool). IsTrue b) (c.write_and_sync-2.ensures.clean ∙ c.write_and_sync.ensures.clean) clean) in
    let slot = c.args.held.now.slot in
    let one = g.D.Disk.seen c.write_and_sync.new.disk in
    let both = both_there (g.D.Disk.seen c.args.disk.now) one c.as_slice.result.now (4096 * (1 - slot)) slot (1 - slot) c.args.held.now.book c.args.book refl c.requires.slot refl stored.long stored.slot stored.book
    (c.as_slice.ensures.value ∙ c.in_ok-block.ensures) c.block_is_read_back.ensures c.write_and_sync.ensures.others c.in_ok-write_and_sync.ensures.written in
    let s = selects one (g.D.Disk.seen c.write_and_sync-2.new.disk) _ (1 - slot) c.args.book (omega arith) refl both.new c.write_and_sync-2.ensures.others c.in_ok-write_and_sync-2.ensures.written in
    record { long = s.long; slot = s.slot_is; book = s.book_is; durable = c.in_ok-write_and_sync-2.ensures.durable }
