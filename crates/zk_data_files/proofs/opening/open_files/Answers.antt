use Rattle.std.proofs.Common.{◌∙◌, ap, inl, inr, Option}
use Rattle.std.proofs.lemmas.Result.{IfErr-weaker, err_from_is_err_and}
use Rattle.zk_store.specs.Books.{found_book}
use Rattle.zk_store.specs.declared.book.StoredBook.{StoredBook}
use Rattle.zk_data_files.proofs.Durables.{book_recovers}
use Rattle.zk_data_files.proofs.Openings.{before, before_remains, book_not_read, none_remains, returned_book, read_book_remains}
use Rattle.zk_data_files.proofs.opening.open_files.Goals as goal

pub returns-in-Some-clause-recovers : goal.returns-in-Some-clause-recovers
returns-in-Some-clause-recovers g c = λ found r.
    inl (book_recovers g.D.Disk c.args.files.now c.recover.new.disk found c.recover.ensures.clean c.recover.ensures.crash (c.recover_stable.ensures.recovers found r))

pub returns-in-Some-clause-fault : goal.returns-in-Some-clause-fault
returns-in-Some-clause-fault g c =
    IfErr-weaker c.recover_stable.result _ _ (λ fault why. before g.D.Disk c.args.files.now c.recover_stable.new.files c.recover.new.disk fault c.in_ok-counted.ensures.faults c.recover.ensures.seen why) c.recover_stable.ensures.fault

pub returns-in-None-clause-recovers : goal.returns-in-None-clause-recovers
returns-in-None-clause-recovers g c = λ found r.
    let clean = c.create_first.ensures.clean r.clean in
    elim (c.create_first.ensures.recovers found r) [
      | inl m ↦ inl (book_recovers g.D.Disk c.args.files.now c.recover.new.disk found c.recover.ensures.clean c.recover.ensures.crash m)
      | inr e ↦ inr (c.in_ok-counted.ensures.found clean.book ∙ ap found_book c.in-None.is, e)
    ]

pub returns-in_err-counted-clause-remains : goal.returns-in_err-counted-clause-remains
returns-in_err-counted-clause-remains g c = read_book_remains g.D.Disk g.met.D.Disk.seen_may_stay c.args.files.now c.recover.new.disk c.recover.ensures.seen

pub returns-in-Some-clause-remains : goal.returns-in-Some-clause-remains
returns-in-Some-clause-remains g c = before_remains g.D.Disk c.args.files.now c.recover_stable.new.files c.recover.new.disk c.recover.ensures.seen c.recover_stable.ensures.remains

pub returns-in-None-clause-remains : goal.returns-in-None-clause-remains
returns-in-None-clause-remains g c =
    none_remains g.D.Disk c.args.files.now c.create_first.new.files (λ clean. c.in_ok-counted.ensures.found (c.create_first.ensures.clean clean).book ∙ ap found_book c.in-None.is)

pub returns-in_err-counted-clause-fault : goal.returns-in_err-counted-clause-fault
returns-in_err-counted-clause-fault g c =
    let p = err_from_is_err_and c.from_residual.result c.from_residual.ensures.1 in
    returned_book g.D.Disk _ c.args.files.now _ c.from_residual.result c.in_err-counted.field-0.0 p.0 p.1 p.2
    (book_not_read g.D.Disk (Option StoredBook) c.args.files.now c.recover.new.disk c.in_err-counted.field-0.0 c.in_err-counted.ensures.faults c.recover.ensures.seen)

pub returns-in-None-clause-fault : goal.returns-in-None-clause-fault
returns-in-None-clause-fault g c =
    IfErr-weaker c.create_first.result _ _ (λ fault why. before g.D.Disk c.args.files.now c.create_first.new.files c.recover.new.disk fault c.in_ok-counted.ensures.faults c.recover.ensures.seen why) c.create_first.ensures.fault
