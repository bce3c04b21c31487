use Rattle.std.proofs.Common.{◌≡◌, ◌+◌, ◌-◌, ◌∙◌, refl, sym, ap, subst, length, drop, Ok, Err, arith, length-drop}
use Rattle.std.proofs.lemmas.Result.{err_from_is_err_and}
use Rattle.std.specs.Io.KnownBytes.{prepend_known}
use Rattle.zk_log.proofs.Carried.{part_held}
use Rattle.zk_log.specs.Cutting.{Cuts, IsEntry}
use Rattle.zk_log.specs.Devices.{reader_of}
use Rattle.zk_log.specs.Filling.{Fills, FillEnds}
use Rattle.zk_log.specs.Loading.{ending_of_part}
use Rattle.zk_log.specs.declared.cutting.Cut.TheVariants.{Need, Stop, TooLong}
use Rattle.zk_log.specs.declared.loaded.Ending.{Ending}
use Rattle.zk_mend.proofs.Ends.{walks_too_long, entry_fits, at_more}
use Rattle.zk_mend.proofs.Sparing.{seen_start, seen_body, seen_more, seen_filled, filling_needs, own_needs, own_ends}
use Rattle.zk_mend.proofs.Walks.{walked_kept, walks_ending, walks_fault, walks_part}
use Rattle.zk_mend.specs.Reading.{MeetsEnd, BodyNeedsMore}
use Rattle.zk_mend.specs.Walking.{Walks}
use Rattle.zk_mend.specs.declared.fault.MendFault.TheVariants as faults
use Rattle.zk_mend.proofs.mending.walk_entries.Goals as goal

pub returns-in_err-take-in-Entry-clause-walks : goal.returns-in_err-take-in-Entry-clause-walks
returns-in_err-take-in-Entry-clause-walks g c =
    let p = err_from_is_err_and c.from_residual.result c.from_residual.ensures.1 in
    let remaining = g.R.Read.remaining in
    let start = prepend_known c.args.held.now.items (remaining (reader_of c.args.source.now)) in
    let now = remaining (reader_of c.entries.source) in
    let bytes = c.in-Entry.record.now in
    let sum = c.in-Entry.sum in
    let fault = c.in_err-take-in-Entry.field-0.0 in
    let e : IsEntry c.entries.held.items sum bytes = subst (λ l. IsEntry l sum bytes) c.as_slice.ensures c.in-Entry.ensures in
    let told : Walks start (Err fault) c.take.new.self = walks_fault start now c.entries.held.items bytes sum c.entries.walk c.take.new.self fault c.entries.invariant.walked e c.in_err-take-in-Entry.ensures.err in
    subst (λ r. Walks start r c.take.new.self) (sym p.1) (subst (λ y. Walks start (Err y) c.take.new.self) (sym p.2) told)

pub entries-init : goal.entries-init
entries-init g c =
    let start = c.requires.start in
    let seen = seen_start g.R.Read.remaining c.args.source.now c.args.held.now.items c.args.walk.now start.0 start.1 in
    record {
      walked = seen.walked;
      seen = seen;
      steps = start.0.steps;
      failures = refl;
      ends = refl;
      reads = refl;
      asks = omega arith;
      room = omega (arith, start.0.at);
    }

pub entries-preserved : goal.entries-preserved
entries-preserved g c =
    let remaining = g.R.Read.remaining in
    let start = prepend_known c.args.held.now.items (remaining (reader_of c.args.source.now)) in
    let now = remaining (reader_of c.entries.source) in
    let held = c.entries.held.items in
    let bytes = c.in-Entry.record.now in
    let sum = c.in-Entry.sum in
    let i = c.entries.invariant in
    let e : IsEntry held sum bytes = subst (λ l. IsEntry l sum bytes) c.as_slice.ensures c.in-Entry.ensures in
    let left : c.advance.new.self.items ≡ drop (13 + length bytes) held = c.advance.ensures.items in
    let seen = seen_more remaining c.args.source.now c.entries.source c.args.held.now.items held c.advance.new.self.items bytes sum c.entries.walk c.take.new.self i.seen e c.in_ok-take-in-Entry.ensures.ok left in
    let at = at_more start (prepend_known held now) bytes sum c.entries.walk c.take.new.self i.walked c.in_ok-take-in-Entry.ensures.ok in
    let len : length c.advance.new.self.items ≡ length held - (13 + length bytes) = ap length left ∙ length-drop (13 + length bytes) held in
    let fits = entry_fits held bytes sum e in
    record {
      walked = seen.walked;
      seen = seen;
      steps = seen.walked.is_at.steps;
      failures = i.failures;
      ends = i.ends;
      reads = i.reads;
      asks = i.asks;
      room = omega (arith, i.room, at, len, fits);
    }

pub returns-in-Stop-clause-walks : goal.returns-in-Stop-clause-walks
returns-in-Stop-clause-walks g c =
    let remaining = g.R.Read.remaining in
    let start = prepend_known c.args.held.now.items (remaining (reader_of c.args.source.now)) in
    walks_ending start (remaining (reader_of c.entries.source)) c.entries.held.items c.entries.walk c.in-Stop.ending c.entries.invariant.walked (subst (λ l. Cuts c.entries.walk.at l (Stop c.in-Stop.ending)) c.as_slice.ensures c.in-Stop.ensures)

pub returns-in-TooLong-clause-walks : goal.returns-in-TooLong-clause-walks
returns-in-TooLong-clause-walks g c =
    let remaining = g.R.Read.remaining in
    let start = prepend_known c.args.held.now.items (remaining (reader_of c.args.source.now)) in
    let long = subst (λ l. Cuts c.entries.walk.at l TooLong) c.as_slice.ensures c.in-TooLong.ensures in
    walks_too_long start (remaining (reader_of c.entries.source)) c.entries.held.items c.entries.walk c.entries.invariant.walked long.0 long.1

pub returns-in_err-take-in-Entry-clause-last : goal.returns-in_err-take-in-Entry-clause-last
returns-in_err-take-in-Entry-clause-last g c =
    seen_body g.R.Read.remaining c.args.source.now c.entries.source c.args.held.now.items c.entries.held.items c.entries.walk c.entries.invariant.seen

pub returns-in_err-take-in-Entry-clause-ends : goal.returns-in_err-take-in-Entry-clause-ends
returns-in_err-take-in-Entry-clause-ends g c =
    let p = err_from_is_err_and c.from_residual.result c.from_residual.ensures.1 in
    let fault = c.in_err-take-in-Entry.field-0.0 in
    let told : MeetsEnd {T = Ending} c.args.source.now (Err fault) c.entries.source = own_ends Ending c.args.source.now c.entries.source fault c.entries.invariant.ends in
    subst (λ r. MeetsEnd c.args.source.now r c.entries.source) (sym p.1) (subst (λ y. MeetsEnd {T = Ending} c.args.source.now (Err y) c.entries.source) (sym p.2) told)

pub returns-in_err-take-in-Entry-clause-needs : goal.returns-in_err-take-in-Entry-clause-needs
returns-in_err-take-in-Entry-clause-needs g c =
    let p = err_from_is_err_and c.from_residual.result c.from_residual.ensures.1 in
    let fault = c.in_err-take-in-Entry.field-0.0 in
    let told : BodyNeedsMore {T = Ending} (Err fault) c.entries.held.items = own_needs Ending fault c.entries.held.items c.in_err-take-in-Entry.ensures.own in
    subst (λ r. BodyNeedsMore r c.entries.held.items) (sym p.1) (subst (λ y. BodyNeedsMore {T = Ending} (Err y) c.entries.held.items) (sym p.2) told)

pub returns-in-Stop-clause-last : goal.returns-in-Stop-clause-last
returns-in-Stop-clause-last g c =
    seen_body g.R.Read.remaining c.args.source.now c.entries.source c.args.held.now.items c.entries.held.items c.entries.walk c.entries.invariant.seen

pub returns-in-TooLong-clause-last : goal.returns-in-TooLong-clause-last
returns-in-TooLong-clause-last g c =
    seen_body g.R.Read.remaining c.args.source.now c.entries.source c.args.held.now.items c.entries.held.items c.entries.walk c.entries.invariant.seen

pub returns-in_err-fill-in-Need-clause-last : goal.returns-in_err-fill-in-Need-clause-last
returns-in_err-fill-in-Need-clause-last g c =
    let i = c.entries.invariant in
    let f = c.in_err-fill-in-Need.ensures in
    let d = subst (λ l. Cuts c.entries.walk.at l (Need c.in-Need.want)) c.as_slice.ensures c.in-Need.ensures in
    seen_body g.R.Read.remaining c.args.source.now c.fill.new.source c.args.held.now.items c.fill.new.held.items c.entries.walk
    (seen_filled g.R.Read.remaining c.args.source.now c.entries.source c.fill.new.source c.args.held.now.items c.entries.held.items c.fill.new.held.items c.in-Need.want c.entries.walk i.seen f.reads.bytes d.2 f.last)

pub entries-preserved-in-Enough : goal.entries-preserved-in-Enough
entries-preserved-in-Enough g c =
    let i = c.entries.invariant in
    let f = c.in_ok-fill-in-Need.ensures in
    let d = subst (λ l. Cuts c.entries.walk.at l (Need c.in-Need.want)) c.as_slice.ensures c.in-Need.ensures in
    let full = subst (λ r. Fills g.R.Read.remaining c.entries.source c.entries.held.items c.in-Need.want (Ok r) c.fill.new.source c.fill.new.held.items c.fill.new.turns) c.in-Enough.is f.fills in
    let none = subst (λ r. FillEnds c.entries.source (Ok r) c.fill.new.source) c.in-Enough.is f.ends in
    let reads = f.reads.reads in
    let most = f.reads.most in
    let seen = seen_filled g.R.Read.remaining c.args.source.now c.entries.source c.fill.new.source c.args.held.now.items c.entries.held.items c.fill.new.held.items c.in-Need.want c.entries.walk i.seen f.reads.bytes d.2 f.last in
    record {
      walked = seen.walked;
      seen = seen;
      steps = i.steps;
      failures = full.1 ∙ i.failures;
      ends = none ∙ i.ends;
      reads = reads ∙ i.reads;
      asks = omega (arith, i.asks, f.asks);
      room = omega arith;
    }

pub returns-in-AtEnd-clause-last : goal.returns-in-AtEnd-clause-last
returns-in-AtEnd-clause-last g c =
    let i = c.entries.invariant in
    let f = c.in_ok-fill-in-Need.ensures in
    let d = subst (λ l. Cuts c.entries.walk.at l (Need c.in-Need.want)) c.as_slice.ensures c.in-Need.ensures in
    seen_body g.R.Read.remaining c.args.source.now c.fill.new.source c.args.held.now.items c.fill.new.held.items c.entries.walk
    (seen_filled g.R.Read.remaining c.args.source.now c.entries.source c.fill.new.source c.args.held.now.items c.entries.held.items c.fill.new.held.items c.in-Need.want c.entries.walk i.seen f.reads.bytes d.2 f.last)

pub returns-in_err-fill-in-Need-clause-needs : goal.returns-in_err-fill-in-Need-clause-needs
returns-in_err-fill-in-Need-clause-needs g c =
    let p = err_from_is_err_and c.from_residual-in_err-fill-in-Need.result c.from_residual-in_err-fill-in-Need.ensures.1 in
    let f = c.in_err-fill-in-Need.ensures in
    let held' = c.fill.new.held.items in
    let fault = c.in_err-fill-in-Need.field-0.0 in
    let d = subst (λ l. Cuts c.entries.walk.at l (Need c.in-Need.want)) c.as_slice.ensures c.in-Need.ensures in
    let told : BodyNeedsMore {T = Ending} (Err (faults.Log fault)) held'
    = filling_needs Ending g.R.Read.remaining c.entries.source c.fill.new.source c.entries.held.items held' c.in-Need.want c.fill.new.turns fault f.reads.longer d.2 f.fills in
    subst (λ r. BodyNeedsMore r held') (sym p.1) (subst (λ y. BodyNeedsMore {T = Ending} (Err y) held') (sym p.2) told)

pub returns-in-AtEnd-clause-walks : goal.returns-in-AtEnd-clause-walks
returns-in-AtEnd-clause-walks g c =
    let i = c.entries.invariant in
    let f = c.in_ok-fill-in-Need.ensures in
    let remaining = g.R.Read.remaining in
    let start = prepend_known c.args.held.now.items (remaining (reader_of c.args.source.now)) in
    let held = c.entries.held.items in
    let held' = c.fill.new.held.items in
    let d = subst (λ l. Cuts c.entries.walk.at l (Need c.in-Need.want)) c.as_slice.ensures c.in-Need.ensures in
    let ended = subst (λ r. Fills remaining c.entries.source held c.in-Need.want (Ok r) c.fill.new.source held' c.fill.new.turns) c.in-AtEnd.is f.fills in
    let kept = walked_kept start (prepend_known held (remaining (reader_of c.entries.source))) (prepend_known held' (remaining (reader_of c.fill.new.source))) c.entries.walk i.walked f.reads.bytes in
    let told = walks_part start (remaining (reader_of c.fill.new.source)) held' c.entries.walk kept ended.2 (part_held held held' c.in-Need.want d.2 f.reads.longer ended.0) in
    subst (λ e. Walks start (Ok e) c.entries.walk) (sym (c.ending_of_part.ensures ∙ ap (ending_of_part c.entries.walk.at) c.as_slice-in-AtEnd.ensures)) told
