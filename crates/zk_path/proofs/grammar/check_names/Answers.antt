use Rattle.std.proofs.Common.{sym, ◌∙◌, length, lit<, arith}
use Rattle.std.specs.List.{slice_split}
use Rattle.std.proofs.lemmas.Iterator.Consumers.{YieldsList-turn, YieldsList-end}
use Rattle.std.proofs.lemmas.Iterator.Splits.{YieldsList-from_str_split}
use Rattle.std.proofs.lemmas.List.{at_drop_all, length_push}
use Rattle.std.proofs.lemmas.Result.{err_from_is_err_and}
use Rattle.zk_path.specs.Paths.{is_slash, first_fault}
use Rattle.zk_path.proofs.Faults.{first_fault_found, first_fault_passed}
use Rattle.zk_path.proofs.Plain.{plain_has_no_fault}
use Rattle.zk_path.proofs.grammar.check_names.Goals as goal

pub returns-then-is_plain : goal.returns-then-is_plain
returns-then-is_plain c = sym (plain_has_no_fault c.args.names.now (sym c.is_plain.ensures ∙ c.if-is_plain.true))

pub returns-in_err-check_name : goal.returns-in_err-check_name
returns-in_err-check_name c =
    let parts = YieldsList-from_str_split {s = c.split-name-items.result} 47 c.args.names.now (lit< tt) c.split-name-items.ensures.text c.split-name-items.ensures.has_more c.split-name-items.ensures.pattern in
    let here = YieldsList-turn (rw (← c.into_iter-name-iterator.ensures.into_iter_gives) at parts) c.loop-name.yielded _ c.loop-name.yielded_by _ _ c.in-Some.name c.in-Some.is c.next.ensures.steps in
    let answer = err_from_is_err_and c.from_residual.result c.from_residual.ensures.1 in
    rw (answer.1, answer.2) (first_fault_found (slice_split is_slash c.args.names.now) _ _ _ here c.loop-name.invariant c.in_err-check_name.ensures)

pub loop-name-preserved : goal.loop-name-preserved
loop-name-preserved c =
    let parts = YieldsList-from_str_split {s = c.split-name-items.result} 47 c.args.names.now (lit< tt) c.split-name-items.ensures.text c.split-name-items.ensures.has_more c.split-name-items.ensures.pattern in
    let here = YieldsList-turn (rw (← c.into_iter-name-iterator.ensures.into_iter_gives) at parts) c.loop-name.yielded _ c.loop-name.yielded_by _ _ c.in-Some.name c.in-Some.is c.next.ensures.steps in
    rw length_push (first_fault_passed (slice_split is_slash c.args.names.now) _ _ here c.loop-name.invariant c.in_ok-check_name.ensures)

pub returns : goal.returns
returns c =
    let parts = YieldsList-from_str_split {s = c.split-name-items.result} 47 c.args.names.now (lit< tt) c.split-name-items.ensures.text c.split-name-items.ensures.has_more c.split-name-items.ensures.pattern in
    let all = YieldsList-end (rw (← c.into_iter-name-iterator.ensures.into_iter_gives) at parts) c.loop-name.yielded _ c.loop-name.yielded_by _ _ c.in-None.is c.next.ensures.steps in
    sym (at_drop_all first_fault (slice_split is_slash c.args.names.now) (length c.loop-name.yielded) (omega (arith, all.1))) ∙ c.loop-name.invariant
