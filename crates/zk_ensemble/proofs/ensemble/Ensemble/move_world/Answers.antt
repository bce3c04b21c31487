use Rattle.std.proofs.Common.{◌≡◌, ◌≤◌, ◌++◌, length, Result, Err, refl, sym, ap, subst, ◌∙◌}
use Rattle.std.proofs.lemmas.List.{with_items_is}
use Rattle.zab_model.specs.Counting.{counted as world_counted}
use Rattle.zab_model.specs.Runs.{after as world_after, delivered_of}
use Rattle.zab_model.specs.declared.event.Moved.{Moved}
use Rattle.zab_model.specs.declared.fault.WorldFault.{WorldFault}
use Rattle.zk_model.specs.declared.event.Event.TheVariants as events
use Rattle.zk_model.specs.declared.fault.EnsembleFault.TheVariants as faults
use Rattle.zk_model.specs.Counting.{counted, IsAnswered}
use Rattle.zk_model.specs.Ensembles.{Told, ensemble, of_world}
use Rattle.zk_ensemble.specs.Views.{below_by, profile_in}
use Rattle.zk_ensemble.proofs.Keeping.{may_serve_then, each_then, stand_again, stand_still, held_then}
use Rattle.zk_ensemble.proofs.Runs.{IsStepped, no_shorter, ok_of, err_of, went_on, acted, fallen_is, is_some, fell, has_died, answered_on, fit_counted}
use Rattle.zk_ensemble.proofs.ensemble.Ensemble.move_world.Goals as goal

pub catch_up-requires : goal.catch_up-requires
catch_up-requires c =
    let below = below_by c.self.inside.world in
    let w = below.world in
    let shown = c.self.inside.replicas.items in
    let event = c.args.event in
    let answer = c.advance-answer.result in
    let next = c.advance-answer.new.self.world in
    let number = c.mover-number.result in
    let before = c.len-before.result in
    let stepped : IsStepped (profile_in below) w event answer next = record {
      counts = c.advance-answer.ensures.counts;
      answers = c.advance-answer.ensures.answers;
      kept = c.is_no_memory.ensures.no c.if-is_no_memory.false;
    } in
    let had : before ≡ length (delivered_of w number) = c.len-before.ensures.value ∙ ap length c.delivered.ensures in
    record {
      grown = λ runs. subst (λ n. n ≤ length (delivered_of next number)) (sym had) (no_shorter below shown event answer next number c.self.invariant.run stepped runs);
      places = ap length c.deref_mut-2.ensures.value ∙ c.self.invariant.places ∙ sym (ap length c.deref_mut.ensures.value);
      aside = may_serve_then below shown c.self.inside.kept.items c.deref_mut-2.result.now event answer next number c.self.invariant c.deref_mut-2.ensures.value stepped;
    }

pub fail-requires : goal.fail-requires
fail-requires c =
    let below = below_by c.self.inside.world in
    let w = below.world in
    let shown = c.self.inside.replicas.items in
    let given = c.deref_mut.result.now in
    let news = c.catch_up.new.replicas in
    let event = c.args.event in
    let answer = c.advance-answer.result in
    let next = c.advance-answer.new.self.world in
    let number = c.mover-number.result in
    let before = c.len-before.result in
    let stepped : IsStepped (profile_in below) w event answer next = record {
      counts = c.advance-answer.ensures.counts;
      answers = c.advance-answer.ensures.answers;
      kept = c.is_no_memory.ensures.no c.if-is_no_memory.false;
    } in
    let had : before ≡ length (delivered_of w number) = c.len-before.ensures.value ∙ ap length c.delivered.ensures in
    let refused = sym c.is_err.ensures.value ∙ c.if-is_err.true in
    let a = acted (profile_in below) w event answer next number before c.mover-number.ensures had stepped (err_of c.catch_up.result c.catch_up.ensures.runs refused) (err_of c.catch_up.result c.catch_up.ensures.news refused) in
    let fallen = fallen_is (profile_in below) w event answer next number before c.advance-answer.new.self.fallen c.mover-number.ensures had (err_of c.catch_up.result c.catch_up.ensures.news refused) a c.advance-answer.ensures.falls in
    is_some c.advance-answer.new.self.fallen _ fallen

pub invariant_of-self : goal.invariant_of-self
invariant_of-self c =
    let below = below_by c.self.inside.world in
    let none = c.is_no_memory.ensures.yes c.if-is_no_memory.true in
    stand_still below (below_by c.advance-answer.new.self) c.self.inside.replicas.items c.self.inside.kept.items c.self.invariant
    (c.advance-answer.ensures.counts ∙ ap (λ (answer : Result Moved WorldFault). world_after (profile_in below) below.world (world_counted c.args.event answer)) none)
    c.advance-answer.ensures.same.0 c.advance-answer.ensures.same.1

pub invariant_of-self-then-is_err : goal.invariant_of-self-then-is_err
invariant_of-self-then-is_err c =
    let below = below_by c.self.inside.world in
    let w = below.world in
    let shown = c.self.inside.replicas.items in
    let given = c.deref_mut.result.now in
    let news = c.catch_up.new.replicas in
    let event = c.args.event in
    let answer = c.advance-answer.result in
    let next = c.advance-answer.new.self.world in
    let number = c.mover-number.result in
    let before = c.len-before.result in
    let stepped : IsStepped (profile_in below) w event answer next = record {
      counts = c.advance-answer.ensures.counts;
      answers = c.advance-answer.ensures.answers;
      kept = c.is_no_memory.ensures.no c.if-is_no_memory.false;
    } in
    let had : before ≡ length (delivered_of w number) = c.len-before.ensures.value ∙ ap length c.delivered.ensures in
    let refused = sym c.is_err.ensures.value ∙ c.if-is_err.true in
    let a = acted (profile_in below) w event answer next number before c.mover-number.ensures had stepped (err_of c.catch_up.result c.catch_up.ensures.runs refused) (err_of c.catch_up.result c.catch_up.ensures.news refused) in
    let fallen = fallen_is (profile_in below) w event answer next number before c.advance-answer.new.self.fallen c.mover-number.ensures had (err_of c.catch_up.result c.catch_up.ensures.news refused) a c.advance-answer.ensures.falls in
    let keeps = with_items_is c.self.inside.replicas news (c.catch_up.ensures.count ∙ c.deref_mut.ensures.len) in
    let counts = fell (profile_in below) w shown given news _ event c.advance-answer.new.self.fallen c.fail.new.self.world number c.deref_mut.ensures.value c.mover-number.ensures fallen c.fail.ensures.fell (err_of c.catch_up.result c.catch_up.ensures.forgets refused) keeps in
    let told : Told = Err (faults.Died number) in
    let more = counted (events.World event) told in
    let held = with_items_is c.self.inside.kept c.catch_up.new.kept (c.catch_up.ensures.places ∙ c.deref_mut-2.ensures.len) in
    let each = each_then below shown given c.self.inside.kept.items c.deref_mut-2.result.now c.catch_up.new.kept more number c.self.invariant c.deref_mut.ensures.value c.deref_mut-2.ensures.value c.catch_up.ensures.aside in
    stand_again below (below_by c.fail.new.self) shown _ c.self.inside.kept.items _ more c.self.invariant (fit_counted (events.World event) told c.know_session.ensures)
    (c.fail.ensures.same.0 ∙ c.advance-answer.ensures.same.0) (c.fail.ensures.same.1 ∙ c.advance-answer.ensures.same.1) counts
    (ap length held ∙ c.catch_up.ensures.places ∙ ap length c.deref_mut-2.ensures.value ∙ c.self.invariant.places ∙ sym (ap length keeps ∙ c.catch_up.ensures.count ∙ ap length c.deref_mut.ensures.value))
    (held_then below (c.self.invariant.run.events ++ more) held each)

pub returns-then-is_err-clause-counts : goal.returns-then-is_err-clause-counts
returns-then-is_err-clause-counts c = rw (← c.self.view_is) (
    let below = below_by c.self.inside.world in
    let w = below.world in
    let shown = c.self.inside.replicas.items in
    let given = c.deref_mut.result.now in
    let news = c.catch_up.new.replicas in
    let event = c.args.event in
    let answer = c.advance-answer.result in
    let next = c.advance-answer.new.self.world in
    let number = c.mover-number.result in
    let before = c.len-before.result in
    let stepped : IsStepped (profile_in below) w event answer next = record {
      counts = c.advance-answer.ensures.counts;
      answers = c.advance-answer.ensures.answers;
      kept = c.is_no_memory.ensures.no c.if-is_no_memory.false;
    } in
    let had : before ≡ length (delivered_of w number) = c.len-before.ensures.value ∙ ap length c.delivered.ensures in
    let refused = sym c.is_err.ensures.value ∙ c.if-is_err.true in
    let a = acted (profile_in below) w event answer next number before c.mover-number.ensures had stepped (err_of c.catch_up.result c.catch_up.ensures.runs refused) (err_of c.catch_up.result c.catch_up.ensures.news refused) in
    let fallen = fallen_is (profile_in below) w event answer next number before c.advance-answer.new.self.fallen c.mover-number.ensures had (err_of c.catch_up.result c.catch_up.ensures.news refused) a c.advance-answer.ensures.falls in
    let keeps = with_items_is c.self.inside.replicas news (c.catch_up.ensures.count ∙ c.deref_mut.ensures.len) in
    let counts = fell (profile_in below) w shown given news _ event c.advance-answer.new.self.fallen c.fail.new.self.world number c.deref_mut.ensures.value c.mover-number.ensures fallen c.fail.ensures.fell (err_of c.catch_up.result c.catch_up.ensures.forgets refused) keeps in
    counts)

pub returns-then-is_err-clause-answers : goal.returns-then-is_err-clause-answers
returns-then-is_err-clause-answers c = rw (← c.self.view_is) (
    let below = below_by c.self.inside.world in
    let w = below.world in
    let shown = c.self.inside.replicas.items in
    let given = c.deref_mut.result.now in
    let news = c.catch_up.new.replicas in
    let event = c.args.event in
    let answer = c.advance-answer.result in
    let next = c.advance-answer.new.self.world in
    let number = c.mover-number.result in
    let before = c.len-before.result in
    let stepped : IsStepped (profile_in below) w event answer next = record {
      counts = c.advance-answer.ensures.counts;
      answers = c.advance-answer.ensures.answers;
      kept = c.is_no_memory.ensures.no c.if-is_no_memory.false;
    } in
    let had : before ≡ length (delivered_of w number) = c.len-before.ensures.value ∙ ap length c.delivered.ensures in
    let refused = sym c.is_err.ensures.value ∙ c.if-is_err.true in
    let a = acted (profile_in below) w event answer next number before c.mover-number.ensures had stepped (err_of c.catch_up.result c.catch_up.ensures.runs refused) (err_of c.catch_up.result c.catch_up.ensures.news refused) in
    let fallen = fallen_is (profile_in below) w event answer next number before c.advance-answer.new.self.fallen c.mover-number.ensures had (err_of c.catch_up.result c.catch_up.ensures.news refused) a c.advance-answer.ensures.falls in
    has_died (profile_in below) w event answer number c.mover-number.ensures c.advance-answer.ensures.answers a)

pub invariant_of-self-else-is_err : goal.invariant_of-self-else-is_err
invariant_of-self-else-is_err c =
    let below = below_by c.self.inside.world in
    let w = below.world in
    let shown = c.self.inside.replicas.items in
    let given = c.deref_mut.result.now in
    let news = c.catch_up.new.replicas in
    let event = c.args.event in
    let answer = c.advance-answer.result in
    let next = c.advance-answer.new.self.world in
    let number = c.mover-number.result in
    let before = c.len-before.result in
    let stepped : IsStepped (profile_in below) w event answer next = record {
      counts = c.advance-answer.ensures.counts;
      answers = c.advance-answer.ensures.answers;
      kept = c.is_no_memory.ensures.no c.if-is_no_memory.false;
    } in
    let had : before ≡ length (delivered_of w number) = c.len-before.ensures.value ∙ ap length c.delivered.ensures in
    let keeps = with_items_is c.self.inside.replicas news (c.catch_up.ensures.count ∙ c.deref_mut.ensures.len) in
    let counts = went_on (profile_in below) w shown given news _ event answer next number before (of_world answer) c.deref_mut.ensures.value c.mover-number.ensures had stepped
    (ok_of c.catch_up.result c.catch_up.ensures.shown (sym c.is_err.ensures.value ∙ c.if-is_err.false)) keeps refl in
    let more = counted (events.World event) (of_world answer) in
    let held = with_items_is c.self.inside.kept c.catch_up.new.kept (c.catch_up.ensures.places ∙ c.deref_mut-2.ensures.len) in
    let each = each_then below shown given c.self.inside.kept.items c.deref_mut-2.result.now c.catch_up.new.kept more number c.self.invariant c.deref_mut.ensures.value c.deref_mut-2.ensures.value c.catch_up.ensures.aside in
    stand_again below (below_by c.advance-answer.new.self) shown _ c.self.inside.kept.items _ more c.self.invariant (fit_counted (events.World event) (of_world answer) c.know_session.ensures)
    c.advance-answer.ensures.same.0 c.advance-answer.ensures.same.1 counts
    (ap length held ∙ c.catch_up.ensures.places ∙ ap length c.deref_mut-2.ensures.value ∙ c.self.invariant.places ∙ sym (ap length keeps ∙ c.catch_up.ensures.count ∙ ap length c.deref_mut.ensures.value))
    (held_then below (c.self.invariant.run.events ++ more) held each)

pub returns-clause-counts : goal.returns-clause-counts
returns-clause-counts c = rw (← c.self.view_is) (
    let below = below_by c.self.inside.world in
    let w = below.world in
    let shown = c.self.inside.replicas.items in
    let given = c.deref_mut.result.now in
    let news = c.catch_up.new.replicas in
    let event = c.args.event in
    let answer = c.advance-answer.result in
    let next = c.advance-answer.new.self.world in
    let number = c.mover-number.result in
    let before = c.len-before.result in
    let stepped : IsStepped (profile_in below) w event answer next = record {
      counts = c.advance-answer.ensures.counts;
      answers = c.advance-answer.ensures.answers;
      kept = c.is_no_memory.ensures.no c.if-is_no_memory.false;
    } in
    let had : before ≡ length (delivered_of w number) = c.len-before.ensures.value ∙ ap length c.delivered.ensures in
    let keeps = with_items_is c.self.inside.replicas news (c.catch_up.ensures.count ∙ c.deref_mut.ensures.len) in
    let counts = went_on (profile_in below) w shown given news _ event answer next number before c.told.result c.deref_mut.ensures.value c.mover-number.ensures had stepped
    (ok_of c.catch_up.result c.catch_up.ensures.shown (sym c.is_err.ensures.value ∙ c.if-is_err.false)) keeps c.told.ensures in
    counts)

pub returns-clause-answers : goal.returns-clause-answers
returns-clause-answers c = rw (← c.self.view_is) (
    let below = below_by c.self.inside.world in
    let w = below.world in
    let shown = c.self.inside.replicas.items in
    subst (λ (t : Told). IsAnswered (profile_in below) (ensemble w shown) (events.World c.args.event) t) (sym c.told.ensures)
    (answered_on (profile_in below) w shown c.args.event c.advance-answer.result c.advance-answer.ensures.answers))
