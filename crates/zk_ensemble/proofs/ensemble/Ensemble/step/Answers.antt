use Rattle.std.proofs.Common.{◌≡◌, sym, ap, subst}
use Rattle.zk_model.specs.declared.event.Event.{Event}
use Rattle.zk_model.specs.declared.event.Event.TheVariants as events
use Rattle.zk_headline_laws.specs.Headline.{IsNextInRun}
use Rattle.zk_model.specs.Counting.{counted, IsAnswered}
use Rattle.zk_model.specs.Runs.{after}
use Rattle.zk_ensemble.specs.Views.{state_of, profile_in, below_by}
use Rattle.zk_ensemble.proofs.Runs.{IsViewOfRun, view_of_run, next_in_run, fit_counted, read_counts, read_answers}
use Rattle.zk_ensemble.proofs.ensemble.Ensemble.step.Goals as goal

pub returns-in-World-clause-counts : goal.returns-in-World-clause-counts
returns-in-World-clause-counts c =
    let v = c.args.self.now in
    subst (λ (e : Event). state_of c.move_world.new.self ≡ after (profile_in v.below) (state_of v) (counted e c.move_world.result)) (sym c.in-World.is) c.move_world.ensures.counts

pub returns-in-World-clause-answers : goal.returns-in-World-clause-answers
returns-in-World-clause-answers c =
    let v = c.args.self.now in
    subst (λ (e : Event). IsAnswered (profile_in v.below) (state_of v) e c.move_world.result) (sym c.in-World.is) c.move_world.ensures.answers

pub returns-in-World-clause-run : goal.returns-in-World-clause-run
returns-in-World-clause-run c =
    let v = c.args.self.now in
    let event = events.World c.in-World.event in
    let of_run = subst IsViewOfRun c.self.view_is (view_of_run (below_by c.self.inside.world) c.self.inside.replicas.items c.self.invariant.run) in
    subst (λ (e : Event). IsNextInRun (profile_in v.below) v.below.servers (state_of v) (counted e c.move_world.result) (state_of c.move_world.new.self)) (sym c.in-World.is)
    (next_in_run v (counted event c.move_world.result) (state_of c.move_world.new.self) of_run (fit_counted event c.move_world.result c.move_world.ensures.fits) c.move_world.ensures.counts)

pub returns-in-Read-clause-counts : goal.returns-in-Read-clause-counts
returns-in-Read-clause-counts c =
    let v = c.args.self.now in
    subst (λ (e : Event). state_of c.look.new.self ≡ after (profile_in v.below) (state_of v) (counted e c.look.result)) (sym c.in-Read.is)
    (read_counts (profile_in v.below) (state_of v) (state_of c.look.new.self) c.in-Read.question c.look.result c.look.ensures.acts (λ refused. ap state_of (c.look.ensures.unchanged refused)))

pub returns-in-Read-clause-answers : goal.returns-in-Read-clause-answers
returns-in-Read-clause-answers c =
    let v = c.args.self.now in
    subst (λ (e : Event). IsAnswered (profile_in v.below) (state_of v) e c.look.result) (sym c.in-Read.is)
    (read_answers (profile_in v.below) (state_of v) (state_of c.look.new.self) c.in-Read.question c.look.result c.look.ensures.acts)

pub returns-in-Read-clause-run : goal.returns-in-Read-clause-run
returns-in-Read-clause-run c =
    let v = c.args.self.now in
    let event = events.Read c.in-Read.question in
    let of_run = subst IsViewOfRun c.self.view_is (view_of_run (below_by c.self.inside.world) c.self.inside.replicas.items c.self.invariant.run) in
    subst (λ (e : Event). IsNextInRun (profile_in v.below) v.below.servers (state_of v) (counted e c.look.result) (state_of c.look.new.self)) (sym c.in-Read.is)
    (next_in_run v (counted event c.look.result) (state_of c.look.new.self) of_run (fit_counted event c.look.result tt)
    (read_counts (profile_in v.below) (state_of v) (state_of c.look.new.self) c.in-Read.question c.look.result c.look.ensures.acts (λ refused. ap state_of (c.look.ensures.unchanged refused))))
