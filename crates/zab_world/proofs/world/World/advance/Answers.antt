use Rattle.std.proofs.Common.{rules, ◌≡◌, [], ◌∷◌, ◌++◌, sym, subst, ap}
use Rattle.zab_agreement_laws.specs.Promises.{EachEndsBelow}
use Rattle.zab_model.specs.Counting.{counted}
use Rattle.zab_model.specs.Movers.{mover}
use Rattle.zab_model.specs.Running.{is_running}
use Rattle.zab_model.specs.Runs.{run, after}
use Rattle.zab_model.specs.Worlds.{World, profile_of, new_world, world}
use Rattle.zab_agreement_laws.proofs.Promises.{leaders_end_below}
use Rattle.zab_model.proofs.RunLaws.{goes_on}
use Rattle.zab_call_laws.proofs.Following.{follows}
use Rattle.zab_world.specs.Rollbacks.{fallen_by, moved_in}
use Rattle.zab_world.proofs.Adoptions.{fell_or_not}
use Rattle.zab_world.proofs.world.World.advance.Goals as goal

pub advance-requires : goal.advance-requires
advance-requires g c =
    let profile = profile_of (g.Q.Quorums.passes c.self.inside.quorums) g.P.Primary.made_of g.P.Primary.tag_of g.P.Primary.closing_of in
    let reached = c.self.invariant.now in
    let ends : EachEndsBelow (run profile c.self.inside.servers reached.0).0.servers = leaders_end_below profile g.met.P.Primary.made_zxid (g.met.Q.Quorums.share c.self.inside.quorums) c.self.inside.servers reached.0 in
    subst (λ (w : World _). EachEndsBelow w.servers) (sym reached.1) ends

pub invariant_of-self : goal.invariant_of-self
invariant_of-self g c =
    let profile = profile_of (g.Q.Quorums.passes c.self.inside.quorums) g.P.Primary.made_of g.P.Primary.tag_of g.P.Primary.closing_of in
    let reached = c.self.invariant.now in
    record {
      now = (reached.0 ++ counted c.args.event (moved_in c.advance.result), goes_on profile (new_world c.self.inside.servers) (world c.self.inside.places c.self.inside.messages c.self.inside.tags) (world c.advance.new.self c.advance.new.messages c.advance.new.tags) reached.0 (counted c.args.event (moved_in c.advance.result)) reached.1 c.advance.ensures.counts);
      fell = tt;
    }

pub invariant_of-self-2 : goal.invariant_of-self-2
invariant_of-self-2 g c =
    let profile = profile_of (g.Q.Quorums.passes c.self.inside.quorums) g.P.Primary.made_of g.P.Primary.tag_of g.P.Primary.closing_of in
    let reached = c.self.invariant.now in
    let w = world c.self.inside.places c.self.inside.messages c.self.inside.tags in
    record {
      now = (reached.0 ++ counted c.args.event (moved_in c.advance.result), goes_on profile (new_world c.self.inside.servers) w (world c.advance.new.self c.advance.new.messages c.advance.new.tags) reached.0 (counted c.args.event (moved_in c.advance.result)) reached.1 c.advance.ensures.counts);
      fell = fell_or_not profile c.self.inside.servers w (world c.advance.new.self c.advance.new.messages c.advance.new.tags) c.args.event (is_running w (mover w c.args.event))
          (fallen_by c.advance.new.self c.advance.new.messages c.advance.new.tags c.in_ok-note.note)
          c.in_ok-note.ensures.falls
          (λ e. ap (fallen_by c.advance.new.self c.advance.new.messages c.advance.new.tags) (c.in_ok-note.ensures.rests e))
          reached;
    }

pub returns-clause-run : goal.returns-clause-run
returns-clause-run g c = rw (← c.self.view_is)
    (let profile = profile_of (g.Q.Quorums.passes c.self.inside.quorums) g.P.Primary.made_of g.P.Primary.tag_of g.P.Primary.closing_of in
    let is : world c.advance.new.self c.advance.new.messages c.advance.new.tags ≡ after profile (world c.self.inside.places c.self.inside.messages c.self.inside.tags) (c.args.event ∷ []) = search rules in
    follows profile g.met.P.Primary.made_tag g.met.P.Primary.made_zxid (g.met.Q.Quorums.share c.self.inside.quorums) c.self.inside.servers _ (c.args.event ∷ []) _ c.self.invariant.now is)

pub returns-in_err-note-clause-run : goal.returns-in_err-note-clause-run
returns-in_err-note-clause-run g c = rw (← c.self.view_is)
    (let profile = profile_of (g.Q.Quorums.passes c.self.inside.quorums) g.P.Primary.made_of g.P.Primary.tag_of g.P.Primary.closing_of in
    let more = counted c.args.event c.from_residual.result in
    let is : world c.advance.new.self c.advance.new.messages c.advance.new.tags ≡ after profile (world c.self.inside.places c.self.inside.messages c.self.inside.tags) more = search rules in
    follows profile g.met.P.Primary.made_tag g.met.P.Primary.made_zxid (g.met.Q.Quorums.share c.self.inside.quorums) c.self.inside.servers _ more _ c.self.invariant.now is)
