use Rattle.std.proofs.Common.{rules, ◌≡◌, sym, ◌∙◌, subst, Result, Ok, Err}
use Rattle.zk_listings.proofs.Followed.{fails_later, steps_on}
use Rattle.zk_listings.specs.Followings.{Fails, Looks, TellsEnd, Writes, first_place, place_of}
use Rattle.zk_listings.proofs.polling.follow.Goals as goal

pub looks-preserved : goal.looks-preserved
looks-preserved g c =
    let contents = g.O.Write.contents in
    let gives = g.G.GrowingLogs.gives c.args.logs.now in
    let old = first_place c.args.form in
    let now = place_of c.looks.follower in
    let new = place_of c.poll.new.self in
    let finds = g.G.GrowingLogs.finds c.args.logs.now in
    let looks : Writes contents gives now c.looks.output c.poll.new.output new × Looks finds gives now new = search rules in
    record {
      writes = steps_on contents gives old now new c.args.output.now c.looks.output c.poll.new.output c.looks.invariant.writes looks.0;
      failures = looks.0.wrote.failures ∙ c.looks.invariant.failures;
      faults = c.looks.invariant.faults;
    }

pub returns-in-Err : goal.returns-in-Err
returns-in-Err g c =
    let contents = g.O.Write.contents in
    let gives = g.G.GrowingLogs.gives c.args.logs.now in
    let old = first_place c.args.form in
    let now = place_of c.looks.follower in
    let fails : Fails contents gives now c.looks.output c.poll.new.output c.in-Err.fault = search rules in
    record {
      fault = c.in-Err.fault;
      fails = fails_later contents gives old now c.args.output.now c.looks.output c.poll.new.output c.in-Err.fault c.looks.invariant.writes fails;
      tells = search rules;
    }
