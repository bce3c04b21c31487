use Rattle.std.proofs.Common.{ℕ, List, ◌-◌, map, ap, ◌∙◌}
use Rattle.std.specs.BTreeMap.{insert_entry}
use Rattle.zk_incidents.proofs.Ranked.{insert_ranked, rank_of, ranked}
use Rattle.zk_incidents.specs.Counts.{most, rank_cmp}
use Rattle.zk_incidents.specs.declared.ranks.Rank.{Rank}
use Rattle.zk_incidents.proofs.ranks.Ranks.add.Goals as goal

pub returns : goal.returns
returns c =
    let rank : Rank = record { below = most - c.args.count; text = c.in_ok-text.text } in
    ap (map ranked) c.in_ok-insert.ensures.entries
    ∙ insert_ranked c.self.inside.counts.entries rank c.args.count
    ∙ ap (λ m. insert_entry rank_cmp m (rank_of rank) c.args.count) c.self.view_is
    ∙ ap (λ (t : List ℕ). insert_entry rank_cmp c.args.self.now (most - c.args.count, t) c.args.count) c.in_ok-text.ensures.ok
