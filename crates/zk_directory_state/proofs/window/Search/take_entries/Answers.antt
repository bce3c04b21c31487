use Rattle.std.proofs.Common.{◌≡◌, ◌<◌, ◌≤◌, rules, length, get_or}
use Rattle.zk_directory_state.proofs.Searching.{all_searched, searches_on}
use Rattle.zk_directory_state.proofs.window.Search.take_entries.Goals as goal

pub loop-entry-preserved : goal.loop-entry-preserved
loop-entry-preserved c =
    let items = c.args.entries.now in
    let lt : c.loop-entry.entry-index < length items = search rules in
    let is : c.entry-item.result ≡ get_or items c.loop-entry.entry-index c.entry-item.result = search rules in
    searches_on _ _ _ items c.loop-entry.entry-index c.entry-item.result lt is c.in_ok-take.ensures c.loop-entry.invariant

pub returns : goal.returns
returns c =
    let items = c.args.entries.now in
    let le : length items ≤ c.loop-entry.entry-index = search rules in
    all_searched _ _ items c.loop-entry.entry-index le c.loop-entry.invariant
