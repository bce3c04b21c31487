use Rattle.std.proofs.Common.{◌≡◌, ◌∙◌, ◌++◌, ℕ, List, OnOk, ap, sym, append_assoc}
use Rattle.std.specs.FinMap.{entries}
use Rattle.std.specs.List.{flat_map}
use Rattle.std.specs.String.{string_bytes}
use Rattle.zk_tree.specs.Entries.{entries_of}
use Rattle.zk_listing.specs.Reports.{line, entry_line, zxid_line, session_line, tree_node_line, tree_report}
use Rattle.zk_listing.proofs.NodeTexts.{lines_lent, appended_both}
use Rattle.zk_listing.proofs.report.spell_tree.Goals as goal

pub returns : goal.returns
unfolding tree_report
returns c =
    let state = c.args.machine.now.state in
    let head = line (zxid_line state.last) ++ flat_map (λ session. line (session_line session)) (entries state.sessions) in
    let nodes = flat_map (λ entry. line (tree_node_line state.nodes entry)) (entries state.nodes) in
    let lines : flat_map entry_line c.as_slice.result.now ≡ nodes = ap (flat_map entry_line) c.as_slice.ensures.value ∙ lines_lent state.nodes c.in_ok-entries.entries.items (c.in_ok-entries.ensures ∙ ap entries_of c.in-Ok.ensures.tree.1) in
    appended_both c.push_entries.result (string_bytes c.args.page.now) (string_bytes c.push_head.new.page) (string_bytes c.push_entries.new.page) head nodes (flat_map entry_line c.as_slice.result.now) c.in_ok-push_head.ensures.appended lines c.push_entries.ensures
