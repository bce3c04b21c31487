use Rattle.std.proofs.Common.{◌≡◌, ◌∙◌, ◌++◌, ℕ, List, w64, to_z, of_z, rules, ap, subst, append_assoc}
use Rattle.std.proofs.lemmas.Int.{to_z-of_z}
use Rattle.std.specs.FinMap.{entries}
use Rattle.std.specs.List.{flat_map}
use Rattle.std.specs.Prelude.{OnOk}
use Rattle.std.specs.String.{string_bytes}
use Rattle.zk_listing.specs.Reports.{line, entry_line, zxid_line, session_line, tree_node_line, tree_report}
use Rattle.zk_listing.proofs.NodeTexts.{lines_lent}
use Rattle.zk_directory_state.proofs.report.push_state.Goals as goal

pub returns : goal.returns
unfolding tree_report
returns c =
    let state = c.args.table.now.state in
    let text = string_bytes c.args.text.now in
    let head = line (zxid_line state.last) ++ flat_map (λ session. line (session_line session)) (entries state.sessions) in
    let nodes = flat_map (λ entry. line (tree_node_line state.nodes entry)) (entries state.nodes) in
    let last : to_z w64 (of_z w64 c.last.result) ≡ state.last = to_z-of_z w64 c.last.result (search rules) ∙ c.last.ensures in
    let told = ap (λ l. line (zxid_line state.last) ++ flat_map (λ session. line (session_line session)) l) (c.as_slice.ensures.value ∙ c.in_ok-sessions.ensures) in
    let page : string_bytes c.push_head_of.new.page ≡ text ++ head =
    c.in_ok-push_head_of.ensures.appended
    ∙ ap (λ z. text ++ (line (zxid_line z) ++ flat_map (λ session. line (session_line session)) c.as_slice.result.now)) last
    ∙ ap (λ l. text ++ l) told in
    let lines : flat_map entry_line c.as_slice-2.result.now ≡ nodes =
    ap (flat_map entry_line) c.as_slice-2.ensures.value ∙ lines_lent state.nodes c.in_ok-entries.entries.items c.in_ok-entries.ensures in
    let whole = ap (λ l. l ++ flat_map entry_line c.as_slice-2.result.now) page ∙ ap (λ l. (text ++ head) ++ l) lines ∙ append_assoc text head nodes in
    subst (λ (l : List ℕ). OnOk c.push_nodes.result (string_bytes c.push_nodes.new.text ≡ l)) whole c.push_nodes.ensures
