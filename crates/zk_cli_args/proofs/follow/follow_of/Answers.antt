use Rattle.std.proofs.Common.{◌≡◌, ◌++◌, Some, None, List, ℕ, Bor, take, option_map, rules, sym, ap, ◌∙◌}
use Rattle.zk_cli_args.proofs.FollowLaws.{Asked, found, not_found, texts}
use Rattle.zk_cli_args.proofs.follow.follow_of.Goals as goal

pub returns-in_ok-extend_from_slice-in-Some : goal.returns-in_ok-extend_from_slice-in-Some
returns-in_ok-extend_from_slice-in-Some c =
    let words = c.args.words.now in
    let mark = c.mark_in-mark.result in
    let rest = c.in-Some.rest.now in
    let asked : Asked words mark (Some (texts rest)) = sym (ap (option_map (λ (l : Bor (List (Bor (List ℕ)))). texts l.now)) c.in-Some.is) ∙ c.after_follow.ensures in
    let items : c.extend_from_slice.new.self.items ≡ take mark words ++ rest = search rules in
    found words rest c.extend_from_slice.new.self.items mark c.mark_in-mark.ensures.mark asked items

pub returns-in-None : goal.returns-in-None
returns-in-None c =
    let words = c.args.words.now in
    let mark = c.mark_in-mark.result in
    let asked : Asked words mark None = sym (ap (option_map (λ (l : Bor (List (Bor (List ℕ)))). texts l.now)) c.in-None.is) ∙ c.after_follow.ensures in
    not_found words mark c.mark_in-mark.ensures.mark asked
