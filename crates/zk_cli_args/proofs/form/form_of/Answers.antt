use Rattle.std.proofs.Common.{◌≡◌, ◌++◌, ◌-◌, Some, take, drop, length, option_map, rules, sym, ap, ◌∙◌, arith}
use Rattle.std.proofs.lemmas.List.{length-drop, take_all}
use Rattle.zk_cli_args.specs.Forms.{asked_at, form_at, shown_found}
use Rattle.zk_cli_args.proofs.FormLaws.{found, texts}
use Rattle.zk_cli_args.proofs.form.form_of.Goals as goal

pub returns-in_ok-extend_from_slice-in-Some : goal.returns-in_ok-extend_from_slice-in-Some
returns-in_ok-extend_from_slice-in-Some c =
    let words = c.args.words.now in
    let mark = c.mark_in-mark.result in
    let whole : take (length words - mark) (drop mark words) ≡ drop mark words = take_all (length words - mark) (drop mark words) (omega (arith, length-drop mark words)) in
    let asked : Some (c.in-Some.form, texts c.in-Some.rest.now) ≡ asked_at (texts (drop mark words)) = sym (ap (option_map shown_found) c.in-Some.is) ∙ c.asked_at.ensures ∙ ap (λ l. asked_at (texts l)) whole in
    let items : c.extend_from_slice.new.self.items ≡ take mark words ++ c.in-Some.rest.now = search rules in
    found words mark c.in-Some.form c.in-Some.rest.now c.extend_from_slice.new.self.items items asked ∙ ap (λ m. form_at m (texts words)) c.mark_in-mark.ensures.mark
