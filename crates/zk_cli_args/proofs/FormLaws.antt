-- The words around those that ask for a form.
use Rattle.std.proofs.Common.{◌≡◌, ℕ, List, ◌++◌, take, drop, map, Option, Some, sym, ap, ◌∙◌}
use Rattle.std.proofs.lemmas.List.{drop-map, map-append, take-map}
use Rattle.std.specs.Borrow.{Bor}
use Rattle.zk_cli_args.specs.Forms.{Found, asked_at, form_at, found_after}
use Rattle.zk_cli_args.specs.declared.form.Form.{Form}

abbrev pub texts : List (Bor (List ℕ)) → List (List ℕ)
texts words = map (λ (word : Bor (List ℕ)). word.now) words

pub found : (words : List (Bor (List ℕ))) (mark : ℕ) (form : Form) (rest others : List (Bor (List ℕ))) → others ≡ take mark words ++ rest → Some (form, texts rest) ≡ asked_at (texts (drop mark words)) → (form, texts others) ≡ form_at mark (texts words)
found words mark form rest others items asked =
    let front : texts others ≡ take mark (texts words) ++ texts rest = ap texts items ∙ map-append (λ (word : Bor (List ℕ)). word.now) (take mark words) rest ∙ ap (λ (l : List (List ℕ)). l ++ texts rest) (sym (take-map (λ (word : Bor (List ℕ)). word.now) mark words)) in
    let back : Some (form, texts rest) ≡ asked_at (drop mark (texts words)) = asked ∙ ap asked_at (sym (drop-map (λ (word : Bor (List ℕ)). word.now) mark words)) in
    ap (λ (l : List (List ℕ)). (form, l)) front ∙ ap (found_after (take mark (texts words)) (drop mark (texts words))) back
