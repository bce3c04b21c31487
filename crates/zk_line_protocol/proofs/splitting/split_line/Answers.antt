use Rattle.std.proofs.Common.{ℕ, ◌+◌, List, ◌∷◌, ◌++◌, take, sym, ap, ◌∙◌}
use Rattle.std.proofs.lemmas.List.{take_rest}
use Rattle.zk_line_protocol.proofs.LineLaws.{split_at_newline, no_newline}
use Rattle.zk_line_protocol.proofs.splitting.split_line.Goals as goal

pub returns-in-Some : goal.returns-in-Some
returns-in-Some c =
    let p = split_at_newline c.args.bytes.now c.in-Some.at (sym c.in-Some.ensures) in
    (p.0 ∙ ap (λ (l : List ℕ). take c.in-Some.at c.args.bytes.now ++ 10 ∷ l) (sym (take_rest c.args.bytes.now (c.in-Some.at + 1))), p.1)

pub returns-in-None : goal.returns-in-None
returns-in-None c = no_newline c.args.bytes.now (sym c.in-None.ensures)
