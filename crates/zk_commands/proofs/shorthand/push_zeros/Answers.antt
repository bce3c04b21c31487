use Rattle.std.proofs.Common.{ℕ, List, [], ◌∷◌, ◌++◌, replicate, ap, ◌∙◌, append_assoc, arith}
use Rattle.std.proofs.lemmas.List.{replicate-append-replicate}
use Rattle.std.specs.String.{string_bytes}
use Rattle.zk_commands.proofs.shorthand.push_zeros.Goals as goal

pub loop-preserved : goal.loop-preserved
loop-preserved c =
    c.in_ok-push_zero.ensures
    ∙ ap (λ (l : List ℕ). l ++ 48 ∷ []) c.loop.invariant
    ∙ append_assoc (string_bytes c.args.text.now) (replicate c.loop.counter 48) (48 ∷ [])
    ∙ ap (λ (l : List ℕ). string_bytes c.args.text.now ++ l) (replicate-append-replicate c.loop.counter 1 48)

pub returns : goal.returns
returns c = c.loop.invariant ∙ ap (λ (n : ℕ). string_bytes c.args.text.now ++ replicate n 48) (omega (arith, c.loop-test.false, c.loop.auto.counter-end))
