use Rattle.std.proofs.Common.{◌≡◌, ℕ, ℤ, pos, negsuc, ◌+◌, ◌-◌, ◌^◌, List, [], ◌∷◌, ◌++◌, length, replicate, decimal, suc, ap, ap₂, ◌∙◌, append-nil, arith, le-ltb, w32}
use Rattle.std.proofs.lemmas.Int.{to_z-of_z}
use Rattle.std.specs.Fmt.{format_spec, padded_integral, char_count, styled_signed_decimal}
use Rattle.zk_path.specs.Sequences.{sequence}
use Rattle.zk_path.proofs.sequences.sequence.Goals as goal

zeros_between : (sign digits : List ℕ) (m n : ℕ) → m ≡ n → sign ++ replicate m 48 ++ (digits ++ []) ≡ sign ++ replicate n 48 ++ digits
zeros_between sign digits m n same = ap₂ (λ zeros shown. sign ++ replicate zeros 48 ++ shown) same (append-nil digits)

-- the output of `{:010}`
padded : (number : ℤ) → styled_signed_decimal (format_spec 32 0 4 10 (2 ^ 64 - 1)) number ≡ sequence number
unfolding padded_integral char_count
padded (pos n) =
    ap (λ negative. padded_integral (format_spec 32 0 4 10 (2 ^ 64 - 1)) negative [] (decimal n)) (le-ltb n 0 (omega arith))
    ∙ zeros_between [] (decimal n) (10 - length (decimal n) - 0 - 0) (10 - (0 + length (decimal n))) (omega arith)
padded (negsuc n) =
    zeros_between (45 ∷ []) (decimal (suc n)) (10 - length (decimal (suc n)) - 1 - 0) (10 - (1 + length (decimal (suc n)))) (omega arith)

pub returns : goal.returns
returns c = c.in_ok-format.ensures.ok ∙ ap₂ styled_signed_decimal c.laid_out.ensures (to_z-of_z w32 c.args.number c.ranges.number) ∙ padded c.args.number
