-- The last transaction of a shown log, by a word.
use Rattle.std.proofs.Common.{◌≡◌, ℕ, ℤ, List, [], ◌∷◌, Option, Some, None, refl, sym, ap, ◌∙◌, codes, arith}
use Rattle.zk_cli_args.specs.Commands.{IsUpto, NamesBy, ReadsJobBy, ReadsUpto, ShowsUpto, upto_text}
use Rattle.zk_cli_args.specs.Zxids.{padded}
use Rattle.zk_cli_args.specs.declared.command.Order.{Order}
use Rattle.zk_cli_args.specs.declared.command.Order.TheVariants as orders
use Rattle.zk_cli_args.proofs.NamesLaws.{apart}

pub named_show : (input word plain : List ℕ) (upto : Option ℤ) → plain ≡ padded word → ReadsUpto plain (Some upto) → IsUpto upto → NamesBy (codes "show") (input ∷ word ∷ []) (orders.Show upto) input None (codes "@")
named_show input word plain upto e f fits = (refl, (word, refl, sym e ∙ f), fits, refl, refl)

never_shown : (input word plain : List ℕ) → plain ≡ padded word → ReadsUpto plain None → (order : Order) (i : List ℕ) (s : Option (List ℕ)) (t : List ℕ) → NamesBy (codes "show") (input ∷ word ∷ []) order i s t → ⊥
never_shown input word plain e unread (orders.Show upto) i s t p =
    let both : input ∷ word ∷ [] ≡ i ∷ p.1.0 ∷ [] = p.1.1 in
    let one : word ≡ p.1.0 = cc both in
    unread upto p.2 (e ∙ ap padded one ∙ p.1.2)
never_shown input word plain e unread orders.List i s t p = apart (codes "list") (codes "show") 108 115 refl refl (omega arith) (sym p.0)
never_shown input word plain e unread orders.Asm i s t p = apart (codes "asm") (codes "show") 97 115 refl refl (omega arith) (sym p.0)
never_shown input word plain e unread orders.Mend i s t p = apart (codes "mend") (codes "show") 109 115 refl refl (omega arith) (sym p.0)
never_shown input word plain e unread orders.Debug i None t p = p
never_shown input word plain e unread orders.Debug i (Some s) t p = apart (codes "debug") (codes "show") 100 115 refl refl (omega arith) (sym p.0)
never_shown input word plain e unread (orders.Session prompts) i s t p = apart (codes "debug") (codes "show") 100 115 refl refl (omega arith) (sym p.0)
never_shown input word plain e unread orders.Run i s t p = apart (codes "run") (codes "show") 114 115 refl refl (omega arith) (sym p.0)

pub not_shown : (input word plain : List ℕ) → plain ≡ padded word → ReadsUpto plain None → ReadsJobBy (codes "show") (input ∷ word ∷ []) None
not_shown input word plain e unread = λ order i s t prompts p. never_shown input word plain e unread order i s t p
