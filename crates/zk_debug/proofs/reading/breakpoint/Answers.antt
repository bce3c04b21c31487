use Rattle.std.proofs.Common.{◌≡◌, false, None, refl, sym, ◌∙◌, lit<}
use Rattle.std.specs.Prelude.{codes}
use Rattle.std.specs.Str.{bytes_eq}
use Rattle.zk_debug.specs.Reading.{Makes, breakpoint_by, breakpoint_from}
use Rattle.zk_debug.proofs.Words.{by_word_alone, by_word_and_field}
use Rattle.zk_debug.proofs.reading.breakpoint.Goals as goal

pub returns-in-None : goal.returns-in-None
unfolding breakpoint_from
returns-in-None c =
    let other : bytes_eq c.args.text.now (codes "error") ≡ false = sym c.eq.ensures ∙ c.if-eq.false in
    rw other (by_word_alone (λ word field. breakpoint_by word field ≡ None) c.args.text.now (c.in-None.ensures.byte (lit< tt) (λ w o h. h)) refl)

pub returns-in-Some : goal.returns-in-Some
unfolding breakpoint_from
returns-in-Some c =
    let other : bytes_eq c.args.text.now (codes "error") ≡ false = sym c.eq.ensures ∙ c.if-eq.false in
    let cut = c.in-Some.ensures.byte (lit< tt) (λ w o h. h) in
    rw other (by_word_and_field (λ word field. Makes c.breakpoint_with.result (breakpoint_by word field)) c.args.text.now c.in-Some.word.now c.in-Some.field.now cut.0 cut.1 cut.2 c.breakpoint_with.ensures)
