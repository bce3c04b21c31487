use Rattle.std.proofs.Common.{◌≡◌, sym, ◌∙◌, ℕ, ◌++◌, subst, true, false}
use Rattle.std.specs.Char.{is_ascii_control}
use lib.Utf8.{encode}
use Rattle.zk_listing.proofs.InsideQuotes.{inside_control, inside_empty, inside_closes, inside_escape, inside_bad_escape, inside_plain}
use Rattle.zk_listing.proofs.quoting.spelled_char.Goals as goal

pub returns-then-is_ascii_control : goal.returns-then-is_ascii_control
returns-then-is_ascii_control c =
    let test = c.in-Some.c-test in
    let control : is_ascii_control c.in-Some.c ≡ true = sym c.is_ascii_control.ensures.value ∙ c.if-is_ascii_control.true in
    inside_control c.args.input.now.now c.next_char.new.input.now c.in-Some.c c.in-Some.ensures test.0.1 test.1 control

pub returns-in-None : goal.returns-in-None
returns-in-None c = inside_empty c.args.input.now.now c.in-None.ensures

pub returns-in-Some-eq34 : goal.returns-in-Some-eq34
returns-in-Some-eq34 c =
    let text = c.args.input.now.now in
    let rest = c.next_char.new.input.now in
    inside_closes text rest (subst (λ (d : ℕ). text ≡ encode d ++ rest) c.in-Some-eq34.field-0-test c.in-Some-eq34.ensures)

pub returns-in-Some-escape : goal.returns-in-Some-escape
returns-in-Some-escape c =
    let text = c.args.input.now.now in
    let middle = c.next_char.new.input.now in
    let backslash = subst (λ (d : ℕ). text ≡ encode d ++ middle) c.in-Some-eq92.field-0-test c.in-Some-eq92.ensures in
    let step = inside_escape text middle c.escape.new.input.now c.in-Some-escape.c backslash c.in-Some-escape.ensures in
    (step.shorter, step.same)

pub returns-in-None-escape : goal.returns-in-None-escape
returns-in-None-escape c =
    let text = c.args.input.now.now in
    let middle = c.next_char.new.input.now in
    let backslash = subst (λ (d : ℕ). text ≡ encode d ++ middle) c.in-Some-eq92.field-0-test c.in-Some-eq92.ensures in
    inside_bad_escape text middle backslash c.in-None-escape.ensures

pub returns-else-is_ascii_control : goal.returns-else-is_ascii_control
returns-else-is_ascii_control c =
    let test = c.in-Some.c-test in
    let plain : is_ascii_control c.in-Some.c ≡ false = sym c.is_ascii_control.ensures.value ∙ c.if-is_ascii_control.false in
    let step = inside_plain c.args.input.now.now c.next_char.new.input.now c.in-Some.c c.in-Some.ensures test.0.1 test.1 plain in
    (step.shorter, step.same)
