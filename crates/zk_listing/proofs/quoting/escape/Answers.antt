use Rattle.std.proofs.Common.{◌≡◌, sym, ℕ, ◌++◌, subst, []}
use lib.Utf8.{encode}
use Rattle.zk_listing.specs.Reading.{TakesChar, TakesFirst}
use Rattle.zk_listing.proofs.InsideQuotes.{escape_quote, escape_backslash, escape_u, escape_other, escape_empty}
use Rattle.zk_listing.proofs.quoting.escape.Goals as goal

pub returns-in-Some-eq34 : goal.returns-in-Some-eq34
returns-in-Some-eq34 c =
    let text = c.args.input.now.now in
    let rest = c.next_char.new.input.now in
    escape_quote text rest (subst (λ (d : ℕ). text ≡ encode d ++ rest) c.in-Some-eq34.field-0-test c.in-Some-eq34.ensures)

pub returns-in-Some-eq92 : goal.returns-in-Some-eq92
returns-in-Some-eq92 c =
    let text = c.args.input.now.now in
    let rest = c.next_char.new.input.now in
    escape_backslash text rest (subst (λ (d : ℕ). text ≡ encode d ++ rest) c.in-Some-eq92.field-0-test c.in-Some-eq92.ensures)

pub returns-in-Some-u : goal.returns-in-Some-u
returns-in-Some-u c =
    let text = c.args.input.now.now in
    let rest = c.next_char.new.input.now in
    let e = escape_u text rest (subst (λ (d : ℕ). text ≡ encode d ++ rest) c.in-Some-u.field-0-test c.in-Some-u.ensures) in
    subst (TakesChar c.braced.result c.braced.new.input.now) (sym e) c.braced.ensures

pub returns-in_default : goal.returns-in_default
returns-in_default c =
    let test = c.in_default.field-0-test in
    escape_other c.args.input.now.now c.next_char.new.input.now _ c.in_default.ensures test.0.0.1 test.0.1 test.1

pub returns-in_default-2 : goal.returns-in_default-2
returns-in_default-2 c =
    let text = c.args.input.now.now in
    let nothing : text ≡ [] = subst (λ r. TakesFirst r c.next_char.new.input.now text) c.in_default.is c.next_char.ensures in
    escape_empty text nothing
