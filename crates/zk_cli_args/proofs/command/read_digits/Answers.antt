use Rattle.std.proofs.Common.{◌≡◌, ◌++◌, true, false, Ok, sym, ap, ◌∙◌}
use Rattle.std.proofs.lemmas.Slice.Eq.{bytes_eq-Decides}
use Rattle.std.specs.Str.{bytes_eq}
use Rattle.hex.specs.Hex.{decode_sized}
use Rattle.zk_format.specs.Spelling.{sixteen_digits}
use Rattle.zk_cli_args.proofs.DigitsLaws.{same_bits, digits_are_read}
use Rattle.zk_cli_args.proofs.command.read_digits.Goals as goal

pub returns-in_default : goal.returns-in_default
returns-in_default c = λ bits fits e.
    digits_are_read c.args.word.now c.in_default.field-0 bits (sym c.from_hex.ensures ∙ c.in_default.is) e

pub returns : goal.returns
returns c = λ bits fits e.
    let word = c.args.word.now in
    let read : decode_sized word 8 ≡ Ok c.in-Ok.bytes = sym c.from_hex.ensures ∙ c.in-Ok.is in
    let value : c.from_be_bytes-bits.result ≡ bits = c.from_be_bytes-bits.ensures ∙ same_bits word c.in-Ok.bytes bits fits read e in
    let digits : c.as_str.result.now ≡ word =
    c.as_str.ensures.value ∙ (c.in_ok-push_digits.ensures.appended ∙ (ap (λ l. l ++ sixteen_digits c.from_be_bytes-bits.result) c.new-digits.ensures.bytes ∙ (ap sixteen_digits value ∙ sym e))) in
    let equal : bytes_eq c.as_str.result.now word ≡ true = (bytes_eq-Decides c.as_str.result.now word).1 digits in
    let differs : false ≡ bytes_eq c.as_str.result.now word = c.if-eq.ensures in
    let never : false ≡ true = differs ∙ equal in
    cc
