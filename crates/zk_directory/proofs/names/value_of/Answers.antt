use Rattle.std.proofs.Common.{◌≡◌, get_or, Some, None, arith}
use Rattle.zk_directory.proofs.Digits.{no_digit, too_large}
use Rattle.zk_directory.specs.Names.{digit_in}
use Rattle.zk_directory.proofs.names.value_of.Goals as goal

pub returns-in_default : goal.returns-in_default
returns-in_default c =
    let case = c.args.case in
    let digits = c.args.digits.now in
    let i = c.loop-byte.byte-index in
    let read = c.digit_in.ensures.digit in
    let is = c.in_default.is in
    let none : digit_in case (get_or digits i 0) ≡ None = cc in
    no_digit case digits i c.loop-byte.value (omega arith) c.loop-byte.invariant.value none

pub returns-then-value-ge-SIXTEENTH : goal.returns-then-value-ge-SIXTEENTH
returns-then-value-ge-SIXTEENTH c =
    let case = c.args.case in
    let digits = c.args.digits.now in
    let i = c.loop-byte.byte-index in
    let read = c.digit_in.ensures.digit in
    let is = c.in-Some.is in
    let some : digit_in case (get_or digits i 0) ≡ Some c.in-Some.digit = cc in
    too_large case digits i c.loop-byte.value c.in-Some.digit (omega arith) c.loop-byte.invariant.value some (omega arith)
