use Rattle.std.proofs.Common.{arith}
use Rattle.std.proofs.lemmas.Bool.{ltb-true, ltb-false}
use Rattle.zk_listing.proofs.Rejected.{spells, spells_nothing}
use Rattle.zk_listing.proofs.digits.decode_lower_to.Goals as goal

pub returns-clause-bytes : goal.returns-clause-bytes
returns-clause-bytes c = λ all. spells c.decode_into.new.bytes c.args.digits.now c.decode_into.ensures.fits (c.decode_into.ensures.spelled (ltb-true _ _ all))

pub returns-clause-none : goal.returns-clause-none
returns-clause-none c = λ some.
    let bad = c.decode_into.ensures.bad (ltb-false _ _ some) in
    spells_nothing c.args.digits.now bad.0 (omega (arith, c.requires)) bad.1 bad.2
