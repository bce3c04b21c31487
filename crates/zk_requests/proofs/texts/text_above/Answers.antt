use Rattle.std.proofs.Common.{sym, ◌∙◌}
use Rattle.zk_requests.proofs.Slashless.{above_none, above_empty, above_filled}
use Rattle.zk_requests.proofs.texts.text_above.Goals as goal

pub returns-in_default : goal.returns-in_default
returns-in_default c = above_none c.args.text.now c.in_default.ensures.cases

pub returns-then-is_empty : goal.returns-then-is_empty
returns-then-is_empty c = above_empty c.args.text.now c.in-Some.above.now c.in-Some.field-0-1.now c.in-Some.ensures.cases (sym c.is_empty.ensures ∙ c.if-is_empty.true)

pub returns-else-is_empty : goal.returns-else-is_empty
returns-else-is_empty c = above_filled c.args.text.now c.in-Some.above.now c.in-Some.field-0-1.now c.in-Some.ensures.cases (sym c.is_empty.ensures ∙ c.if-is_empty.false)
