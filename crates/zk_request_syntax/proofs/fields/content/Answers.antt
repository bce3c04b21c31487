use Rattle.std.proofs.Common.{◌≡◌, true, false, sym, ◌∙◌}
use Rattle.zk_listing.specs.Reading.{content_at}
use Rattle.zk_listing.proofs.PartLaws.{content_exact}
use Rattle.zk_format.specs.Listings.{IsListedContent}
use Rattle.zk_format.specs.Spelling.{content_text}
use Rattle.zk_request_syntax.specs.Reading.{begins_with_quote, content_field_at}
use Rattle.zk_request_syntax.proofs.Ended.{takes_ended, takes_itself}
use Rattle.zk_request_syntax.proofs.fields.content.Goals as goal

pub returns-then-begins_with_quote : goal.returns-then-begins_with_quote
unfolding content_field_at
returns-then-begins_with_quote c =
    let quote : begins_with_quote c.args.input.now.now ≡ true = sym c.begins_with_quote.ensures ∙ c.if-begins_with_quote.true in
    rw quote c.text_content.ensures

pub returns : goal.returns
unfolding content_field_at
returns c =
    let none : begins_with_quote c.args.input.now.now ≡ false = sym c.begins_with_quote.ensures ∙ c.if-begins_with_quote.false in
    let found = takes_ended (λ x. x) content_text IsListedContent content_at content_exact c.args.input.now.now c.read_content-read.result c.read_content-read.new.input.now c.read_content-read.ensures.found c.read_content-read.ensures.only in
    rw none (takes_itself _ _ _ (rw c.ended.ensures found))
