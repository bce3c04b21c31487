use Rattle.std.proofs.Common.{◌≡◌, None, ap, sym, ◌∙◌, rules}
use Rattle.zab_frames.specs.Frames.{first_in}
use Rattle.zab_frames.specs.declared.fault.FrameFault.TheVariants as frames
use Rattle.zab_frames.specs.Streams.{IsNoMessage}
use Rattle.zab_frames.proofs.FrameLaws.{seen_some, if_none}
use Rattle.zab_frames.proofs.StreamLaws.{breaks_at, broken_first}
use Rattle.zab_frames.proofs.decoder.Decoder.next.Goals as goal

pub returns-in-Ok-None-read_message-clause-broken :
    goal.returns-in-Ok-None-read_message-clause-broken
returns-in-Ok-None-read_message-clause-broken c =
    let sound : c.args.self.now.fault ≡ None = search rules in
    let first = ap first_in (sym c.rest.ensures) ∙ seen_some (λ s. s.now) c.in-Ok-Some.field-0 c.in-Ok-Some.contents _ c.in-Ok-Some.field-0-is c.in-Ok-Some.ensures.exact in
    let none = if_none c.in-Ok-None-read_message.field-0 (IsNoMessage c.in-Ok-Some.contents.now) c.in-Ok-None-read_message.field-0-is c.in-Ok-None-read_message.ensures.none in
    breaks_at c.args.self.now c.stop.new.self frames.Contents c.stop.result sound (c.in-Ok-Some.contents.now, (first, none)) c.stop.ensures.fault c.stop.ensures.stopped

pub returns-in-Err-clause-broken : goal.returns-in-Err-clause-broken
returns-in-Err-clause-broken c =
    let sound : c.args.self.now.fault ≡ None = search rules in
    let first = ap first_in (sym c.rest.ensures) ∙ sym c.in-Err.ensures.exact in
    breaks_at c.args.self.now c.stop-in-Err.new.self c.in-Err.fault c.stop-in-Err.result sound (broken_first c.args.self.now.rest c.in-Err.fault first) c.stop-in-Err.ensures.fault c.stop-in-Err.ensures.stopped
