use Rattle.std.proofs.Common.{◌≡◌, ◌∙◌, ℕ, IfOk, Option, Result, Ok, sym, ap, subst}
use Rattle.zk_connections.specs.Inputs.{taken_next}
use Rattle.zk_frames.specs.Frames.{next_frame_in}
use Rattle.zk_frames.specs.declared.fault.FrameFault.{FrameFault}
use Rattle.zk_connections.proofs.connection.Connection.take_request.Goals as goal

pub returns-in-Ok-Some-clause-taken : goal.returns-in-Ok-Some-clause-taken
returns-in-Ok-Some-clause-taken c =
    subst (λ (frame : Result (Option ℕ) FrameFault). IfOk c.take_frame.result (λ taken. taken_next frame c.args.self.now ≡ (c.take_frame.new.self, taken))) (sym (ap Ok c.in-Ok-Some.field-0-is) ∙ c.in-Ok-Some.ensures.length ∙ ap next_frame_in c.as_slice.ensures) c.take_frame.ensures.taken
