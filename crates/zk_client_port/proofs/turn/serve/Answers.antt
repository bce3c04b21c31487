use Rattle.std.proofs.Common.{rules}
use Rattle.zk_client_port.proofs.Frames.{err_map, on_ok}
use Rattle.zk_client_port.specs.Execution.{served}
use Rattle.zk_client_port.specs.Serving.{Broken}
use Rattle.zk_client_port.proofs.turn.serve.Goals as goal

pub returns-clause-serves : goal.returns-clause-serves
returns-clause-serves g c = on_ok c.serve_frames.result c.serve_frames.ensures.serves (λ serves. record {
  first = served c.flush_if.new.host c.flush_if.new.hub c.flush_if.new.connection;
  flushes = search rules;
  serves = serves;
})

pub returns-clause-breaks : goal.returns-clause-breaks
returns-clause-breaks g c =
    err_map c.serve_frames.result c.serve_frames.ensures.breaks
    (λ fault breaks. Broken (served c.flush_if.new.host c.flush_if.new.hub c.flush_if.new.connection) (search rules) breaks)
