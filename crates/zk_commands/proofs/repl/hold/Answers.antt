use Rattle.zk_commands.proofs.repl.hold.Goals as goal

pub returns : goal.returns
returns g c = record {
  start = c.new-session.result;
  debugger = c.new-session.ensures.debugger;
  began = c.new-session.ensures.began;
  last = c.new-session.ensures.last;
  end = c.talk-ended.new.session;
  ended = c.talk-ended.result;
  talked = c.talk-ended.ensures.talked;
  reads = c.talk-ended.ensures.reads;
  writes = c.talk-ended.ensures.writes;
  tells = c.tell_end.ensures;
}
