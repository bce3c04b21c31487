use Rattle.zab_frames.specs.Messages.{long_word, body_of, contents_of}
use Rattle.zab_frames.proofs.Joined.{joined_three}
use Rattle.zab_frames.proofs.writing.put_message.Goals as goal

pub returns-clause-written : goal.returns-clause-written
unfolding contents_of
returns-clause-written c =
    let message = c.args.message.now in
    joined_three c.args.out.now.items (long_word message.sender) (long_word message.addressee) (body_of message.body) _ _ _ c.in_ok-put_long_word.ensures.written c.in_ok-put_long_word-2.ensures.written c.in_ok-put_body.ensures.written
