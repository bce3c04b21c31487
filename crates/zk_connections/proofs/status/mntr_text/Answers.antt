use Rattle.std.proofs.Common.{refl}
use Rattle.zk_connections.proofs.status.mntr_text.Goals as goal

pub returns : goal.returns
returns c =
    rw (c.in_ok-push_count-3.ensures, c.in_ok-push_word.ensures, c.mode_text.ensures, c.in_ok-push_count-2.ensures, c.in_ok-push_count.ensures, c.in_ok-text.ensures.ok) refl
