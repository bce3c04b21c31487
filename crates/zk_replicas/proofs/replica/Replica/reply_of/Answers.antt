use Rattle.std.proofs.Common.{◌≡◌, cond, is_some, sym, ap, ◌∙◌}
use Rattle.std.specs.FinMap.{get-empty}
use Rattle.std.specs.Int.{w64, cast_unsigned}
use Rattle.std.specs.Ordering.{nat_cmp}
use Rattle.zk_model.specs.declared.event.Question.{Question}
use Rattle.zk_model.specs.Ensembles.{reply_of}
use Rattle.zk_table.specs.Reads.{reply_to}
use Rattle.zk_table.specs.States.{start_state}
use Rattle.zk_table.specs.Codes.{session_expired}
use Rattle.zk_table.specs.declared.read.ReadReply.TheVariants.{Refused}
use Rattle.zk_replicas.specs.Views.{tree_by}
use Rattle.zk_replicas.proofs.replica.Replica.reply_of.Goals as goal

-- no session is open in the start state
none_open : (question : Question) → Refused session_expired ≡ reply_of question start_state
none_open question =
    sym (ap (λ o. cond (is_some o) (reply_to start_state question.call question.auths) (Refused session_expired)) (get-empty nat_cmp (cast_unsigned w64 question.session)))

pub returns-in-None : goal.returns-in-None
returns-in-None c =
    none_open c.args.question.now
    ∙ ap (reply_of c.args.question.now) (ap tree_by (sym c.in-None.is) ∙ ap (λ v. v.tree) c.self.view_is)
