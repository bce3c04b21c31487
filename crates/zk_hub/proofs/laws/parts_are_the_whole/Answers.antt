use Rattle.std.proofs.Common.{◌≡◌, ◌∙◌, List, [], ◌∷◌, ◌++◌, refl, sym, ap, append_assoc}
use Rattle.zk_client_session.specs.declared.reply.WatchEvent.{WatchEvent}
use Rattle.zk_client_session.specs.declared.saved_watch.SavedWatch.{SavedWatch}
use Rattle.zk_hub.specs.Reads.{Reader}
use Rattle.zk_hub.specs.Resumptions.{after_watch, after_watches, event_of, events_of, one_or_none}
use Rattle.zk_hub.specs.declared.reading.Resumption.{Resumption}
use Rattle.zk_hub.proofs.laws.parts_are_the_whole.Goals as goal

sets_all : (client : Resumption) (first rest : List SavedWatch) (it : Reader) → after_watches client (first ++ rest) it ≡ after_watches client rest (after_watches client first it)
sets_all client [] rest it = refl
sets_all client (watch ∷ first) rest it = sets_all client first rest (after_watch client watch it)

fires_all : (client : Resumption) (first rest : List SavedWatch) (it : Reader) → events_of client (first ++ rest) it ≡ events_of client first it ++ events_of client rest (after_watches client first it)
fires_all client [] rest it = refl
fires_all client (watch ∷ first) rest it =
    let next = after_watch client watch it in
    ap (λ (events : List WatchEvent). one_or_none (event_of client watch it) ++ events) (fires_all client first rest next)
    ∙ sym (append_assoc (one_or_none (event_of client watch it)) (events_of client first next) (events_of client rest (after_watches client first next)))

pub returns : goal.returns
returns c = λ client first rest it. (sets_all client first rest it, fires_all client first rest it)
