-- Which read sets a saved watch, and for whom.
use Rattle.std.proofs.Common.{◌≡◌, ℕ, List, Option, Some, None, refl, sym, ap}
use Rattle.std.specs.Prelude.{is_some, option_map}
use Rattle.std.proofs.lemmas.Bool.{false≢true}
use Rattle.zk_hub.specs.Reads.{Reader}
use Rattle.zk_hub.specs.Resumptions.{set_by, with_watch_at}
use Rattle.zk_hub.specs.declared.reading.Resumption.{Resumption}
use Rattle.zk_client_session.specs.SavedWatches.{setting_call}
use Rattle.zk_client_session.specs.declared.saved_watch.SavedWatch.{SavedWatch}
use Rattle.zk_table.specs.declared.read.ReadCall.{ReadCall}

call_or : ReadCall → Option ReadCall → ReadCall
call_or call None = call
call_or call (Some other) = other

pub by_call : (client : Resumption) (watch : SavedWatch) (path : Option (List ℕ)) (call : ReadCall) (it : Reader)
    → Some call ≡ option_map (setting_call watch.kind) path → set_by watch.kind client call it ≡ with_watch_at client watch path it
unfolding call_or
by_call client watch None call it is = absurd (false≢true (sym (ap is_some is)))
by_call client watch (Some path) call it is = ap (λ (call : ReadCall). set_by watch.kind client call it) (ap (call_or call) is)

pub by_none : (client : Resumption) (watch : SavedWatch) (path : Option (List ℕ)) (it : Reader)
    → None ≡ option_map (setting_call watch.kind) path → it ≡ with_watch_at client watch path it
by_none client watch None it is = refl
by_none client watch (Some path) it is = absurd (false≢true (ap is_some is))
