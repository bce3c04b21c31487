-- A read keeps its connection's number, and its input.
use Rattle.std.proofs.Common.{◌≡◌, ◌∙◌, ℕ, Bool, true, false, List, [], ◌∷◌, Option, Some, None, if◌then◌else◌, refl}
use Rattle.zk_hub.specs.Reads.{Reader, after_look}
use Rattle.zk_hub.specs.Replies.{after_ask, question, resumption}
use Rattle.zk_hub.specs.Resumptions.{after_watch, after_watches, event_since, question_for, setter, unless_fired, with_watch_at}
use Rattle.zk_hub.specs.declared.reading.Resumption.{Resumption}
use Rattle.zk_connections.specs.declared.connection.Connection.{Connection}
use Rattle.zk_client_session.specs.Links.{path_in}
use Rattle.zk_client_session.specs.SavedWatches.{setting_call}
use Rattle.zk_client_session.specs.declared.ask.Ask.{Ask}
use Rattle.zk_client_session.specs.declared.ask.Ask.TheVariants as asks
use Rattle.zk_client_session.specs.declared.saved_watch.SavedWatch.{SavedWatch}
use Rattle.zk_machine.specs.declared.change.ChangeKind.{ChangeKind}
use Rattle.zk_model.specs.declared.event.Question.{Question}
use Rattle.zk_table.specs.Replies.{path_read}

abbrev pub own : Connection → ℕ × List ℕ
own it = (it.number, it.input)

watch_keeps : (watch : Bool) (changed it : Connection) → own changed ≡ own it → own (if watch then changed else it) ≡ own it
watch_keeps true changed it kept = kept
watch_keeps false changed it kept = refl

look_keeps : (question : Question) (it : Reader) → own (after_look question it).connection ≡ own it.connection
look_keeps question it = watch_keeps question.watch _ it.connection refl

set_keeps : (client : Resumption) (watch : SavedWatch) (path : Option (List ℕ)) (it : Reader) → own (with_watch_at client watch path it).connection ≡ own it.connection
set_keeps client watch None it = refl
set_keeps client watch (Some path) it = look_keeps (question_for (setter watch.kind client (path_read (setting_call watch.kind path)) it) (setting_call watch.kind path) true) it

fired_keeps : (event : Option ChangeKind) (client : Resumption) (watch : SavedWatch) (it : Reader) → own (unless_fired event client watch it).connection ≡ own it.connection
fired_keeps (Some kind) client watch it = refl
fired_keeps None client watch it = set_keeps client watch (path_in watch.path) it

watches_keep : (client : Resumption) (watches : List SavedWatch) (it : Reader) → own (after_watches client watches it).connection ≡ own it.connection
watches_keep client [] it = refl
watches_keep client (watch ∷ watches) it = watches_keep client watches (after_watch client watch it) ∙ fired_keeps (event_since client watch it) client watch it

pub ask_keeps : (server : ℕ) (ask : Ask) (it : Reader) → own (after_ask server ask it).connection ≡ own it.connection
ask_keeps server (asks.Read session seen auths call watch) it = look_keeps (question server session seen auths call watch) it
ask_keeps server (asks.SetWatches session zxid auths watches) it = watches_keep (resumption server session zxid auths) watches it
ask_keeps server (asks.RemoveWatches path kind) it = refl
ask_keeps server (asks.Ephemerals session prefix) it = refl
ask_keeps server (asks.CountDescendants session seen auths path) it = refl
ask_keeps server (asks.Write session cxid auths request) it = refl
ask_keeps server (asks.Sync session) it = refl
