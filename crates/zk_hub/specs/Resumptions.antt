-- The watches that a client had at another connection: `zookeeper.jute`, `SetWatches`; ZooKeeper
-- Programmer's Guide, "What ZooKeeper Guarantees about Watches".
use Rattle.std.specs.Prelude.{◌≡◌, ℕ, pos, Bool, true, false, List, [], ◌∷◌, ◌++◌, map, Option, None, Some, option_map, Result, Ok, Err}
use Rattle.zk_acl.specs.declared.acl.Id.{Id}
use Rattle.zk_hub.specs.Reads.{Reader, after_look, last_at, seen_at, IsReason}
use Rattle.zk_hub.specs.declared.reading.Resumption.{Resumption}
use Rattle.zk_host.specs.declared.host_fault.ReadFault.{ReadFault}
use Rattle.zk_client_session.specs.Links.{path_in}
use Rattle.zk_client_session.specs.SavedWatches.{event_by, found_stat, setting_call}
use Rattle.zk_client_session.specs.declared.reply.WatchEvent.{WatchEvent}
use Rattle.zk_client_session.specs.declared.saved_watch.SavedWatch.{SavedWatch}
use Rattle.zk_client_session.specs.declared.saved_watch.SavedWatchKind.{SavedWatchKind}
use Rattle.zk_client_session.specs.declared.saved_watch.SavedWatchKind.TheVariants as kinds
use Rattle.zk_machine.specs.declared.change.ChangeKind.{ChangeKind}
use Rattle.zk_model.specs.declared.event.Question.{Question}
use Rattle.zk_table.specs.Replies.{path_read}
use Rattle.zk_table.specs.declared.read.ReadCall.{ReadCall}
use Rattle.zk_table.specs.declared.read.ReadCall.TheVariants as calls
use Rattle.zk_table.specs.declared.read.ReadReply.{ReadReply}
use Rattle.zk_table.specs.declared.read.ReadReply.TheVariants as replies

-- a read for the client, no matter what it has seen
abbrev pub question_for : Resumption → ReadCall → Bool → Question
question_for client call watch = record {
  server = client.server;
  session = client.session;
  seen = pos 0;
  auths = client.auths;
  call = call;
  watch = watch;
}

-- ---- one watch

-- what a read of existence gives now; None at an invalid path
abbrev pub found_at : Resumption → SavedWatch → Reader → Option ReadReply
found_at client watch it = option_map (λ path. seen_at (question_for client (calls.Exists path) false) it) (path_in watch.path)

-- the event that has happened since the transaction that the client names
abbrev pub event_since : Resumption → SavedWatch → Reader → Option ChangeKind
event_since client watch it = event_by watch.kind client.relative_zxid (found_stat (found_at client watch it))

abbrev pub fired : SavedWatch → ChangeKind → WatchEvent
fired watch kind = record { kind = kind; path = watch.path }

-- it fires at once
abbrev pub event_of : Resumption → SavedWatch → Reader → Option WatchEvent
event_of client watch it = option_map (fired watch) (event_since client watch it)

-- or it is set. A watch of children needs no right to read them: it is set as if by all that the
-- node's access control list names.
abbrev pub named_in : ReadReply → List Id
named_in (replies.AclIs acl stat) = map (λ entry. entry.id) acl
named_in other = []

abbrev pub list_at : Resumption → List ℕ → Reader → ReadReply
list_at client path it = seen_at (question_for client (calls.GetAcl path) false) it

abbrev pub setter : SavedWatchKind → Resumption → List ℕ → Reader → Resumption
setter kinds.Child client path it = record client { auths = named_in (list_at client path it) }
setter kind client path it = client

abbrev pub set_by : SavedWatchKind → Resumption → ReadCall → Reader → Reader
set_by kind client call it = after_look (question_for (setter kind client (path_read call) it) call true) it

abbrev pub with_watch_at : Resumption → SavedWatch → Option (List ℕ) → Reader → Reader
with_watch_at client watch None it = it
with_watch_at client watch (Some path) it = set_by watch.kind client (setting_call watch.kind path) it

abbrev pub unless_fired : Option ChangeKind → Resumption → SavedWatch → Reader → Reader
unless_fired (Some kind) client watch it = it
unless_fired None client watch it = with_watch_at client watch (path_in watch.path) it

abbrev pub after_watch : Resumption → SavedWatch → Reader → Reader
after_watch client watch it = unless_fired (event_since client watch it) client watch it

-- ---- watches, in order

abbrev pub after_watches : Resumption → List SavedWatch → Reader → Reader
after_watches client [] it = it
after_watches client (watch ∷ watches) it = after_watches client watches (after_watch client watch it)

abbrev pub one_or_none : Option WatchEvent → List WatchEvent
one_or_none None = []
one_or_none (Some event) = event ∷ []

abbrev pub events_of : Resumption → List SavedWatch → Reader → List WatchEvent
events_of client [] it = []
events_of client (watch ∷ watches) it = one_or_none (event_of client watch it) ++ events_of client watches (after_watch client watch it)

-- in parts, one after another, nothing else comes of them
abbrev pub PartsAreTheWhole : Type 0
PartsAreTheWhole = (client : Resumption) (first rest : List SavedWatch) (it : Reader) →
    (after_watches client (first ++ rest) it ≡ after_watches client rest (after_watches client first it))
    × (events_of client (first ++ rest) it ≡ events_of client first it ++ events_of client rest (after_watches client first it))

-- ---- for each result

abbrev pub Resumes : {R : Type 0} → R → Reader → Reader → Reader → Result R ReadFault → Type 0
Resumes events after old new (Ok given) = (given ≡ events) × (new ≡ after)
Resumes events after old new (Err fault) = IsReason (last_at old) (pos 0) fault
