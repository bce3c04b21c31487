-- The news of a host are those of its trace.
use Rattle.std.proofs.Common.{◌≡◌, ℕ, Bool, true, false, if◌then◌else◌, List, [], ◌∷◌, ◌++◌, map, Option, Some, None, refl, sym, ap, ◌∙◌, subst}
use Rattle.std.proofs.lemmas.List.{append-nil, append_assoc}
use Rattle.zab_epoch.specs.declared.history.Entry.{Entry}
use Rattle.zab_epoch.specs.Entries.{txns_of}
use Rattle.zk_host.specs.declared.news.News.{News}
use Rattle.zk_host.specs.declared.news.News.TheVariants as news
use Rattle.zk_host.specs.WatchedTrees.{WatchedTreeView, new_tree, after_entry, after_entries, with_watch_set, after_read, after_close}
use Rattle.zk_host_laws.specs.Traces.{TraceItem, Delivers, Answers, Disconnects, trace_entries, Watched, unwatched, fired_at, watches_with, connections_with, watch_of, then_item, news_at, after_trace, news_from, trace_news, results_in}
use Rattle.zk_model.specs.declared.answer.Answered.{Answered}
use Rattle.zk_model.specs.declared.event.Question.{Question}
use Rattle.zk_model.specs.Ensembles.{answered, kind_set}
use Rattle.zk_model.specs.Runs.{answered_after}
use Rattle.zk_table.specs.Histories.{state_after}
use Rattle.zk_table.specs.Steps.{step}
use Rattle.zk_table.specs.declared.read.ReadReply.{ReadReply}
use Rattle.zk_watch.specs.declared.watch.Fired.{Fired}
use Rattle.zk_watch.specs.declared.watch.WatchKind.{WatchKind}

-- ---- traces, one after another

watched_more : (it : Watched) (a b : List TraceItem) → after_trace it (a ++ b) ≡ after_trace (after_trace it a) b
watched_more it [] b = refl
watched_more it (item ∷ a) b = watched_more (then_item it item) a b

news_more : (it : Watched) (a b : List TraceItem) → news_from it (a ++ b) ≡ news_from it a ++ news_from (after_trace it a) b
news_more it [] b = refl
news_more it (item ∷ a) b =
    ap (λ l. news_at it item ++ l) (news_more (then_item it item) a b)
    ∙ sym (append_assoc (news_at it item) (news_from (then_item it item) a) (news_from (after_trace (then_item it item) a) b))

pub entries_more : (a b : List TraceItem) → trace_entries (a ++ b) ≡ trace_entries a ++ trace_entries b
entries_more [] b = refl
entries_more (Delivers entry ∷ a) b = ap (λ l. entry ∷ l) (entries_more a b)
entries_more (Answers connection question reply ∷ a) b = entries_more a b
entries_more (Disconnects connection ∷ a) b = entries_more a b

pub entries_delivered : (entries : List Entry) → trace_entries (map Delivers entries) ≡ entries
entries_delivered [] = refl
entries_delivered (entry ∷ entries) = ap (λ l. entry ∷ l) (entries_delivered entries)

-- the tree of a trace is that of its entries
pub tree_after : (it : Watched) (trace : List TraceItem) → (after_trace it trace).tree ≡ state_after it.tree (txns_of (trace_entries trace))
tree_after it [] = refl
tree_after it (Delivers entry ∷ trace) = tree_after (then_item it (Delivers entry)) trace
tree_after it (Answers connection question reply ∷ trace) = tree_after (then_item it (Answers connection question reply)) trace
tree_after it (Disconnects connection ∷ trace) = tree_after (then_item it (Disconnects connection)) trace

results_of_events : (events : List Fired) (rest : List News) → results_in (map news.Event events ++ rest) ≡ results_in rest
results_of_events [] rest = refl
results_of_events (event ∷ events) rest = results_of_events events rest

-- the results of a trace are the table's
pub results_after : (it : Watched) (trace : List TraceItem) → results_in (news_from it trace) ≡ answered_after it.tree (trace_entries trace)
results_after it [] = refl
results_after it (Delivers entry ∷ trace) =
    let result : Answered = answered entry (step it.tree entry.txn).1 in
    let rest = news_from (then_item it (Delivers entry)) trace in
    ap results_in (append_assoc (map news.Event (fired_at entry.txn it)) (news.Answer result ∷ []) rest)
    ∙ results_of_events (fired_at entry.txn it) (news.Answer result ∷ rest)
    ∙ ap (λ l. result ∷ l) (results_after (then_item it (Delivers entry)) trace)
results_after it (Answers connection question reply ∷ trace) = results_after (then_item it (Answers connection question reply)) trace
results_after it (Disconnects connection ∷ trace) = results_after (then_item it (Disconnects connection)) trace

-- ---- a host

abbrev pub watched_of : WatchedTreeView → Watched
watched_of it = record { tree = it.tree; watches = it.watches; connections = it.connections }

pub record Tells (it : WatchedTreeView) (taken : List News) (trace : List TraceItem) : Type 0 where
  pub watched : watched_of it ≡ after_trace unwatched trace
  pub news : taken ++ it.news ≡ trace_news trace

pub tells_new : Tells new_tree [] []
tells_new = record { watched = refl; news = refl }

-- one more item of the trace
tells_item : (it next : WatchedTreeView) (taken : List News) (trace : List TraceItem) (item : TraceItem)
    → watched_of next ≡ then_item (watched_of it) item → next.news ≡ it.news ++ news_at (watched_of it) item
    → Tells it taken trace → Tells next taken (trace ++ item ∷ [])
tells_item it next taken trace item same more t = record {
  watched = same ∙ ap (λ w. then_item w item) t.watched ∙ sym (watched_more unwatched trace (item ∷ []));
  news = ap (λ l. taken ++ l) more
      ∙ sym (append_assoc taken it.news (news_at (watched_of it) item))
      ∙ ap (λ l. l ++ news_at (watched_of it) item) t.news
      ∙ ap (λ w. trace_news trace ++ news_at w item) t.watched
      ∙ ap (λ l. trace_news trace ++ l) (sym (append-nil (news_at (after_trace unwatched trace) item)))
      ∙ sym (news_more unwatched trace (item ∷ []));
}

pub tells_entries : (entries : List Entry) (it : WatchedTreeView) (taken : List News) (trace : List TraceItem)
    → Tells it taken trace → Tells (after_entries it entries) taken (trace ++ map Delivers entries)
tells_entries [] it taken trace t = subst (λ l. Tells it taken l) (sym (append-nil trace)) t
tells_entries (entry ∷ entries) it taken trace t =
    subst (λ l. Tells (after_entries (after_entry it entry) entries) taken l) (append_assoc trace (Delivers entry ∷ []) (map Delivers entries))
    (tells_entries entries (after_entry it entry) taken (trace ++ Delivers entry ∷ [])
    (tells_item it (after_entry it entry) taken trace (Delivers entry) refl
    (append_assoc it.news (map news.Event (fired_at entry.txn (watched_of it))) (news.Answer (answered entry (step it.tree entry.txn).1) ∷ [])) t))

-- a read sets at most its watch
module _ (connection : ℕ) (question : Question) (it : WatchedTreeView) where
  abbrev set_to : Option WatchKind → Watched
  set_to kind = record {
    tree = it.tree;
    watches = watches_with connection question it.watches kind;
    connections = connections_with connection question it.connections kind;
  }

  abbrev Sets : WatchedTreeView → Option WatchKind → Type 0
  Sets next kind = (watched_of next ≡ set_to kind) × (next.news ≡ it.news)

  sets : (watch : Bool) (kind : Option WatchKind) → Sets (if watch then with_watch_set connection question it kind else it) (if watch then kind else None)
  sets true None = (refl, refl)
  sets true (Some kind) = (refl, refl)
  sets false kind = (refl, refl)

pub tells_read : (connection : ℕ) (question : Question) (reply : ReadReply) (it : WatchedTreeView) (taken : List News) (trace : List TraceItem)
    → Tells it taken trace → Tells (after_read connection question reply it) taken (trace ++ Answers connection question reply ∷ [])
tells_read connection question reply it taken trace t =
    let s = sets connection question it question.watch (kind_set question.call reply) in
    tells_item it (after_read connection question reply it) taken trace (Answers connection question reply) s.0 (s.1 ∙ sym (append-nil it.news)) t

pub tells_close : (connection : ℕ) (it : WatchedTreeView) (taken : List News) (trace : List TraceItem)
    → Tells it taken trace → Tells (after_close connection it) taken (trace ++ Disconnects connection ∷ [])
tells_close connection it taken trace t =
    tells_item it (after_close connection it) taken trace (Disconnects connection) refl (sym (append-nil it.news)) t

pub tells_taken : (it : WatchedTreeView) (taken : List News) (trace : List TraceItem)
    → Tells it taken trace → Tells (record it { news = [] }) (taken ++ it.news) trace
tells_taken it taken trace t = record { watched = t.watched; news = append-nil (taken ++ it.news) ∙ t.news }
