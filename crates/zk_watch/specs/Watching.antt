-- Watches and the events that they fire: ZooKeeper Programmer's Guide, "ZooKeeper Watches".
--
-- Watches are a list in the order of paths, then of sessions' digits. It has one entry for each
-- path and session, which says what the session waits for at the node: its content (the guide's
-- data watches), its children (child watches), or both.
use Rattle.std.specs.Prelude.{ℕ, Bool, true, false, not, ◌&&◌, ◌||◌, ◌==◌, List, [], ◌∷◌, ◌++◌, map, filter, IsTrue, if◌then◌else◌}
use Rattle.std.specs.List.{list_all, list_any}
use Rattle.std.specs.List.Sorted.{IsStrictlySortedBy}
use Rattle.std.specs.declared.cmp.Ordering.{Ordering}
use Rattle.std.specs.Ordering.{nat_cmp, match_ordering, ordering_then}
use Rattle.std.specs.Str.{bytes_eq}
use Rattle.zk_table.specs.States.{path_cmp}
use Rattle.zk_machine.specs.declared.change.Change.{Change}
use Rattle.zk_machine.specs.declared.change.ChangeKind.{ChangeKind}
use Rattle.zk_machine.specs.declared.change.ChangeKind.TheVariants.{Created, Deleted, DataChanged, ChildrenChanged}
use Rattle.zk_watch.specs.declared.watch.Fired.{Fired}
use Rattle.zk_watch.specs.declared.watch.Watch.{Watch}
use Rattle.zk_watch.specs.declared.watch.WatchKind.{WatchKind}
use Rattle.zk_watch.specs.declared.watch.WatchKind.TheVariants.{Content, Children}

-- ---- one watch

abbrev pub is_at : List ℕ → Watch → Bool
is_at path w = bytes_eq w.path path

-- the changes of its node that fire a watch of a kind
abbrev pub hears : WatchKind → ChangeKind → Bool
hears Content Created = true
hears Content Deleted = true
hears Content DataChanged = true
hears Content ChildrenChanged = false
hears Children Created = false
hears Children Deleted = true
hears Children DataChanged = false
hears Children ChildrenChanged = true

abbrev pub waits_for : ChangeKind → Watch → Bool
waits_for kind w = w.content && hears Content kind || w.children && hears Children kind

-- what has fired is removed
abbrev pub spent : ChangeKind → Watch → Watch
spent kind w = record w { content = w.content && not (hears Content kind); children = w.children && not (hears Children kind) }

abbrev pub is_live : Watch → Bool
is_live w = w.content || w.children

-- ---- one change

abbrev pub is_hit : Change → Watch → Bool
is_hit c w = is_at c.path w && waits_for c.kind w

abbrev pub told : Change → Watch → Fired
told c w = record { session = w.session; kind = c.kind; path = c.path }

-- the events of a change: one for each session that waits for it, in order
abbrev pub told_by : Change → List Watch → List Fired
told_by c ws = map (told c) (filter (is_hit c) ws)

abbrev pub spent_by : Change → Watch → Watch
spent_by c w = if is_at c.path w then spent c.kind w else w

abbrev pub after_change : Change → List Watch → List Watch
after_change c ws = filter is_live (map (spent_by c) ws)

-- ---- changes in turn

-- Changes are those of instructions in turn, and an instruction's are in the order of their paths,
-- one at each. Events are therefore in the order of instruction, path and session, one per
-- instruction, path and session.
abbrev pub fired_by : List Change → List Watch → List Fired
fired_by [] ws = []
fired_by (c ∷ cs) ws = told_by c ws ++ fired_by cs (after_change c ws)

abbrev pub left_after : List Change → List Watch → List Watch
left_after [] ws = ws
left_after (c ∷ cs) ws = left_after cs (after_change c ws)

-- ---- setting and dropping

abbrev pub watch_cmp : Watch → Watch → Ordering
watch_cmp a b = ordering_then (path_cmp a.path b.path) (nat_cmp a.session b.session)

abbrev pub is_content : WatchKind → Bool
is_content Content = true
is_content Children = false

abbrev pub is_children : WatchKind → Bool
is_children Content = false
is_children Children = true

-- what a session has at a path after setting one watch
abbrev pub first_watch : ℕ → WatchKind → List ℕ → Watch
first_watch session kind path = record { path = path; session = session; content = is_content kind; children = is_children kind }

abbrev pub joined : Watch → Watch → Watch
joined new w = record w { content = new.content || w.content; children = new.children || w.children }

-- A watch is inserted in order. If its session has one at its path, the two become one: twice is
-- once.
abbrev pub put : Watch → List Watch → List Watch
put new [] = new ∷ []
put new (w ∷ ws) = match_ordering (watch_cmp new w) (new ∷ w ∷ ws) (joined new w ∷ ws) (w ∷ put new ws)

abbrev pub with_watch : ℕ → WatchKind → List ℕ → List Watch → List Watch
with_watch session kind path ws = put (first_watch session kind path) ws

-- a session waits for something at a path
abbrev pub waits_at : ℕ → List ℕ → List Watch → Bool
waits_at session path ws = list_any (λ w. is_at path w && w.session == session) ws

abbrev pub without_session : ℕ → List Watch → List Watch
without_session session ws = filter (λ w. not (w.session == session)) ws

-- ---- what is true of all watches

pub record IsWatchList (ws : List Watch) : Type 0 where
  -- each comes after those before it: a path and a session occur together once
  pub ordered : IsStrictlySortedBy watch_cmp ws
  -- each waits for something
  pub live : IsTrue (list_all is_live ws)
