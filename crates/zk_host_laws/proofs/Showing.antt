-- What hosts show is what their servers have delivered.
use Rattle.std.proofs.Common.{◌≡◌, ◌≢◌, ℕ, ◌==◌, ◌≤◌, Bool, true, false, if◌then◌else◌, int_lt, List, [], ◌∷◌, ◌++◌, map, length, take, drop, refl, sym, ap, ◌∙◌, subst, subst₂, arith, eq-eqb, take-append-drop}
use Rattle.std.proofs.lemmas.Bool.Decides.{nat_tests}
use Rattle.std.proofs.lemmas.List.{append-nil, append_assoc, take-append-le}
use Rattle.std.proofs.lemmas.List.{take_all as take_whole}
use Rattle.zab_epoch.specs.declared.history.Entry.{Entry}
use Rattle.zab_epoch.specs.declared.message.Message.{Message}
use Rattle.zab_epoch.specs.Entries.{txns_of}
use Rattle.zab_host_laws.specs.NeverBack.{HostsOnlyGrow}
use Rattle.zab_laws.specs.Prefixes.{IsPrefix}
use Rattle.zab_laws.proofs.PrefixLaws.{prefix_length}
use Rattle.zab_model.specs.Runs.{delivered_list, delivered_of}
use Rattle.zab_model.specs.Worlds.{Profile}
use Rattle.zab_host_laws.specs.Hosts as steps
use Rattle.zab_host_laws.specs.Hosts.{Network, Step, new_network, after_step, after_steps, MayStepAll, calls_after, syncs_after}
use Rattle.zk_host.specs.declared.news.News.{News}
use Rattle.zk_host.specs.WatchedTrees.{WatchedTreeView, after_entries, after_read, after_close}
use Rattle.zk_host_laws.specs.Traces.{TraceItem, Delivers, Answers, Disconnects, trace_entries, unwatched, results_in}
use Rattle.zk_host_laws.specs.HostTrees.{HostTree, HostEnsemble, new_host, new_hosts, Action, Steps, Releases, Forgets, Reads, Closes, Takes, steps_of, release, read, close, take_news, at_host, restart, after_action, after_actions, hosts_after, shown_by}
use Rattle.zk_host_laws.specs.Guarantees.{TreesShowWhatIsDelivered, ReleasesDeliver, ReleasesShowAll, NewsFollowsTheTrace}
use Rattle.zk_host_laws.proofs.News.{entries_more, entries_delivered, tree_after, results_after, Tells, tells_new, tells_entries, tells_read, tells_close, tells_taken}
use Rattle.zk_model.specs.declared.event.Question.{Question}
use Rattle.zk_model.specs.Ensembles.{reply_of}
use Rattle.zk_model.specs.Runs.{answered_of}
use Rattle.zk_requests.specs.declared.call.Call.{Call}
use Rattle.zk_table.specs.Histories.{tree_of}

-- ---- one host

pub record Matches (delivered : List Entry) (it : HostTree) : Type 0 where
  pub within : it.shown ≤ length delivered
  pub entries : trace_entries it.trace ≡ take it.shown delivered
  pub tells : Tells it.watched it.taken it.trace

matches_new : (delivered : List Entry) → Matches delivered new_host
matches_new delivered = record { within = omega arith; entries = refl; tells = tells_new }

-- more is delivered
matches_more : (before now : List Entry) (it : HostTree) → IsPrefix before now → Matches before it → Matches now it
matches_more before now it p m =
    let longer : length before ≤ length now = prefix_length before now p in
    let low : it.shown ≤ length before = m.within in
    record {
      within = omega (arith, longer, low);
      entries = m.entries ∙ sym (take-append-le it.shown before p.rest low) ∙ ap (take it.shown) p.is;
      tells = m.tells;
    }

matches_release : (delivered : List Entry) (it : HostTree) → Matches delivered it → Matches delivered (release delivered it)
matches_release delivered it m = record {
  within = omega arith;
  entries = entries_more it.trace (map Delivers (drop it.shown delivered))
      ∙ ap (λ l. trace_entries it.trace ++ l) (entries_delivered (drop it.shown delivered))
      ∙ ap (λ l. l ++ drop it.shown delivered) m.entries
      ∙ take-append-drop it.shown delivered
      ∙ sym (take_whole (length delivered) delivered (omega arith));
  tells = tells_entries (drop it.shown delivered) it.watched it.taken it.trace m.tells;
}

-- an item that is no entry
same_entries : (delivered : List Entry) (it : HostTree) (next : WatchedTreeView) (item : TraceItem) → trace_entries (item ∷ []) ≡ []
    → Matches delivered it → Tells next it.taken (it.trace ++ item ∷ [])
    → Matches delivered (record { watched = next; shown = it.shown; taken = it.taken; trace = it.trace ++ item ∷ [] })
same_entries delivered it next item none m t = record {
  within = m.within;
  entries = entries_more it.trace (item ∷ []) ∙ ap (λ l. trace_entries it.trace ++ l) none ∙ append-nil (trace_entries it.trace) ∙ m.entries;
  tells = t;
}

by_test : (P : HostTree → Type 0) (b : Bool) (one other : HostTree) → P one → P other → P (if b then one else other)
by_test P true one other p q = p
by_test P false one other p q = q

matches_read : (connection : ℕ) (question : Question) (delivered : List Entry) (it : HostTree) → Matches delivered it → Matches delivered (read connection question it)
matches_read connection question delivered it m =
    let reply = reply_of question it.watched.tree in
    by_test (Matches delivered) (int_lt it.watched.tree.last question.seen) it _ m
    (same_entries delivered it (after_read connection question reply it.watched) (Answers connection question reply) refl m
    (tells_read connection question reply it.watched it.taken it.trace m.tells))

matches_close : (connection : ℕ) (delivered : List Entry) (it : HostTree) → Matches delivered it → Matches delivered (close connection it)
matches_close connection delivered it m =
    same_entries delivered it (after_close connection it.watched) (Disconnects connection) refl m
    (tells_close connection it.watched it.taken it.trace m.tells)

matches_take : (delivered : List Entry) (it : HostTree) → Matches delivered it → Matches delivered (take_news it)
matches_take delivered it m = record {
  within = m.within;
  entries = m.entries;
  tells = tells_taken it.watched it.taken it.trace m.tells;
}

-- ---- all hosts

pub same_number : (a b : ℕ) → (a == b) ≡ true → a ≡ b
same_number a b is = grind (arith, nat_tests)

other_number : (a b : ℕ) → (a == b) ≡ false → a ≢ b
other_number a b is same = absurd (let wrong : true ≡ false = sym (eq-eqb a b same) ∙ is in cc)

abbrev pub AllMatch : HostEnsemble → Type 0
AllMatch x = (number : ℕ) → Matches (delivered_of x.network number) (x.host number)

-- one host changes
changes_at : (x : HostEnsemble) (number : ℕ) (change : HostTree → HostTree)
    → (Matches (delivered_of x.network number) (x.host number) → Matches (delivered_of x.network number) (change (x.host number)))
    → AllMatch x → AllMatch (record { network = x.network; host = at_host number change x.host })
changes_at x number change keeps all other = by_eq (other == number) refl
  where
    by_eq : (b : Bool) → (other == number) ≡ b → Matches (delivered_of x.network other) (if b then change (x.host other) else x.host other)
    by_eq true is =
        subst (λ n. Matches (delivered_of x.network n) (change (x.host n))) (sym (same_number other number is)) (keeps (all number))
    by_eq false is = all other

stepped_both : (profile : Profile Call) (c : Network Call) (a b : List (Step Call)) → after_steps profile c (a ++ b) ≡ after_steps profile (after_steps profile c a) b
stepped_both profile c [] b = refl
stepped_both profile c (step ∷ a) b = stepped_both profile (after_step profile c step) a b

pub may_first : (profile : Profile Call) (c : Network Call) (calls syncs : List ℕ) (a b : List (Step Call)) → MayStepAll profile c calls syncs (a ++ b) → MayStepAll profile c calls syncs a
may_first profile c calls syncs [] b may = tt
may_first profile c calls syncs (step ∷ a) b may =
    (may.0, may_first profile (after_step profile c step) (calls_after profile calls step) (syncs_after syncs step) a b may.1)

module _ (profile : Profile Call) (grow : HostsOnlyGrow profile) (servers : ℕ) where
  abbrev reached : List (Step Call) → Network Call
  reached past = after_steps profile (new_network servers) past

  -- a step of hosts
  module _ (past : List (Step Call)) (x : HostEnsemble) (is : x.network ≡ reached past) (all : AllMatch x) where
    next : (step : Step Call) → after_step profile x.network step ≡ reached (past ++ step ∷ [])
    next step = ap (λ c. after_step profile c step) is ∙ sym (stepped_both profile (new_network servers) past (step ∷ []))

    quiet : (step : Step Call) (number : ℕ) → MayStepAll profile (new_network servers) [] [] (past ++ step ∷ []) → step ≢ steps.Restarts number
        → Matches (delivered_of (after_step profile x.network step) number) (x.host number)
    quiet step number may other =
        matches_more (delivered_of x.network number) (delivered_of (after_step profile x.network step) number) (x.host number)
        (subst₂ (λ (a b : Network Call). IsPrefix (delivered_of a number) (delivered_of b number)) (sym is) (sym (next step))
        (grow servers past (step ∷ []) may number (other, tt)))
        (all number)

    stepped : (step : Step Call) → MayStepAll profile (new_network servers) [] [] (past ++ step ∷ []) → AllMatch (after_action profile x (Steps step))
    stepped (steps.Receives message) may number = quiet (steps.Receives message) number may (λ same. cc)
    stepped (steps.Submits at call) may number = quiet (steps.Submits at call) number may (λ same. cc)
    stepped (steps.Syncs at tag) may number = quiet (steps.Syncs at tag) number may (λ same. cc)
    stepped (steps.Leads at) may number = quiet (steps.Leads at) number may (λ same. cc)
    stepped (steps.Follows at leader) may number = quiet (steps.Follows at leader) number may (λ same. cc)
    stepped (steps.Restarts at) may number = by_eq (number == at) refl
      where
        by_eq : (b : Bool) → (number == at) ≡ b
            → Matches (delivered_of (after_step profile x.network (steps.Restarts at)) number) (if b then new_host else x.host number)
        by_eq true same = matches_new (delivered_of (after_step profile x.network (steps.Restarts at)) number)
        by_eq false differs =
            quiet (steps.Restarts at) number may (λ same. let e : at ≡ number = cc in other_number number at differs (sym e))

  -- all actions
  matches : (past : List (Step Call)) (x : HostEnsemble) → x.network ≡ reached past → AllMatch x → (actions : List Action)
      → MayStepAll profile (new_network servers) [] [] (past ++ steps_of actions) → AllMatch (after_actions profile x actions)
  matches past x is all [] may = all
  matches past x is all (Steps step ∷ actions) may =
      let split : past ++ (step ∷ steps_of actions) ≡ (past ++ step ∷ []) ++ steps_of actions = sym (append_assoc past (step ∷ []) (steps_of actions)) in
      let on : MayStepAll profile (new_network servers) [] [] ((past ++ step ∷ []) ++ steps_of actions) = subst (λ l. MayStepAll profile (new_network servers) [] [] l) split may in
      matches (past ++ step ∷ []) (after_action profile x (Steps step)) (next past x is all step)
      (stepped past x is all step (may_first profile (new_network servers) [] [] (past ++ step ∷ []) (steps_of actions) on)) actions on
  matches past x is all (Releases number ∷ actions) may =
      matches past (after_action profile x (Releases number)) is
      (changes_at x number (release (delivered_of x.network number)) (λ m. matches_release (delivered_of x.network number) (x.host number) m) all) actions may
  matches past x is all (Forgets number ∷ actions) may =
      matches past (after_action profile x (Forgets number)) is (changes_at x number (λ it. new_host) (λ m. matches_new (delivered_of x.network number)) all) actions may
  matches past x is all (Reads number connection question ∷ actions) may =
      matches past (after_action profile x (Reads number connection question)) is
      (changes_at x number (read connection question) (λ m. matches_read connection question (delivered_of x.network number) (x.host number) m) all) actions may
  matches past x is all (Closes number connection ∷ actions) may =
      matches past (after_action profile x (Closes number connection)) is
      (changes_at x number (close connection) (λ m. matches_close connection (delivered_of x.network number) (x.host number) m) all) actions may
  matches past x is all (Takes number ∷ actions) may =
      matches past (after_action profile x (Takes number)) is
      (changes_at x number take_news (λ m. matches_take (delivered_of x.network number) (x.host number) m) all) actions may

  pub all_match : (actions : List Action) → MayStepAll profile (new_network servers) [] [] (steps_of actions) → AllMatch (hosts_after profile servers actions)
  all_match actions may = matches [] (new_hosts servers) refl (λ number. matches_new (delivered_of (new_network {C = Call} servers) number)) actions may

-- ---- the laws

-- the tree of a host
pub tree_is : (delivered : List Entry) (it : HostTree) → Matches delivered it → it.watched.tree ≡ tree_of (txns_of (take it.shown delivered))
tree_is delivered it m =
    ap (λ w. w.tree) m.tells.watched ∙ tree_after unwatched it.trace ∙ ap (λ l. tree_of (txns_of l)) m.entries

pub trees_show : (profile : Profile Call) → HostsOnlyGrow profile → TreesShowWhatIsDelivered profile
trees_show profile grow servers actions may number =
    let x = hosts_after profile servers actions in
    let m = all_match profile grow servers actions may number in
    record { within = m.within; tree = tree_is (delivered_of x.network number) (x.host number) m }

pub releases_deliver : ReleasesDeliver
releases_deliver x number it is = sym (ap delivered_list is)

pub news_follow : (profile : Profile Call) → HostsOnlyGrow profile → NewsFollowsTheTrace profile
news_follow profile grow servers actions may number =
    let it = (hosts_after profile servers actions).host number in
    let m = all_match profile grow servers actions may number in
    record {
      entries = m.entries;
      news = m.tells.news;
      results = ap results_in m.tells.news ∙ results_after unwatched it.trace ∙ ap answered_of m.entries;
      watches = ap (λ w. w.watches) m.tells.watched;
    }

-- a release shows all
pub shown_now : (profile : Profile Call) (x : HostEnsemble) (number : ℕ)
    → ((after_action profile x (Releases number)).host number).shown ≡ length (delivered_of x.network number)
shown_now profile x number =
    ap (λ (b : Bool). (if b then release (delivered_of x.network number) (x.host number) else x.host number).shown) (eq-eqb number number refl)

pub releases_show : (profile : Profile Call) → ReleasesShowAll profile
releases_show profile servers actions may number =
    let x = hosts_after profile servers actions in
    ap (λ n. take n (delivered_of x.network number)) (shown_now profile x number)
    ∙ take_whole (length (delivered_of x.network number)) (delivered_of x.network number) (omega arith)
