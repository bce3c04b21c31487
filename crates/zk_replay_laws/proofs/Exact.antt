-- The law of the replay.
use Rattle.std.proofs.Common.{◌≡◌, inl, inr, ℤ, pos, List, [], ◌∷◌, ◌++◌, map, Bool, true, false, cond, Some, refl, sym, ap, subst, ◌∙◌, ⊎_elim}
use Rattle.std.specs.FinMap.{get, empty, entries}
use Rattle.std.specs.List.{list_any}
use Rattle.std.specs.Prelude.{int_le}
use Rattle.zk_table.specs.declared.txn.Op.{Op}
use Rattle.zk_table.specs.declared.txn.Op.TheVariants as ops
use Rattle.zk_table.specs.declared.txn.Txn.{Txn}
use Rattle.zk_table.specs.declared.sub.Sub.{Sub}
use Rattle.zk_table.specs.Parts.{is_error}
use Rattle.zk_table.specs.States.{State, start_state}
use Rattle.zk_table.specs.Histories.{state_after, tree_of}
use Rattle.zk_table.specs.Steps.{step, step_by}
use Rattle.zk_table.specs.Multis.{told_parts, answers_unapplied, answers_of, nodes_after}
use Rattle.zk_newer_records.specs.declared.newer_record.NewerRecord.{NewerRecord}
use Rattle.zk_replay.specs.Bases.{IsSettled, settled}
use Rattle.zk_replay.specs.declared.draft.Draft.{Draft}
use Rattle.zk_snapshot.specs.declared.snapshot.Contents.{Contents}
use Rattle.zk_directory_state.specs.States as restored
use Rattle.zk_directory_state.specs.States.{IsStateFrom, in_window, after_window, last_of}
use Rattle.zk_replay_laws.specs.Windows.{IsTakenWithin, IsAlike, ReplayIsExact, ReplayIsExactButPzxids}
use Rattle.zk_replay_laws.specs.Histories.{Closings, Listed, Unlisted}
use Rattle.zk_replay_laws.proofs.Simulation.{AllSeen, Matches}
use Rattle.zk_replay_laws.proofs.Settling.{settles_alike, settles_to_server}
use Rattle.zk_replay_laws.proofs.Removals.{IsDraftTree}
use Rattle.zk_replay_laws.proofs.Alike.{alike_after}
use Rattle.zk_replay_laws.proofs.Orders.{rising_rest, last_zxid}
use Rattle.zk_replay_laws.proofs.Sound.{IsSound}
use Rattle.zk_replay_laws.proofs.Windows.{txn_of, all_changes, all_replayed, window_history, window_seen, occurs_at}
use Rattle.zk_replay_laws.proofs.Starting.{start_sound, history_sound, window_bounded}
use Rattle.zk_replay_laws.proofs.Drafting.{draft_tree}
use Rattle.zk_replay_laws.proofs.Sessions.{all_sessions, sessions_after}

-- ---- the words of the definitions

replayed_alike : (draft : Draft) (rs : List NewerRecord) → restored.replayed draft rs ≡ record { nodes = all_replayed draft.nodes rs; sessions = all_sessions draft.sessions rs }
unfolding restored.replayed
replayed_alike draft [] = refl
replayed_alike draft (r ∷ rs) = replayed_alike (restored.replayed_one draft r) rs

last_none : (zxid : ℤ) → last_of zxid [] ≡ zxid
unfolding last_of
last_none zxid = refl

last_more : (zxid : ℤ) (r : NewerRecord) (rs : List NewerRecord) → last_of zxid (r ∷ rs) ≡ last_of r.txn.zxid rs
unfolding last_of
last_more zxid r rs = refl

split_one : (exact : ℤ) (r : NewerRecord) (rs : List NewerRecord) → in_window exact (r ∷ rs) ≡ cond (int_le r.txn.zxid exact) (r ∷ in_window exact rs) []
unfolding in_window
split_one exact r rs = refl

rest_one : (exact : ℤ) (r : NewerRecord) (rs : List NewerRecord) → after_window exact (r ∷ rs) ≡ cond (int_le r.txn.zxid exact) (after_window exact rs) (r ∷ rs)
unfolding after_window
rest_one exact r rs = refl

none_within : (exact : ℤ) → in_window exact [] ≡ []
unfolding in_window
none_within exact = refl

none_after : (exact : ℤ) → after_window exact [] ≡ []
unfolding after_window
none_after exact = refl

-- the window and what follows it are all records
both_parts : (exact : ℤ) (rs : List NewerRecord) → in_window exact rs ++ after_window exact rs ≡ rs
both_parts exact [] = ap (λ l. l ++ after_window exact []) (none_within exact) ∙ none_after exact
both_parts exact (r ∷ rs) =
    ap (λ l. l ++ after_window exact (r ∷ rs)) (split_one exact r rs)
    ∙ ap (λ l. cond (int_le r.txn.zxid exact) (r ∷ in_window exact rs) [] ++ l) (rest_one exact r rs)
    ∙ by_test (int_le r.txn.zxid exact) (both_parts exact rs)
  where
    by_test : (b : Bool) → in_window exact rs ++ after_window exact rs ≡ rs → cond b (r ∷ in_window exact rs) [] ++ cond b (after_window exact rs) (r ∷ rs) ≡ r ∷ rs
    by_test true rest = ap (λ l. r ∷ l) rest
    by_test false rest = refl

map_append : (xs ys : List NewerRecord) → map txn_of (xs ++ ys) ≡ map txn_of xs ++ map txn_of ys
map_append [] ys = refl
map_append (x ∷ xs) ys = ap (λ l. x.txn ∷ l) (map_append xs ys)

after_append : (s : State) (xs ys : List Txn) → state_after s (xs ++ ys) ≡ state_after (state_after s xs) ys
after_append s [] ys = refl
after_append s (x ∷ xs) ys = after_append (step s x).0 xs ys

-- ---- the last zxid

multi_last : (s : State) (txn : Txn) (parts : List Sub) (b : Bool) → (cond b (told_parts s txn s.nodes (answers_unapplied (pos 0) parts)) (told_parts s txn (nodes_after txn s.nodes parts) (answers_of txn s.nodes parts))).0.last ≡ txn.zxid
multi_last s txn parts true = refl
multi_last s txn parts false = refl

step_last : (s : State) (txn : Txn) (op : Op) → (step_by s txn op).0.last ≡ txn.zxid
step_last s txn (ops.Create path content acl ephemeral count) = refl
step_last s txn (ops.CreateOld path content acl ephemeral) = refl
step_last s txn (ops.Delete path) = refl
step_last s txn (ops.SetData path content version) = refl
step_last s txn (ops.SetAcl path acl version) = refl
step_last s txn (ops.OpenSession timeout) = refl
step_last s txn ops.CloseSession = refl
step_last s txn (ops.Multi parts) = multi_last s txn parts (list_any is_error parts)
step_last s txn (ops.Error code) = refl

window_last : (s : State) (rs : List NewerRecord) → last_of s.last rs ≡ (state_after s (map txn_of rs)).last
window_last s [] = last_none s.last
window_last s (r ∷ rs) = last_more s.last r rs ∙ ap (λ z. last_of z rs) (sym (step_last s r.txn r.txn.op)) ∙ window_last (step s r.txn).0 rs

-- ---- the law

same_state : (a b : State) → a.nodes ≡ b.nodes → a.sessions ≡ b.sessions → a.last ≡ b.last → a ≡ b
same_state a b nodes sessions last = λ i. record { nodes = nodes i; sessions = sessions i; last = last i }

module _ (closings : Closings) (earlier : List Txn) (records : List NewerRecord) (exact : ℤ) (contents : Contents) (draft : Draft) (taken : IsTakenWithin closings earlier records exact contents draft) where
  abbrev base : State
  base = tree_of earlier

  abbrev window : List NewerRecord
  window = in_window exact records

  -- the server's state at the end of the window
  abbrev there : State
  there = state_after base (map txn_of window)

  base_sound : IsSound base.nodes
  base_sound = history_sound start_state earlier taken.logged start_sound

  all_seen : AllSeen closings base.nodes (all_changes closings base draft.nodes window) draft.nodes
  all_seen path field =
      ⊎_elim
      (λ lacks. inl lacks)
      (λ seen. inr (inl (occurs_at closings base draft.nodes window base_sound taken.window (Matches field (get draft.nodes path) path) seen.0 seen.1)))
      (taken.seen.nodes path field)

  seen_at_end : AllSeen closings there.nodes [] (all_replayed draft.nodes window) × IsDraftTree (all_replayed draft.nodes window)
  seen_at_end =
      let h = window_history closings base draft.nodes window (last_zxid (pos 0) earlier) base_sound taken.window (rising_rest (pos 0) earlier (map txn_of window) taken.rising) (window_bounded earlier window taken.logged taken.rising) in
      window_seen closings base window base_sound taken.window draft.nodes h (draft_tree contents draft taken.paths taken.whole taken.draft_of) all_seen

  module _ (end : State) (is : IsSettled (restored.replayed draft window) (last_of base.last window) end) where
    settled_nodes : settled empty (entries (all_replayed draft.nodes window)) ≡ Some end.nodes
    settled_nodes = ap (λ d. settled empty (entries d.nodes)) (sym (replayed_alike draft window)) ∙ is.nodes

    end_sessions : end.sessions ≡ there.sessions
    end_sessions = is.sessions ∙ ap (λ d. d.sessions) (replayed_alike draft window) ∙ sessions_after base window draft.sessions taken.seen.sessions

    end_last : end.last ≡ there.last
    end_last = is.last_zxid ∙ window_last base window

    end_alike : IsAlike end there
    end_alike = record {
      nodes = λ path field other. settles_alike closings there.nodes (all_replayed draft.nodes window) seen_at_end.1 seen_at_end.0 end.nodes settled_nodes path field (λ e. other e.0);
      sessions = end_sessions;
      last = end_last;
    }

  -- what follows the window
  both_histories : state_after there (map txn_of (after_window exact records)) ≡ tree_of (earlier ++ map txn_of records)
  both_histories =
      sym (after_append base (map txn_of window) (map txn_of (after_window exact records)))
      ∙ ap (state_after base) (sym (map_append window (after_window exact records)) ∙ ap (map txn_of) (both_parts exact records))
      ∙ sym (after_append start_state earlier (map txn_of records))

pub replay_is_exact : ReplayIsExact
replay_is_exact earlier records exact contents draft state taken is =
    let end = is.base in
    let seen = seen_at_end Listed earlier records exact contents draft taken in
    let nodes = settles_to_server _ _ seen.1 seen.0 end.nodes (settled_nodes Listed earlier records exact contents draft taken end is.settled) in
    is.applied
    ∙ ap (λ s. state_after s (map txn_of (after_window exact records)))
    (same_state end _ nodes (end_sessions Listed earlier records exact contents draft taken end is.settled) (end_last Listed earlier records exact contents draft taken end is.settled))
    ∙ both_histories Listed earlier records exact contents draft taken

pub replay_is_exact_but_pzxids : ReplayIsExactButPzxids
replay_is_exact_but_pzxids earlier records exact contents draft state taken is =
    let rest = map txn_of (after_window exact records) in
    subst (λ s. IsAlike s (tree_of (earlier ++ map txn_of records))) (sym is.applied)
    (subst (IsAlike (state_after is.base rest)) (both_histories Unlisted earlier records exact contents draft taken)
    (alike_after is.base _ rest (end_alike Unlisted earlier records exact contents draft taken is.base is.settled)))
