-- What the guide says of watches.
use Rattle.std.proofs.Common.{◌≡◌, ℕ, Bool, true, false, cond, not, ◌&&◌, ◌||◌, ◌==◌, eq-eqb, if◌then◌else◌, List, [], ◌∷◌, ◌++◌, map, filter, refl, sym, ap, ap₂, ◌∙◌, Less, Equal, Greater, is_eq}
use Rattle.std.proofs.lemmas.Bool.{false≢true, and_from, and_parts, cond_both}
use Rattle.std.proofs.lemmas.Cmp.{tied_back, tied_itself, nat_list_cmp_total}
use Rattle.std.proofs.lemmas.Map.Text.{is_eq-slice_cmp}
use Rattle.std.proofs.lemmas.Slice.Eq.{bytes_eq-Decides}
use Rattle.std.specs.declared.cmp.Ordering.{Ordering}
use Rattle.std.specs.FinMap.{nat_cmp-IsAntisymmetric}
use Rattle.std.specs.List.{AllByRecursion}
use Rattle.std.specs.List.Sorted.{IsStrictlySortedBy}
use Rattle.std.specs.Ordering.{match_ordering, nat_cmp, ordering_then}
use Rattle.zk_machine.specs.declared.change.Change.{Change}
use Rattle.zk_machine.specs.declared.change.ChangeKind.{ChangeKind}
use Rattle.zk_table.specs.States.{path_cmp}
use Rattle.zk_watch.proofs.Kept.{watch_cmp_total, by_ordering, change_kept}
use Rattle.zk_watch.specs.declared.watch.Fired.{Fired}
use Rattle.zk_watch.specs.declared.watch.Watch.{Watch}
use Rattle.zk_watch.specs.declared.watch.WatchKind.{WatchKind}
use Rattle.zk_watch.specs.declared.watch.WatchKind.TheVariants.{Content, Children}
use Rattle.zk_watch.specs.WatchLaws.{is_told, WatchesAreToldOnce, SetWatchesAreTold, OthersStay, TwiceIsOnce, DroppedAreToldNothing, EventsRise, event_cmp}
use Rattle.zk_watch.specs.Watching.{hears, waits_for, spent, spent_by, is_live, is_at, is_hit, told, told_by, after_change, fired_by, first_watch, joined, put, watch_cmp, without_session}

-- ---- fires once

spent_waits : (content children hears_content hears_children : Bool) → ((content && not hears_content) && hears_content || (children && not hears_children) && hears_children) ≡ false
spent_waits true true true true = refl
spent_waits true true true false = refl
spent_waits true true false true = refl
spent_waits true true false false = refl
spent_waits true false true x = refl
spent_waits true false false x = refl
spent_waits false true x true = refl
spent_waits false true x false = refl
spent_waits false false x y = refl

spent_not_hit : (c : Change) (w : Watch) → is_hit c (spent_by c w) ≡ false
spent_not_hit c w = by_path (is_at c.path w) refl
  where
    by_path : (b : Bool) → is_at c.path w ≡ b → is_hit c (if b then spent c.kind w else w) ≡ false
    by_path true at = ap (λ b. b && waits_for c.kind (spent c.kind w)) at ∙ spent_waits w.content w.children (hears Content c.kind) (hears Children c.kind)
    by_path false at = ap (λ b. b && waits_for c.kind w) at

pub told_once : WatchesAreToldOnce
told_once c [] = refl
told_once c (w ∷ ws) = by_life (is_live (spent_by c w)) (told_once c ws)
  where
    by_life : (b : Bool) → told_by c (after_change c ws) ≡ [] → told_by c (cond b (spent_by c w ∷ after_change c ws) (after_change c ws)) ≡ []
    by_life true rest = ap (λ b. map (told c) (cond b (spent_by c w ∷ filter (is_hit c) (after_change c ws)) (filter (is_hit c) (after_change c ws)))) (spent_not_hit c w) ∙ rest
    by_life false rest = rest

-- ---- a watch that is set fires

-- of the watches v ∷ ws
pub told_first : (c : Change) (session : ℕ) (v : Watch) (ws : List Watch) → is_told session (told_by c (v ∷ ws)) ≡ ((is_hit c v && v.session == session) || is_told session (told_by c ws))
told_first c session v ws = by_hit (is_hit c v)
  where
    by_hit : (b : Bool) → is_told session (map (told c) (cond b (v ∷ filter (is_hit c) ws) (filter (is_hit c) ws))) ≡ ((b && v.session == session) || is_told session (told_by c ws))
    by_hit true = refl
    by_hit false = refl

or_true : (a : Bool) → (a || true) ≡ true
or_true true = refl
or_true false = refl

pub and_false : (a : Bool) → (a && false) ≡ false
and_false true = refl
and_false false = refl

tied_parts : (r s : Ordering) → ordering_then r s ≡ Equal → (r ≡ Equal) × (s ≡ Equal)
tied_parts Less s e = absurd (false≢true (ap is_eq e))
tied_parts Equal s e = (refl, e)
tied_parts Greater s e = absurd (false≢true (ap is_eq e))

-- watches that tie are one session's at one path
same_session : (v w : Watch) → watch_cmp v w ≡ Equal → v.session ≡ w.session
same_session v w e = nat_cmp-IsAntisymmetric _ _ (tied_parts _ _ e).1

same_path : (v w : Watch) → watch_cmp v w ≡ Equal → is_at v.path w ≡ true
same_path v w e = sym (is_eq-slice_cmp w.path v.path) ∙ ap is_eq (tied_back nat_list_cmp_total v.path w.path (tied_parts _ _ e).0)

first_waits : (session : ℕ) (kind : WatchKind) (path : List ℕ) (change : ChangeKind) → hears kind change ≡ true → waits_for change (first_watch session kind path) ≡ true
first_waits session Content path change heard = ap (λ b. b || false) heard
first_waits session Children path change heard = heard

joined_waits : (session : ℕ) (kind : WatchKind) (path : List ℕ) (w : Watch) (change : ChangeKind) → hears kind change ≡ true → waits_for change (joined (first_watch session kind path) w) ≡ true
joined_waits session Content path w change heard = ap (λ b. b || w.children && hears Children change) heard
joined_waits session Children path w change heard = ap (λ b. w.content && hears Content change || b) heard ∙ or_true (w.content && hears Content change)

pub set_told : SetWatchesAreTold
set_told session kind c ws heard = there ws
  where
    new : Watch
    new = first_watch session kind c.path

    counted : (v : Watch) (ws : List Watch) → is_hit c v ≡ true → (v.session == session) ≡ true → is_told session (told_by c (v ∷ ws)) ≡ true
    counted v ws hit same = told_first c session v ws ∙ ap (λ b. b || is_told session (told_by c ws)) (and_from _ _ hit same)

    first : (ws : List Watch) → is_told session (told_by c (new ∷ ws)) ≡ true
    first ws = counted new ws (and_from _ _ (same_path new new (tied_itself watch_cmp_total new)) (first_waits session kind c.path c.kind heard)) (eq-eqb session session refl)

    there : (ws : List Watch) → is_told session (told_by c (put new ws)) ≡ true
    there [] = first []
    there (w ∷ ws) =
        by_ordering (watch_cmp new w) _ _ _ (λ l. is_told session (told_by c l) ≡ true)
        (λ _. first (w ∷ ws))
        (λ e. counted (joined new w) ws (and_from _ _ (same_path new w e) (joined_waits session kind c.path w c.kind heard)) (ap (λ s. s == session) (sym (same_session new w e)) ∙ eq-eqb session session refl))
        (λ _. told_first c session w (put new ws) ∙ ap (λ b. is_hit c w && w.session == session || b) (there ws) ∙ or_true (is_hit c w && w.session == session))

pub others_stay : OthersStay
others_stay session other kind path c ws apart = stay ws
  where
    new : Watch
    new = first_watch session kind path

    uncounted : (v : Watch) (ws : List Watch) → (v.session == other) ≡ false → is_told other (told_by c (v ∷ ws)) ≡ is_told other (told_by c ws)
    uncounted v ws differs = told_first c other v ws ∙ ap (λ b. is_hit c v && b || is_told other (told_by c ws)) differs ∙ ap (λ b. b || is_told other (told_by c ws)) (and_false (is_hit c v))

    stay : (ws : List Watch) → is_told other (told_by c (put new ws)) ≡ is_told other (told_by c ws)
    stay [] = uncounted new [] apart
    stay (w ∷ ws) =
        by_ordering (watch_cmp new w) _ _ _ (λ l. is_told other (told_by c l) ≡ is_told other (told_by c (w ∷ ws)))
        (λ _. uncounted new (w ∷ ws) apart)
        (λ e.
        let differs : (w.session == other) ≡ false = ap (λ s. s == other) (sym (same_session new w e)) ∙ apart in
        uncounted (joined new w) ws differs ∙ sym (uncounted w ws differs))
        (λ _. told_first c other w (put new ws) ∙ ap (λ b. is_hit c w && w.session == other || b) (stay ws) ∙ sym (told_first c other w ws))

pub twice_is_once : TwiceIsOnce
twice_is_once session kind path ws = again (first_watch session kind path) ws
  where
    either_twice : (a b : Bool) → (a || (a || b)) ≡ (a || b)
    either_twice true b = refl
    either_twice false b = refl

    itself : (a : Bool) → (a || a) ≡ a
    itself true = refl
    itself false = refl

    joined_itself : (new : Watch) → joined new new ≡ new
    joined_itself new = ap₂ (λ content children. record new { content = content; children = children }) (itself new.content) (itself new.children)

    joined_again : (new w : Watch) → joined new (joined new w) ≡ joined new w
    joined_again new w = ap₂ (λ content children. record w { content = content; children = children }) (either_twice new.content w.content) (either_twice new.children w.children)

    found : (new w : Watch) (ws : List Watch) → watch_cmp new w ≡ Equal → put new (w ∷ ws) ≡ joined new w ∷ ws
    found new w ws e = ap (λ r. match_ordering r (new ∷ w ∷ ws) (joined new w ∷ ws) (w ∷ put new ws)) e

    behind : (new w : Watch) (ws : List Watch) → watch_cmp new w ≡ Greater → put new (w ∷ ws) ≡ w ∷ put new ws
    behind new w ws e = ap (λ r. match_ordering r (new ∷ w ∷ ws) (joined new w ∷ ws) (w ∷ put new ws)) e

    again : (new : Watch) (ws : List Watch) → put new (put new ws) ≡ put new ws
    again new [] = found new new [] (tied_itself watch_cmp_total new) ∙ ap (λ w. w ∷ []) (joined_itself new)
    again new (w ∷ ws) =
        by_ordering (watch_cmp new w) _ _ _ (λ l. put new l ≡ l)
        (λ _. found new new (w ∷ ws) (tied_itself watch_cmp_total new) ∙ ap (λ v. v ∷ w ∷ ws) (joined_itself new))
        (λ e. found new (joined new w) ws e ∙ ap (λ v. v ∷ ws) (joined_again new w))
        (λ e. behind new w (put new ws) e ∙ ap (λ l. w ∷ l) (again new ws))

-- ---- a dropped session gets no event

pub dropped_told : DroppedAreToldNothing
dropped_told session c [] = refl
dropped_told session c (w ∷ ws) = by_two (not (w.session == session)) (is_hit c w) refl refl (dropped_told session c ws)
  where
    stays : Fired → Bool
    stays e = not (e.session == session)

    by_two : (kept hit : Bool) → not (w.session == session) ≡ kept → is_hit c w ≡ hit → told_by c (without_session session ws) ≡ filter stays (told_by c ws) → told_by c (cond kept (w ∷ without_session session ws) (without_session session ws)) ≡ filter stays (map (told c) (cond hit (w ∷ filter (is_hit c) ws) (filter (is_hit c) ws)))
    by_two true true is hit rest =
        ap (λ b. map (told c) (cond b (w ∷ filter (is_hit c) (without_session session ws)) (filter (is_hit c) (without_session session ws)))) hit
        ∙ ap (λ l. told c w ∷ l) rest
        ∙ sym (ap (λ b. cond b (told c w ∷ filter stays (told_by c ws)) (filter stays (told_by c ws))) is)
    by_two true false is hit rest =
        ap (λ b. map (told c) (cond b (w ∷ filter (is_hit c) (without_session session ws)) (filter (is_hit c) (without_session session ws)))) hit
        ∙ rest
    by_two false true is hit rest = rest ∙ sym (ap (λ b. cond b (told c w ∷ filter stays (told_by c ws)) (filter stays (told_by c ws))) is)
    by_two false false is hit rest = rest

-- ---- in the order of paths and sessions

-- of two watches at one path the earlier is the lesser session's
lesser_session : (path : List ℕ) (v w : Watch) → is_at path v ≡ true → is_at path w ≡ true → watch_cmp v w ≡ Less → nat_cmp v.session w.session ≡ Less
lesser_session path v w at_v at_w less =
    let tie : path_cmp v.path w.path ≡ Equal =
    ap₂ path_cmp ((bytes_eq-Decides v.path path).0 at_v) ((bytes_eq-Decides w.path path).0 at_w) ∙ tied_itself nat_list_cmp_total path in
    sym (ap (λ r. ordering_then r (nat_cmp v.session w.session)) tie) ∙ less

above_told : (c : Change) (v : Watch) (ws : List Watch) → is_at c.path v ≡ true → AllByRecursion (λ w. watch_cmp v w ≡ Less) ws → AllByRecursion (λ e. event_cmp (told c v) e ≡ Less) (told_by c ws)
above_told c v [] at h = tt
above_told c v (w ∷ ws) at h = by_hit (is_hit c w) refl (above_told c v ws at h.1)
  where
    by_hit : (b : Bool) → is_hit c w ≡ b → AllByRecursion (λ e. event_cmp (told c v) e ≡ Less) (told_by c ws) → AllByRecursion (λ e. event_cmp (told c v) e ≡ Less) (map (told c) (cond b (w ∷ filter (is_hit c) ws) (filter (is_hit c) ws)))
    by_hit true hit rest =
        (ap (λ r. ordering_then r (nat_cmp v.session w.session)) (tied_itself nat_list_cmp_total c.path) ∙ lesser_session c.path v w at (and_parts _ _ hit).0 h.0, rest)
    by_hit false hit rest = rest

told_rise : (c : Change) (ws : List Watch) → IsStrictlySortedBy watch_cmp ws → IsStrictlySortedBy event_cmp (told_by c ws)
unfolding IsStrictlySortedBy
told_rise c [] h = tt
told_rise c (w ∷ ws) h =
    cond_both (is_hit c w) (w ∷ filter (is_hit c) ws) (filter (is_hit c) ws) (λ l. IsStrictlySortedBy event_cmp (map (told c) l))
    (λ hit. (above_told c w ws (and_parts _ _ hit).0 h.0, told_rise c ws h.1))
    (λ _. told_rise c ws h.1)

all_appended : {X : Type 0} (P : X → Type 0) (xs ys : List X) → AllByRecursion P xs → AllByRecursion P ys → AllByRecursion P (xs ++ ys)
all_appended P [] ys h k = k
all_appended P (x ∷ xs) ys h k = (h.0, all_appended P xs ys h.1 k)

-- the events of changes at later paths are at later paths
told_later : (path : List ℕ) (c : Change) (ws : List Watch) → path_cmp path c.path ≡ Less → AllByRecursion (λ e. path_cmp path e.path ≡ Less) (map (told c) ws)
told_later path c [] less = tt
told_later path c (w ∷ ws) less = (less, told_later path c ws less)

fired_later : (path : List ℕ) (cs : List Change) (ws : List Watch) → AllByRecursion (λ p. path_cmp path p ≡ Less) (map (λ c. c.path) cs) → AllByRecursion (λ e. path_cmp path e.path ≡ Less) (fired_by cs ws)
fired_later path [] ws h = tt
fired_later path (c ∷ cs) ws h = all_appended (λ e. path_cmp path e.path ≡ Less) (told_by c ws) (fired_by cs (after_change c ws)) (told_later path c (filter (is_hit c) ws) h.0) (fired_later path cs (after_change c ws) h.1)

behind_told : (c : Change) (w : Watch) (es : List Fired) → AllByRecursion (λ e. path_cmp c.path e.path ≡ Less) es → AllByRecursion (λ e. event_cmp (told c w) e ≡ Less) es
behind_told c w [] h = tt
behind_told c w (e ∷ es) h = (ap (λ r. ordering_then r (nat_cmp w.session e.session)) h.0, behind_told c w es h.1)

rise_on : (c : Change) (ws : List Watch) (es : List Fired) → IsStrictlySortedBy event_cmp (map (told c) ws) → AllByRecursion (λ e. path_cmp c.path e.path ≡ Less) es → IsStrictlySortedBy event_cmp es → IsStrictlySortedBy event_cmp (map (told c) ws ++ es)
unfolding IsStrictlySortedBy
rise_on c [] es one later rest = rest
rise_on c (w ∷ ws) es one later rest =
    (all_appended (λ e. event_cmp (told c w) e ≡ Less) (map (told c) ws) es one.0 (behind_told c w es later), rise_on c ws es one.1 later rest)

pub events_rise : EventsRise
unfolding IsStrictlySortedBy
events_rise [] ws h sorted = tt
events_rise (c ∷ cs) ws h sorted = rise_on c (filter (is_hit c) ws) (fired_by cs (after_change c ws)) (told_rise c ws h.ordered) (fired_later c.path cs (after_change c ws) sorted.0) (events_rise cs (after_change c ws) (change_kept c ws h) sorted.1)
