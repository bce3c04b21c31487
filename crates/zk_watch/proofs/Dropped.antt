-- No change fires a watch of a dropped session.
use Rattle.std.proofs.Common.{◌≡◌, ℕ, Bool, true, false, cond, not, ◌&&◌, ◌||◌, ◌==◌, if◌then◌else◌, List, [], ◌∷◌, ◌++◌, filter, refl, sym, ap, ◌∙◌}
use Rattle.std.specs.List.{list_any}
use Rattle.zk_machine.specs.declared.change.Change.{Change}
use Rattle.zk_watch.proofs.Guide.{told_first, and_false}
use Rattle.zk_watch.specs.declared.watch.Fired.{Fired}
use Rattle.zk_watch.specs.declared.watch.Watch.{Watch}
use Rattle.zk_watch.specs.WatchLaws.{is_told, DroppedStayUntold}
use Rattle.zk_watch.specs.Watching.{is_live, is_at, is_hit, spent, spent_by, told_by, after_change, fired_by, without_session}

or_parts : (a b : Bool) → (a || b) ≡ false → (a ≡ false) × (b ≡ false)
or_parts true b e = absurd cc
or_parts false b e = (refl, e)

is_of : ℕ → Watch → Bool
is_of session w = w.session == session

-- no watch is the session's
HasNone : ℕ → List Watch → Type 0
HasNone session ws = list_any (λ w. w.session == session) ws ≡ false

dropped_none : (session : ℕ) (ws : List Watch) → HasNone session (without_session session ws)
unfolding HasNone
dropped_none session [] = refl
dropped_none session (w ∷ ws) = by_session (w.session == session) refl (dropped_none session ws)
  where
    by_session : (b : Bool) → (w.session == session) ≡ b → list_any (λ v. v.session == session) (without_session session ws) ≡ false → list_any (λ v. v.session == session) (cond (not b) (w ∷ without_session session ws) (without_session session ws)) ≡ false
    by_session true is rest = rest
    by_session false is rest = ap (λ b. b || list_any (λ v. v.session == session) (without_session session ws)) is ∙ rest

none_told : (session : ℕ) (c : Change) (ws : List Watch) → HasNone session ws → is_told session (told_by c ws) ≡ false
unfolding HasNone
none_told session c [] none = refl
none_told session c (w ∷ ws) none =
    let parts = or_parts (w.session == session) (list_any (λ v. v.session == session) ws) none in
    told_first c session w ws
    ∙ ap (λ b. (is_hit c w && b) || is_told session (told_by c ws)) parts.0
    ∙ ap (λ b. b || is_told session (told_by c ws)) (and_false (is_hit c w))
    ∙ none_told session c ws parts.1

spent_session : (c : Change) (w : Watch) → (spent_by c w).session ≡ w.session
spent_session c w = by_path (is_at c.path w)
  where
    by_path : (b : Bool) → (if b then spent c.kind w else w).session ≡ w.session
    by_path true = refl
    by_path false = refl

none_after : (session : ℕ) (c : Change) (ws : List Watch) → HasNone session ws → HasNone session (after_change c ws)
unfolding HasNone
none_after session c [] none = refl
none_after session c (w ∷ ws) none =
    let parts = or_parts (w.session == session) (list_any (λ v. v.session == session) ws) none in
    by_life (is_live (spent_by c w)) parts.0 (none_after session c ws parts.1)
  where
    by_life : (b : Bool) → (w.session == session) ≡ false → list_any (λ v. v.session == session) (after_change c ws) ≡ false → list_any (λ v. v.session == session) (cond b (spent_by c w ∷ after_change c ws) (after_change c ws)) ≡ false
    by_life true other rest =
        ap (λ s. (s == session) || list_any (λ v. v.session == session) (after_change c ws)) (spent_session c w)
        ∙ ap (λ b. b || list_any (λ v. v.session == session) (after_change c ws)) other
        ∙ rest
    by_life false other rest = rest

told_neither : (session : ℕ) (one other : List Fired) → is_told session one ≡ false → is_told session other ≡ false → is_told session (one ++ other) ≡ false
told_neither session [] other a b = b
told_neither session (e ∷ one) other a b =
    let parts = or_parts (e.session == session) (is_told session one) a in
    ap (λ t. t || is_told session (one ++ other)) parts.0 ∙ told_neither session one other parts.1 b

none_fired : (session : ℕ) (changes : List Change) (ws : List Watch) → HasNone session ws → is_told session (fired_by changes ws) ≡ false
none_fired session [] ws none = refl
none_fired session (c ∷ changes) ws none =
    told_neither session (told_by c ws) (fired_by changes (after_change c ws)) (none_told session c ws none)
    (none_fired session changes (after_change c ws) (none_after session c ws none))

pub stay_untold : DroppedStayUntold
stay_untold session changes ws = none_fired session changes (without_session session ws) (dropped_none session ws)
