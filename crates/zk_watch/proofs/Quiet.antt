-- Changes that nobody hears of.
use Rattle.std.proofs.Common.{◌≡◌, Bool, true, false, cond, not, ◌&&◌, ◌||◌, if◌then◌else◌, List, [], ◌∷◌, ◌++◌, map, filter, refl, sym, ap, ap₂, ◌∙◌}
use Rattle.std.proofs.lemmas.Bool.{and_parts, false≢true}
use Rattle.std.specs.List.{list_all, list_any}
use Rattle.std.specs.Str.{bytes_eq}
use Rattle.zk_machine.specs.declared.change.Change.{Change}
use Rattle.zk_watch.specs.declared.watch.Watch.{Watch}
use Rattle.zk_watch.specs.Watching.{waits_for, is_hit, is_live, spent, spent_by, told, told_by, after_change, fired_by, left_after}

neither : (a b : Bool) → (a || b) ≡ false → (a ≡ false) × (b ≡ false)
neither true b h = absurd (false≢true (sym h))
neither false b h = (refl, h)

-- what is not heard stays
unheard : (a b : Bool) → (a && b) ≡ false → (a && not b) ≡ a
unheard true true h = absurd (false≢true (sym h))
unheard true false h = refl
unheard false b h = refl

same_watch : (c : Change) (w : Watch) → is_hit c w ≡ false → spent_by c w ≡ w
same_watch c w h = by_path (bytes_eq w.path c.path) h
  where
    by_path : (b : Bool) → (b && waits_for c.kind w) ≡ false → (if b then spent c.kind w else w) ≡ w
    by_path true h =
        let both = neither _ _ h in
        ap₂ (λ content children. record w { content = content; children = children }) (unheard _ _ both.0) (unheard _ _ both.1)
    by_path false h = refl

pub record Quiet (c : Change) (ws : List Watch) : Type 0 where
  pub told : told_by c ws ≡ []
  pub left : after_change c ws ≡ ws

pub quiet_change : (c : Change) (ws : List Watch) → list_any (is_hit c) ws ≡ false → list_all is_live ws ≡ true → Quiet c ws
quiet_change c [] unhit live = record { told = refl; left = refl }
quiet_change c (w ∷ ws) unhit live =
    let one = neither _ _ unhit in
    let waits = and_parts _ _ live in
    let rest = quiet_change c ws one.1 waits.1 in
    let same = same_watch c w one.0 in
    record {
      told = ap (λ b. map (told c) (cond b (w ∷ filter (is_hit c) ws) (filter (is_hit c) ws))) one.0 ∙ rest.told;
      left =
          ap (λ v. cond (is_live v) (v ∷ after_change c ws) (after_change c ws)) same
          ∙ ap (λ b. cond b (w ∷ after_change c ws) (after_change c ws)) waits.0
          ∙ ap (λ l. w ∷ l) rest.left;
    }

abbrev pub are_hit : List Watch → List Change → Bool
are_hit ws cs = list_any (λ c. list_any (is_hit c) ws) cs

pub quiet_told : (cs : List Change) (ws : List Watch) → are_hit ws cs ≡ false → list_all is_live ws ≡ true → fired_by cs ws ≡ []
quiet_told [] ws unhit live = refl
quiet_told (c ∷ cs) ws unhit live =
    let one = neither _ _ unhit in
    let now = quiet_change c ws one.0 live in
    ap₂ (λ first left. first ++ fired_by cs left) now.told now.left ∙ quiet_told cs ws one.1 live

pub quiet_left : (cs : List Change) (ws : List Watch) → are_hit ws cs ≡ false → list_all is_live ws ≡ true → left_after cs ws ≡ ws
quiet_left [] ws unhit live = refl
quiet_left (c ∷ cs) ws unhit live =
    let one = neither _ _ unhit in
    ap (left_after cs) (quiet_change c ws one.0 live).left ∙ quiet_left cs ws one.1 live

-- ---- and those that somebody hears of

abbrev is_some_told : {X : Type 0} → List X → Bool
is_some_told [] = false
is_some_told (x ∷ xs) = true

hit_told : (c : Change) (ws : List Watch) → list_any (is_hit c) ws ≡ true → is_some_told (told_by c ws) ≡ true
hit_told c [] hit = absurd (false≢true hit)
hit_told c (w ∷ ws) hit = by_first (is_hit c w) hit (hit_told c ws)
  where
    by_first : (b : Bool) → (b || list_any (is_hit c) ws) ≡ true → (list_any (is_hit c) ws ≡ true → is_some_told (told_by c ws) ≡ true) → is_some_told (map (told c) (cond b (w ∷ filter (is_hit c) ws) (filter (is_hit c) ws))) ≡ true
    by_first true hit later = refl
    by_first false hit later = later hit

some_appended : {X : Type 0} (xs ys : List X) → is_some_told xs ≡ true → is_some_told (xs ++ ys) ≡ true
some_appended [] ys some = absurd (false≢true some)
some_appended (x ∷ xs) ys some = refl

hit_fires : (cs : List Change) (ws : List Watch) → are_hit ws cs ≡ true → list_all is_live ws ≡ true → is_some_told (fired_by cs ws) ≡ true
hit_fires [] ws hit live = absurd (false≢true hit)
hit_fires (c ∷ cs) ws hit live = by_first _ refl hit (λ later. hit_fires cs ws later live)
  where
    by_first : (b : Bool) → list_any (is_hit c) ws ≡ b → (b || are_hit ws cs) ≡ true → (are_hit ws cs ≡ true → is_some_told (fired_by cs ws) ≡ true) → is_some_told (told_by c ws ++ fired_by cs (after_change c ws)) ≡ true
    by_first true first hit rest = some_appended _ _ (hit_told c ws first)
    by_first false first hit rest =
        let now = quiet_change c ws first live in
        ap₂ (λ told left. is_some_told (told ++ fired_by cs left)) now.told now.left ∙ rest hit

pub not_quiet : (cs : List Change) (ws : List Watch) → are_hit ws cs ≡ true → list_all is_live ws ≡ true → fired_by cs ws ≡ [] → ⊥
not_quiet cs ws hit live none = false≢true (sym (ap is_some_told none) ∙ hit_fires cs ws hit live)
