-- Entries without a watch may stay while changes fire: they fire nothing.
use Rattle.std.proofs.Common.{◌≡◌, ℕ, ◌++◌, length, take, drop, append-nil, arith, Bool, true, false, cond, ◌&&◌, ◌||◌, if◌then◌else◌, List, [], ◌∷◌, map, filter, refl, sym, ap, ◌∙◌}
use Rattle.std.proofs.lemmas.Bool.{false≢true, and_parts}
use Rattle.std.proofs.lemmas.List.{drop_all, take_all}
use Rattle.std.specs.List.{list_all}
use Rattle.zk_machine.specs.declared.change.Change.{Change}
use Rattle.zk_watch.specs.declared.watch.Watch.{Watch}
use Rattle.zk_watch.specs.Watching.{is_at, is_hit, is_live, spent, spent_by, told, told_by, after_change}

-- of what is not set nothing is heard, and nothing is left
unset_waits : (content children a b : Bool) → (content || children) ≡ false → (content && a || children && b) ≡ false
unset_waits true children a b dead = absurd (false≢true (sym dead))
unset_waits false true a b dead = absurd (false≢true (sym dead))
unset_waits false false a b dead = refl

and_false : (b : Bool) → (b && false) ≡ false
and_false true = refl
and_false false = refl

dead_unhit : (c : Change) (w : Watch) → is_live w ≡ false → is_hit c w ≡ false
dead_unhit c w dead = ap (λ b. is_at c.path w && b) (unset_waits w.content w.children _ _ dead) ∙ and_false (is_at c.path w)

dead_spent : (c : Change) (w : Watch) → is_live w ≡ false → is_live (spent_by c w) ≡ false
dead_spent c w dead = by_path (is_at c.path w)
  where
    by_path : (b : Bool) → is_live (if b then spent c.kind w else w) ≡ false
    by_path true = unset_waits w.content w.children _ _ dead
    by_path false = dead

pub told_live : (c : Change) (ws : List Watch) → told_by c (filter is_live ws) ≡ told_by c ws
told_live c ws = ap (map (told c)) (hit_live ws)
  where
    hit_live : (ws : List Watch) → filter (is_hit c) (filter is_live ws) ≡ filter (is_hit c) ws
    hit_live [] = refl
    hit_live (w ∷ ws) = by_life (is_live w) refl (hit_live ws)
      where
        by_life : (b : Bool) → is_live w ≡ b → filter (is_hit c) (filter is_live ws) ≡ filter (is_hit c) ws → filter (is_hit c) (cond b (w ∷ filter is_live ws) (filter is_live ws)) ≡ filter (is_hit c) (w ∷ ws)
        by_life true live rest = ap (λ l. cond (is_hit c w) (w ∷ l) l) rest
        by_life false dead rest = rest ∙ sym (ap (λ b. cond b (w ∷ filter (is_hit c) ws) (filter (is_hit c) ws)) (dead_unhit c w dead))

pub after_live : (c : Change) (ws : List Watch) → after_change c (filter is_live ws) ≡ filter is_live (map (spent_by c) ws)
after_live c [] = refl
after_live c (w ∷ ws) = by_life (is_live w) refl (after_live c ws)
  where
    by_life : (b : Bool) → is_live w ≡ b → after_change c (filter is_live ws) ≡ filter is_live (map (spent_by c) ws) → after_change c (cond b (w ∷ filter is_live ws) (filter is_live ws)) ≡ filter is_live (map (spent_by c) (w ∷ ws))
    by_life true live rest = ap (λ l. cond (is_live (spent_by c w)) (spent_by c w ∷ l) l) rest
    by_life false dead rest = rest ∙ sym (ap (λ b. cond b (spent_by c w ∷ after ws) (after ws)) (dead_spent c w dead))
      where
        after : List Watch → List Watch
        after l = filter is_live (map (spent_by c) l)

pub all_live : (ws : List Watch) → list_all is_live ws ≡ true → filter is_live ws ≡ ws
all_live [] live = refl
all_live (w ∷ ws) live =
    ap (λ b. cond b (w ∷ filter is_live ws) (filter is_live ws)) (and_parts _ _ live).0
    ∙ ap (λ l. w ∷ l) (all_live ws (and_parts _ _ live).1)

-- ---- a vector whose items were borrowed as a slice has what was written there

pub lent_back : {X : Type 0} (n : ℕ) (ws xs : List X) → length ws ≡ length xs → n ≡ length xs → take n (ws ++ drop (length ws) xs) ≡ ws
lent_back n ws xs same long =
    ap (λ l. take n (ws ++ l)) (drop_all (length ws) xs (omega (arith, same)))
    ∙ ap (take n) (append-nil ws)
    ∙ take_all n ws (omega (arith, same, long))
