-- Where no request is a read, none is after a call of the hub, and no connection is blocked.
use Rattle.std.proofs.Common.{◌≡◌, ℕ, Bool, true, false, not, List, [], ◌∷◌, ◌++◌, filter, if◌then◌else◌, refl, sym}
use Rattle.std.specs.Prelude.{◌&&◌, ◌||◌}
use Rattle.std.proofs.lemmas.Bool.{cond_both, false≢true}
use Rattle.zk_hub.specs.Hubs.{has_read, is_blocked, is_done, is_of, is_read, is_read_of, waits_for, with_result, without_connection, without_read, without_ready}
use Rattle.zk_hub.specs.declared.request.Outstanding.{Outstanding}
use Rattle.zk_hub.specs.declared.request.Stage.TheVariants.{Done}

parts : (a b : Bool) → (a || b) ≡ false → (a ≡ false) × (b ≡ false)
parts false false h = (refl, refl)
parts false true h = absurd (false≢true (sym h))
parts true b h = absurd (false≢true (sym h))

both : (a b : Bool) → a ≡ false → b ≡ false → (a || b) ≡ false
both false b one other = other
both true b one other = absurd (false≢true (sym one))

second : (a b : Bool) → b ≡ false → (a && b) ≡ false
second true b none = none
second false b none = refl

module _ {E R : Type 0} where
  pub none_blocked : (connection : ℕ) (its : List (Outstanding E R)) → has_read its ≡ false → is_blocked connection its ≡ false
  none_blocked connection [] h = refl
  none_blocked connection (it ∷ its) h =
      let none = parts (is_read it.stage) (has_read its) h in
      both (is_read_of connection it) (is_blocked connection its) (second (is_of connection it) (is_read it.stage) none.0) (none_blocked connection its none.1)

  pub none_pushed : (it : Outstanding E R) (its : List (Outstanding E R)) → has_read its ≡ false → is_read it.stage ≡ false → has_read (its ++ it ∷ []) ≡ false
  none_pushed it [] h none = both (is_read it.stage) false none refl
  none_pushed it (one ∷ its) h none =
      let rest = parts (is_read one.stage) (has_read its) h in
      both (is_read one.stage) (has_read (its ++ it ∷ [])) rest.0 (none_pushed it its rest.1 none)

  pub none_completed : (tag : ℕ) (result : R) (its : List (Outstanding E R)) → has_read its ≡ false → has_read (with_result tag result its) ≡ false
  none_completed tag result [] h = refl
  none_completed tag result (it ∷ its) h =
      let rest = parts (is_read it.stage) (has_read its) h in
      cond_both (waits_for tag it) (record it { stage = Done result } ∷ its) (it ∷ with_result tag result its) (λ l. has_read l ≡ false)
      (λ _. rest.1)
      (λ _. both (is_read it.stage) (has_read (with_result tag result its)) rest.0 (none_completed tag result its rest.1))

  pub none_ready : (connection : ℕ) (its : List (Outstanding E R)) → has_read its ≡ false → has_read (without_ready connection its) ≡ false
  none_ready connection [] h = refl
  none_ready connection (it ∷ its) h =
      let rest = parts (is_read it.stage) (has_read its) h in
      cond_both (is_of connection it) (if is_done it.stage then without_ready connection its else it ∷ its) (it ∷ without_ready connection its) (λ l. has_read l ≡ false)
      (λ _. cond_both (is_done it.stage) (without_ready connection its) (it ∷ its) (λ l. has_read l ≡ false) (λ _. none_ready connection its rest.1) (λ _. h))
      (λ _. both (is_read it.stage) (has_read (without_ready connection its)) rest.0 (none_ready connection its rest.1))

  pub none_read : (connection : ℕ) (its : List (Outstanding E R)) → has_read its ≡ false → has_read (without_read connection its) ≡ false
  none_read connection [] h = refl
  none_read connection (it ∷ its) h =
      let rest = parts (is_read it.stage) (has_read its) h in
      cond_both (is_of connection it) (if is_read it.stage then its else it ∷ its) (it ∷ without_read connection its) (λ l. has_read l ≡ false)
      (λ _. cond_both (is_read it.stage) its (it ∷ its) (λ l. has_read l ≡ false) (λ _. rest.1) (λ _. h))
      (λ _. both (is_read it.stage) (has_read (without_read connection its)) rest.0 (none_read connection its rest.1))

  pub none_closed : (connection : ℕ) (its : List (Outstanding E R)) → has_read its ≡ false → has_read (without_connection connection its) ≡ false
  none_closed connection [] h = refl
  none_closed connection (it ∷ its) h =
      let rest = parts (is_read it.stage) (has_read its) h in
      cond_both (not (is_of connection it)) (it ∷ without_connection connection its) (without_connection connection its) (λ l. has_read l ≡ false)
      (λ _. both (is_read it.stage) (has_read (without_connection connection its)) rest.0 (none_closed connection its rest.1))
      (λ _. none_closed connection its rest.1)
