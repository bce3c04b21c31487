-- A leader that begins its epoch has a best vote of a quorum's.
use Rattle.std.proofs.Common.{◌≡◌, ℕ, zero, suc, pos, ◌+◌, ◌-◌, ◌<◌, ◌≤ℤ◌, inl, inr, Bool, true, false, List, [], ◌∷◌, length, Option, Some, None, refl, sym, ap, subst, ◌∙◌, arith, slice_get}
use Rattle.zab_epoch.specs.declared.history.Entry.{Entry}
use Rattle.zab_epoch.specs.declared.votes.Vote.{Vote}
use Rattle.zab_epoch.specs.Entries.{last_zxid, zxid_of}
use Rattle.zab_epoch.specs.Guards.{AtMost}
use Rattle.zab_epoch.specs.declared.stable.Stable.{Stable}
use Rattle.zab_epoch.specs.Rules.{vote_of, exceeds}
use Rattle.zab_epoch.specs.Tables.{marks_of}
use Rattle.zab_epoch.proofs.Guards.{no_vote_exceeds}
use Rattle.zab_laws.specs.Prefixes.{last_key}
use Rattle.zab_laws.specs.Cores as laws
use Rattle.zab_rule_laws.specs.Told.{VotesFact, zxid_key, laws_of}

-- ---- the last zxid

last_from : (x : Entry) (h : List Entry) → zxid_of (slice_get (x ∷ h) (length (x ∷ h) - 1)) ≡ last_key zxid_key x.txn.zxid h
last_from x [] = refl
last_from x (y ∷ h) =
    let step : length (x ∷ (y ∷ h)) - 1 ≡ suc (length (y ∷ h) - 1) = omega arith in
    ap (λ n. zxid_of (slice_get (x ∷ (y ∷ h)) n)) step ∙ last_from y h

pub last_same : (h : List Entry) → last_zxid h ≡ last_key zxid_key (pos 0) h
last_same [] = refl
last_same (x ∷ h) = last_from x h

-- ---- who is marked has voted

pub voted : {T : Type 0} (table : List (Option T)) (t : ℕ) → slice_get (marks_of table) t ≡ Some true → (v : T) × (slice_get table t ≡ Some (Some v))
voted [] t e = absurd cc
voted (None ∷ table) zero e = absurd cc
voted ((Some v) ∷ table) zero e = (v, refl)
voted (slot ∷ table) (suc t) e = voted table t e

-- ---- the guard of Begin

at_most : (own : Vote) (current : ℕ) (history : List Entry) (v : Vote) (voted : List Entry) (q : ℕ) → own.current ≡ current → own.last ≡ last_key zxid_key (pos 0) history → last_key zxid_key (pos 0) voted ≡ v.last → AtMost v own → laws.AtMost zxid_key (record { leader = q; current = v.current; history = voted }) (record { leader = q; current = current; history = history })
at_most own current history v voted q c l m (inl p) = inl (omega arith)
at_most own current history v voted q c l m (inr (same, low)) = inr (same ∙ c, subst (λ z. z ≤ℤ last_key zxid_key (pos 0) history) (sym m) (subst (λ z. v.last ≤ℤ z) l low))

-- no vote is greater than the leader's own, whose history the epoch goes on with
pub elects : (passes : List Bool → Bool) (g : laws.Ghost Entry) (q epoch : ℕ) (stable : Stable) (votes : List (Option Vote)) → VotesFact g q epoch votes → g.votes q epoch ≡ Some (record { leader = q; current = stable.current; history = stable.history }) → passes (marks_of votes) ≡ true → exceeds (vote_of stable) votes ≡ false → laws.IsElected (laws_of passes) g epoch q stable.history
elects passes g q epoch stable votes fact own quorum none = record {
  marks = marks_of votes;
  quorum = quorum;
  winner = q;
  best = record { leader = q; current = stable.current; history = stable.history };
  best_is = own;
  start_is = refl;
  each = λ t m. (let v = voted votes (t - 1) m.1 in
      let at : t - 1 + 1 ≡ t = (let p : 0 < t = m.0 in omega arith) in
      let h = fact (t - 1) v.0 v.1 in
      record {
        vote = record { leader = q; current = v.0.current; history = h.history };
        is = subst (λ u. g.votes u epoch ≡ Some (record { leader = q; current = v.0.current; history = h.history })) at h.is;
        leader_is = refl;
        at_most = at_most (vote_of stable) stable.current stable.history v.0 h.history q refl (last_same stable.history) h.last_is (no_vote_exceeds (vote_of stable) votes none (t - 1) v.0 v.1);
      });
}
