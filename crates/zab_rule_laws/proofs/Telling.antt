-- The messages of one event say what is so.
use Rattle.std.proofs.Common.{◌≡◌, ℕ, zero, suc, ◌+◌, ◌≤◌, ◌==◌, ◌&&◌, not, inl, inr, Bool, cond, List, [], ◌∷◌, ◌++◌, length, take, drop, Option, Some, None, refl, sym, subst, ◌∙◌, arith, take-append-drop, length-append}
use Rattle.std.proofs.lemmas.List.{append_assoc, length-take-le}
use Rattle.std.specs.List.{AllByRecursion}
use Rattle.zab_epoch.specs.declared.history.Entry.{Entry}
use Rattle.zab_broadcast.specs.News.{proposals, commits, tells_all, entries_for, news}
use Rattle.zab_laws.specs.Cores as laws
use Rattle.zab_laws.proofs.Facts.{split}
use Rattle.zab_rule_laws.specs.Told.{IsReached, MessageFact}
use Rattle.zab_rule_laws.proofs.Common.{by_test}

pub all_append : {A : Type 0} (P : A → Type 0) (xs ys : List A) → AllByRecursion P xs → AllByRecursion P ys → AllByRecursion P (xs ++ ys)
all_append P [] ys p q = q
all_append P (x ∷ xs) ys p q = (p.0, all_append P xs ys p.1 q)

-- the leader of an epoch, and what it holds
pub record Tells (g : laws.Ghost Entry) (me epoch : ℕ) (history : List Entry) : Type 0 where
  pub began : laws.Began Entry
  pub is : g.began epoch ≡ Some began
  pub leader : began.leader ≡ me
  pub held : g.held me epoch ≡ Some history

abbrev pub CommitFact : laws.Setting Entry → laws.Ghost Entry → ℕ → Option ℕ → Type 0
CommitFact k g epoch None = Unit {0}
CommitFact k g epoch (Some count) = IsReached k g epoch count

abbrev pub ProposalsFact : (C : Type 0) → laws.Setting Entry → laws.Ghost Entry → ℕ → ℕ → ℕ → List Entry → Type 0
ProposalsFact C k g me epoch index entries = (to : ℕ) → AllByRecursion (MessageFact {C = C} k g) (proposals me to epoch index entries)

proposals_from : (C : Type 0) (k : laws.Setting Entry) (g : laws.Ghost Entry) (me epoch : ℕ) (h l entries : List Entry) → Tells g me epoch h → l ++ entries ≡ h → ProposalsFact C k g me epoch (length l + 1) entries
proposals_from C k g me epoch h l [] tells e to = tt
proposals_from C k g me epoch h l (x ∷ entries) tells e to =
    let whole : (l ++ x ∷ []) ++ entries ≡ h = append_assoc l (x ∷ []) entries ∙ e in
    let at : length (l ++ x ∷ []) + 1 ≡ length l + 1 + 1 = omega (arith, length-append l (x ∷ [])) in (
      record { began = tells.began; is = tells.is; leader = tells.leader; longest = h; longest_is = tells.held; before = l; within = record { rest = entries; is = whole }; place = refl },
      subst (λ n. AllByRecursion (MessageFact {C = C} k g) (proposals me to epoch n entries)) at (proposals_from C k g me epoch h (l ++ x ∷ []) entries tells whole to),
    )

drop_past : {A : Type 0} (n : ℕ) (h : List A) → length h ≤ n → drop n h ≡ []
drop_past zero [] low = refl
drop_past zero (x ∷ h) low = absurd (omega arith)
drop_past (suc n) [] low = refl
drop_past (suc n) (x ∷ h) low = drop_past n h (omega arith)

pub proposals_fact : (C : Type 0) (k : laws.Setting Entry) (g : laws.Ghost Entry) (me epoch above : ℕ) (h : List Entry) → Tells g me epoch h → ProposalsFact C k g me epoch (above + 1) (drop above h)
proposals_fact C k g me epoch above h tells to = elim (split (length h) above) [
  | inl past ↦ subst (λ (entries : List Entry). AllByRecursion (MessageFact {C = C} k g) (proposals me to epoch (above + 1) entries)) (sym (drop_past above h (omega arith))) tt
  | inr low ↦ subst (λ n. AllByRecursion (MessageFact {C = C} k g) (proposals me to epoch (n + 1) (drop above h))) (length-take-le above h low)
      (proposals_from C k g me epoch h (take above h) (drop above h) tells (take-append-drop above h) to)
]

pub commits_fact : (C : Type 0) (k : laws.Setting Entry) (g : laws.Ghost Entry) (me to epoch : ℕ) (commit : Option ℕ) → CommitFact k g epoch commit → AllByRecursion (MessageFact {C = C} k g) (commits me to epoch commit)
commits_fact C k g me to epoch None fact = tt
commits_fact C k g me to epoch (Some count) fact = (fact, tt)

entries_fact : (C : Type 0) (k : laws.Setting Entry) (g : laws.Ghost Entry) (me to epoch index : ℕ) (whom : Option ℕ) (entries : List Entry) → ProposalsFact C k g me epoch index entries → AllByRecursion (MessageFact {C = C} k g) (proposals me to epoch index (entries_for whom to entries))
entries_fact C k g me to epoch index None entries fact = fact to
entries_fact C k g me to epoch index (Some one) entries fact =
    by_test (λ (list : List Entry). AllByRecursion (MessageFact {C = C} k g) (proposals me to epoch index list)) (to == one) entries [] (λ e. fact to) (λ e. tt)

pub news_fact : (C : Type 0) (k : laws.Setting Entry) (g : laws.Ghost Entry) (me at epoch index : ℕ) (whom : Option ℕ) (entries : List Entry) (commit : Option ℕ) (marks : List Bool) → ProposalsFact C k g me epoch index entries → CommitFact k g epoch commit → AllByRecursion (MessageFact {C = C} k g) (news me at epoch whom index entries commit marks)
news_fact C k g me at epoch index whom entries commit [] fact said = tt
news_fact C k g me at epoch index whom entries commit (mark ∷ marks) fact said =
    all_append (MessageFact {C = C} k g) (cond (mark && not (at == me)) (tells_all me at epoch index (entries_for whom at entries) commit) []) (news me (at + 1) epoch whom index entries commit marks)
    (by_test (AllByRecursion (MessageFact {C = C} k g)) (mark && not (at == me)) (tells_all me at epoch index (entries_for whom at entries) commit) []
    (λ e. all_append (MessageFact {C = C} k g) (proposals me at epoch index (entries_for whom at entries)) (commits me at epoch commit)
    (entries_fact C k g me at epoch index whom entries fact) (commits_fact C k g me at epoch commit said))
    (λ e. tt))
    (news_fact C k g me (at + 1) epoch index whom entries commit marks fact said)
