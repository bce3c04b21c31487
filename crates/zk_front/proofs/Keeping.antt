-- Changes of the sessions that are kept.
use Rattle.std.proofs.Common.{◌≡◌, inl, ℤ, Bool, true, cond, List, [], ◌∷◌, ◌++◌, Option, Some, None, int_cmp, refl, sym, ap, subst, ◌∙◌}
use Rattle.std.specs.BTreeMap as tree
use Rattle.std.specs.BTreeMap.{BTreeMap}
use Rattle.std.specs.FinMap as finite
use Rattle.std.specs.FinMap.{FinMap}
use Rattle.zk_prepare.specs.Deadlines.{DeadlineMap, touched, forgotten}
use Rattle.zk_tree.proofs.Kept.{get-sessions, sessions_inserted, sessions_removed}
use Rattle.zk_front.specs.Keeping.{Keeping, KeepsOrNot, all_let_go, heard, heard_by, kept, let_go}
use Rattle.zk_front.specs.declared.session_effect.SessionEffect.{SessionEffect}
use Rattle.zk_front.specs.declared.session_effect.SessionEffect.TheVariants as turns

abbrev pub keeping : FinMap int_cmp ℤ → DeadlineMap → Keeping
keeping timeouts deadlines = record { timeouts = timeouts; deadlines = deadlines }

alike : (a b : FinMap int_cmp ℤ) (d e : DeadlineMap) → a ≡ b → d ≡ e → keeping a d ≡ keeping b e
alike a b d e timeouts deadlines = ap (λ m. keeping m d) timeouts ∙ ap (keeping b) deadlines

-- one session is kept, its deadline moves, and it is no longer kept

pub touched_alike : (it : DeadlineMap) (s s' t t' n n' : ℤ) → s ≡ s' → t ≡ t' → n ≡ n' → touched it s t n ≡ touched it s' t' n'
touched_alike it s s' t t' n n' session timeout now = ap (λ x. touched it x t n) session ∙ ap (λ x. touched it s' x n) timeout ∙ ap (touched it s' t') now

pub kept_is : (session key timeout value now : ℤ) (old new : BTreeMap ℤ ℤ) (timeouts : FinMap int_cmp ℤ) (before after : DeadlineMap) → key ≡ session → value ≡ timeout → finite.from_entries old.entries ≡ timeouts
    → tree.UpdatesBy int_cmp (int_cmp key) old new (Some value) → after ≡ touched before session timeout now → keeping (finite.from_entries new.entries) after ≡ kept session timeout now (keeping timeouts before)
kept_is session key timeout value now old new timeouts before after same alike_value was updates due =
    alike _ _ _ _
    (sessions_inserted key old new value updates
    ∙ ap (λ m. finite.insert m key value) was
    ∙ ap (λ s. finite.insert timeouts s value) same
    ∙ ap (finite.insert timeouts session) alike_value)
    due

pub let_go_is : (session key : ℤ) (old new : BTreeMap ℤ ℤ) (before after : DeadlineMap) → key ≡ session → tree.UpdatesBy int_cmp (int_cmp key) old new None → after ≡ forgotten before key
    → keeping (finite.from_entries new.entries) after ≡ let_go session (keeping (finite.from_entries old.entries) before)
let_go_is session key old new before after same updates due =
    alike _ _ _ _ (sessions_removed key old new updates ∙ ap (finite.remove (finite.from_entries old.entries)) same) (due ∙ ap (forgotten before) same)

pub heard_is : (session key now : ℤ) (timeouts : BTreeMap ℤ ℤ) (found : Option ℤ) (before after : DeadlineMap) → key ≡ session → found ≡ tree.get_by (int_cmp key) timeouts → after ≡ heard_by found session now before
    → keeping (finite.from_entries timeouts.entries) after ≡ heard session now (keeping (finite.from_entries timeouts.entries) before)
heard_is session key now timeouts found before after same is due =
    let there : found ≡ finite.get (finite.from_entries timeouts.entries) session = is ∙ ap (λ s. tree.get_by (int_cmp s) timeouts) same ∙ sym (get-sessions timeouts session) in
    ap (keeping (finite.from_entries timeouts.entries)) (due ∙ ap (λ o. heard_by o session now before) there)

-- ---- several are no longer kept

pub all_let_go_more : (first more : List ℤ) (it : Keeping) → all_let_go (first ++ more) it ≡ all_let_go more (all_let_go first it)
all_let_go_more [] more it = refl
all_let_go_more (session ∷ first) more it = all_let_go_more first more (let_go session it)

-- a session that was opened is neither kept nor has a deadline
pub none_opened : (turn : SessionEffect) (now : ℤ) (old new : Keeping) → new ≡ old → KeepsOrNot turn now old new
none_opened (turns.Opens timeout) now old new same = inl same
none_opened turns.Closes now old new same = same
none_opened turns.Neither now old new same = same
