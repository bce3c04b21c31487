-- Rules at a leader of the third phase.
use Rattle.std.proofs.Common.{◌≡◌, ℕ, zero, suc, ◌+◌, ◌-◌, ◌*◌, ◌^◌, ◌<◌, ◌≤◌, ◌==◌, ◌&&◌, ℤ, pos, nat_lt, max, ◌⊎◌, inl, inr, Bool, true, false, cond, List, [], ◌∷◌, ◌++◌, length, drop, set, Option, Some, None, Ok, refl, sym, ap, subst, ◌∙◌, arith, slice_get, length-append}
use Rattle.std.proofs.lemmas.Int.{ints}
use Rattle.std.proofs.lemmas.List.{append-nil, append_assoc, take-append-le}
use Rattle.std.specs.List.{AllByRecursion}
use Rattle.zab_epoch.specs.declared.history.Entry.{Entry}
use Rattle.zab_epoch.specs.declared.role.Role.{Role}
use Rattle.zab_epoch.specs.declared.role.Role.TheVariants.{Looking, Discover, Choose, Sync, Broadcast, Following}
use Rattle.zab_epoch.specs.declared.stable.Stable.{Stable}
use Rattle.zab_epoch.specs.Tables.{put, marks_of, said_by, said_of}
use Rattle.zab_broadcast.specs.declared.state.State.{State}
use Rattle.zab_broadcast.proofs.CommitCounts.{greatest_reached}
use Rattle.zab_broadcast.specs.News.{proposals, commits}
use Rattle.zab_broadcast.specs.Rules.{counted, settles, took, news_of, tells_news, next_zxid, raised, greater_of, ack_as, catches_up, entered, enters, ack_leader_as}
use Rattle.zab_laws.specs.Prefixes.{IsPrefix}
use Rattle.zab_laws.specs.Cores as laws
use Rattle.zab_laws.specs.Cores.Move.{Extend}
use Rattle.zab_laws.proofs.PrefixLaws.{prefix_trans, prefix_length, prefix_refl}
use Rattle.zab_laws.proofs.Facts.{same_some, split}
use Rattle.zab_laws.proofs.Keeping.{chosen_grows, keeps_both}
use Rattle.zab_laws.proofs.Beginning.{two_same}
use Rattle.zab_laws.proofs.Adopting.{begun_above}
use Rattle.zab_laws.proofs.Extending.{keeps_extend}
use Rattle.zab_rule_laws.specs.Told.{core_of, told_of, HasLength, IsReached, HasFact, Leads, Broadcasts, Syncs, MessageFact, RoleFact, OwesOf}
use Rattle.zab_rule_laws.proofs.Common.{by_test, both_true, eq_is, less_is, stays, chosen_of, delivers_more, count_passes, has_reached, more_told}
use Rattle.zab_rule_laws.proofs.Telling.{all_append, Tells, CommitFact, proposals_fact, news_fact}
use Rattle.zab_rule_laws.proofs.Following.{owes_nothing}

-- ---- what rule 9 gives

told_by : (k : laws.Setting Entry) (g : laws.Ghost Entry) (state : State) → laws.IsKept k g state.peer.me (core_of state) → Leads g state → Tells g state.peer.me state.peer.stable.promised state.peer.stable.history
told_by k g state kept b = record {
  began = b.began;
  is = subst (λ e. g.began e ≡ Some b.began) (sym b.same) b.is;
  leader = b.leader;
  held = subst (λ e. g.held state.peer.me e ≡ Some state.peer.stable.history) (sym b.same) kept.sound.held_now;
}

-- the commit count is reached, 0 too
counted_reached : (k : laws.Setting Entry) (g : laws.Ghost Entry) (state : State) → Leads g state → laws.IsChosen k g state.peer.stable.current [] → IsReached k g state.peer.stable.current (counted k.passes state)
counted_reached k g state leads chosen = elim (split 0 (counted k.passes state)) [
  | inl above ↦ has_reached k g state.peer.stable.current (counted k.passes state) leads.began state.has leads.is leads.has (count_passes k.passes state.has (length state.peer.stable.history) above)
  | inr none ↦ record {
    began = leads.began;
    is = leads.is;
    marks = chosen.marks;
    quorum = chosen.quorum;
    each = λ t m. (let h = chosen.each t m in record { history = h.history; is = h.is; long = omega arith });
  }
]

chosen_none : (k : laws.Setting Entry) (g : laws.Ghost Entry) (epoch : ℕ) (list : List Entry) → laws.IsChosen k g epoch list → laws.IsChosen k g epoch []
chosen_none k g epoch list c = record { marks = c.marks; quorum = c.quorum; each = λ t m. (let h = c.each t m in record { history = h.history; is = h.is; begins = record { rest = h.history; is = refl } }) }

abbrev pub delivers : State → ℕ → State
delivers state count = record state { top = count; delivered = max state.delivered count }

pub record Settles (C : Type 0) (k : laws.Setting Entry) (g : laws.Ghost Entry) (state : State) (settled : State × Option ℕ) : Type 0 where
  pub keeps : laws.Keeps k g g state.peer.me (core_of settled.0)
  pub same : settled.0.peer.role ≡ state.peer.role
  pub me : settled.0.peer.me ≡ state.peer.me
  pub stable : settled.0.peer.stable ≡ state.peer.stable
  pub within : settled.0.delivered ≤ length settled.0.peer.stable.history
  pub more : IsPrefix (told_of state) (told_of settled.0)
  pub role : Broadcasts k g settled.0
  pub news : (whom : Option ℕ) (above : ℕ) → AllByRecursion (MessageFact {C = C} k g) (news_of settled.0 whom above settled.1)
  pub catches : (from above : ℕ) → AllByRecursion (MessageFact {C = C} k g) (catches_up k.passes settled.0 from above settled.1)

news_all : (C : Type 0) (k : laws.Setting Entry) (g : laws.Ghost Entry) (state : State) (commit : Option ℕ) → laws.IsKept k g state.peer.me (core_of state) → Leads g state → CommitFact k g state.peer.stable.promised commit → (whom : Option ℕ) (above : ℕ) → AllByRecursion (MessageFact {C = C} k g) (news_of state whom above commit)
news_all C k g state commit kept leads said whom above =
    news_fact C k g state.peer.me 1 state.peer.stable.promised (above + 1) whom (drop above state.peer.stable.history) commit (marks_of state.has)
    (proposals_fact C k g state.peer.me state.peer.stable.promised above state.peer.stable.history (told_by k g state kept leads)) said

catch_all : (C : Type 0) (k : laws.Setting Entry) (g : laws.Ghost Entry) (state : State) → laws.IsKept k g state.peer.me (core_of state) → Leads g state → IsReached k g state.peer.stable.promised (counted k.passes state) → (from above : ℕ) → AllByRecursion (MessageFact {C = C} k g) (catches_up k.passes state from above None)
catch_all C k g state kept leads said from above =
    all_append (MessageFact {C = C} k g) (proposals state.peer.me from state.peer.stable.promised (above + 1) (drop above state.peer.stable.history)) (commits state.peer.me from state.peer.stable.promised (Some (counted k.passes state)))
    (proposals_fact C k g state.peer.me state.peer.stable.promised above state.peer.stable.history (told_by k g state kept leads) from)
    (said, tt)

abbrev leads_more : (g : laws.Ghost Entry) (state : State) (count : ℕ) → Leads g state → Leads g (delivers state count)
leads_more g state count b = record { same = b.same; began = b.began; is = b.is; leader = b.leader; has = b.has }

broadcasts_more : (k : laws.Setting Entry) (g : laws.Ghost Entry) (state : State) (count : ℕ) → Broadcasts k g state → Broadcasts k g (delivers state count)
broadcasts_more k g state count b = record { leads = leads_more g state count b.leads; own = b.own; history = b.history; made = b.made; chosen = b.chosen }

pub settles_owes : (C : Type 0) (k : laws.Setting Entry) (g : laws.Ghost Entry) (state : State) → laws.IsKept k g state.peer.me (core_of state) → state.delivered ≤ length state.peer.stable.history → Broadcasts k g state → Settles C k g state (settles k.passes state)
settles_owes C k g state kept within b =
    let least : counted k.passes state ≤ length state.peer.stable.history = (greatest_reached k.passes state.has (length state.peer.stable.history)).within in
    let now : ℕ = state.peer.stable.current in
    let count : ℕ = counted k.passes state in
    let r : IsReached k g now count = counted_reached k g state b.leads (chosen_none k g now b.leads.began.start b.chosen) in
    let said : IsReached k g state.peer.stable.promised count = subst (λ e. IsReached k g e count) (sym b.leads.same) r in
    let above : 0 < now = begun_above k g (core_of state) state.peer.me kept now b.leads.began b.leads.is in
    let keeps : laws.Keeps k g g state.peer.me (core_of (delivers state count)) =
    delivers_more k g state state.peer.me count kept above (λ more. chosen_of k g state.peer.me now count count state.peer.stable.history kept.facts r kept.sound.held_now above (omega arith)) in
    by_test (Settles C k g state) (nat_lt state.top count) _ _
    (λ rose. record {
      keeps = keeps;
      same = refl;
      me = refl;
      stable = refl;
      within = omega arith;
      more = more_told state.delivered count state.peer.stable.history;
      role = broadcasts_more k g state count b;
      news = news_all C k g (delivers state count) (Some count) keeps.kept (leads_more g state count b.leads) said;
      catches = λ from above. news_all C k g (delivers state count) (Some count) keeps.kept (leads_more g state count b.leads) said (Some from) above;
    })
    (λ stayed. record {
      keeps = stays k g state.peer.me (core_of state) kept;
      same = refl;
      me = refl;
      stable = refl;
      within = within;
      more = prefix_refl (told_of state);
      role = b;
      news = news_all C k g state None kept b.leads tt;
      catches = catch_all C k g state kept b.leads said;
    })

-- ---- what a server has is raised

pub set_cases : {A : Type 0} (xs : List A) (j i : ℕ) (y x : A) → slice_get (set xs j y) i ≡ Some x → ((i ≡ j) × (x ≡ y)) ⊎ (slice_get xs i ≡ Some x)
set_cases [] j i y x e = inr e
set_cases (z ∷ xs) zero zero y x e = inl (refl, same_some x y (sym e))
set_cases (z ∷ xs) zero (suc i) y x e = inr e
set_cases (z ∷ xs) (suc j) zero y x e = inr e
set_cases (z ∷ xs) (suc j) (suc i) y x e = elim (set_cases xs j i y x e) [ inl p ↦ inl (ap suc p.0, p.1) | inr p ↦ inr p ]

pub put_has : (g : laws.Ghost Entry) (epoch from count : ℕ) (has : List (Option ℕ)) → HasFact g epoch has → 0 < from → HasLength g from epoch count → HasFact g epoch (put has from count)
put_has g epoch from count has fact pos0 new i l e = elim (set_cases has (from - 1) i (Some count) (Some l) e) [
  | inl p ↦
      (let at : i + 1 ≡ from = (let q : i ≡ from - 1 = p.0 in omega arith) in
      let value : l ≡ count = same_some l count p.1 in
      subst (λ t. HasLength g t epoch l) (sym at) (subst (HasLength g from epoch) (sym value) new))
  | inr old ↦ fact i l old
]

greater_has : (g : laws.Ghost Entry) (epoch from count : ℕ) (has : List (Option ℕ)) → HasFact g epoch has → 0 < from → HasLength g from epoch count → (slot : Option (Option ℕ)) → slice_get has (from - 1) ≡ slot → HasLength g from epoch (greater_of (said_of slot) count)
greater_has g epoch from count has fact pos0 new None e = new
greater_has g epoch from count has fact pos0 new (Some None) e = new
greater_has g epoch from count has fact pos0 new (Some (Some before)) e =
    let at : from - 1 + 1 ≡ from = omega arith in
    let old : HasLength g from epoch before = subst (λ t. HasLength g t epoch before) at (fact (from - 1) before e) in
    let same : old.history ≡ new.history = same_some old.history new.history (sym old.is ∙ new.is) in
    let long : count ≤ length new.history = new.long in
    let was : before ≤ length old.history = old.long in
    record { history = new.history; is = new.is; long = omega (arith, ap (λ (h : List Entry). length h) same) }

abbrev raised_leads : (g : laws.Ghost Entry) (state : State) (from epoch count : ℕ) → Leads g state → 0 < from → HasLength g from epoch count → epoch ≡ state.peer.stable.promised → Leads g (raised state from count)
raised_leads g state from epoch count b pos0 new is =
    let there : HasLength g from state.peer.stable.current count = subst (λ e. HasLength g from e count) (is ∙ b.same) new in
    record {
      same = b.same;
      began = b.began;
      is = b.is;
      leader = b.leader;
      has = put_has g state.peer.stable.current from (greater_of (said_by state.has from) count) state.has b.has pos0
          (greater_has g state.peer.stable.current from count state.has b.has pos0 there (slice_get state.has (from - 1)) refl);
    }

-- ---- Ack

pub ack_owes : {C : Type 0} (k : laws.Setting Entry) (g : laws.Ghost Entry) (state : State) (from epoch count : ℕ) (role : Role) → laws.IsKept k g state.peer.me (core_of state) → state.delivered ≤ length state.peer.stable.history → state.peer.role ≡ role → RoleFact k g state role → 0 < from → HasLength g from epoch count → OwesOf {C = C} k g state (ack_as k.passes state from epoch count role)
ack_owes {C} k g state from epoch count Broadcast kept within at b pos0 said =
    by_test (OwesOf {C = C} k g state) (epoch == state.peer.stable.promised) _ _
    (λ is.
    (let leads = raised_leads g state from epoch count b.leads pos0 said (eq_is epoch state.peer.stable.promised is) in
    let s = settles_owes C k g (raised state from count) kept within (record { leads = leads; own = b.own; history = b.history; made = b.made; chosen = b.chosen }) in
    record { ghost = g; keeps = s.keeps; role = subst (RoleFact k g _) (sym (s.same ∙ at)) s.role; sent = s.news None (length state.peer.stable.history); me = s.me; within = s.within; more = s.more; begins = inl (λ e b is. is) }))
    (λ is. owes_nothing k g state (Ok []) kept within (subst (RoleFact k g state) (sym at) b) tt)
ack_owes {C} k g state from epoch count Sync kept within at b pos0 said = owes_nothing k g state (Ok []) kept within (subst (RoleFact k g state) (sym at) b) tt
ack_owes {C} k g state from epoch count Looking kept within at b pos0 said = owes_nothing k g state (Ok []) kept within (subst (RoleFact k g state) (sym at) tt) tt
ack_owes {C} k g state from epoch count (Discover heard) kept within at b pos0 said = owes_nothing k g state (Ok []) kept within (subst (RoleFact k g state) (sym at) tt) tt
ack_owes {C} k g state from epoch count (Choose votes joiners) kept within at b pos0 said = owes_nothing k g state (Ok []) kept within (subst (RoleFact k g state) (sym at) b) tt
ack_owes {C} k g state from epoch count (Following leader synced) kept within at b pos0 said = owes_nothing k g state (Ok []) kept within (subst (RoleFact k g state) (sym at) tt) tt

-- ---- AckLeader

marked_slot : {T : Type 0} (table : List (Option T)) (t : ℕ) → slice_get (marks_of table) t ≡ Some true → (v : T) × (slice_get table t ≡ Some (Some v))
marked_slot [] t e = absurd cc
marked_slot (None ∷ table) zero e = absurd cc
marked_slot ((Some v) ∷ table) zero e = (v, refl)
marked_slot (slot ∷ table) (suc t) e = marked_slot table t e

-- a quorum of those that have joined has the epoch's start
start_chosen : (k : laws.Setting Entry) (g : laws.Ghost Entry) (state : State) → laws.IsKept k g state.peer.me (core_of state) → (b : Leads g state) → k.passes (marks_of state.has) ≡ true → laws.IsChosen k g state.peer.stable.current b.began.start
start_chosen k g state kept b quorum =
    let now : ℕ = state.peer.stable.current in
    let above : 0 < now = begun_above k g (core_of state) state.peer.me kept now b.began b.is in
    record {
      marks = marks_of state.has;
      quorum = quorum;
      each = λ t m. (let v = marked_slot state.has (t - 1) m.1 in
          let at : t - 1 + 1 ≡ t = (let p : 0 < t = m.0 in omega arith) in
          let h : HasLength g t now v.0 = subst (λ u. HasLength g u now v.0) at (b.has (t - 1) v.0 v.1) in
          let o = kept.facts.of_leader t now h.history h.is above in
          record { history = h.history; is = h.is; begins = subst (λ (w : laws.Began Entry). IsPrefix w.start h.history) (same_some o.began b.began (sym o.is ∙ b.is)) o.starts });
    }

enters_owes : {C : Type 0} (k : laws.Setting Entry) (g : laws.Ghost Entry) (state : State) → laws.IsKept k g state.peer.me (core_of state) → state.delivered ≤ length state.peer.stable.history → Syncs g state → k.passes (marks_of state.has) ≡ true → OwesOf {C = C} k g state (enters k.passes state)
enters_owes {C} k g state kept within b quorum =
    let least : counted k.passes state ≤ length state.peer.stable.history = (greatest_reached k.passes state.has (length state.peer.stable.history)).within in
    let now : ℕ = state.peer.stable.current in
    let count : ℕ = counted k.passes state in
    let chosen : laws.IsChosen k g now b.leads.began.start = start_chosen k g state kept b.leads quorum in
    let r : IsReached k g now count = counted_reached k g state b.leads (chosen_none k g now b.leads.began.start chosen) in
    let said : IsReached k g state.peer.stable.promised count = subst (λ e. IsReached k g e count) (sym b.leads.same) r in
    let above : 0 < now = begun_above k g (core_of state) state.peer.me kept now b.leads.began b.leads.is in
    let keeps : laws.Keeps k g g state.peer.me (core_of (entered state count)) =
    delivers_more k g state state.peer.me count kept above (λ more. chosen_of k g state.peer.me now count count state.peer.stable.history kept.facts r kept.sound.held_now above (omega arith)) in
    let leads : Leads g (entered state count) = record { same = b.leads.same; began = b.leads.began; is = b.leads.is; leader = b.leads.leader; has = b.leads.has } in
    record {
      ghost = g;
      keeps = keeps;
      role = record { leads = leads; own = []; history = b.history ∙ sym (append-nil b.leads.began.start); made = refl; chosen = chosen };
      sent = news_all C k g (entered state count) (Some count) keeps.kept leads said None (length state.peer.stable.history);
      me = refl;
      within = omega arith;
      more = more_told state.delivered count state.peer.stable.history;
      begins = inl (λ e b is. is);
    }

pub ack_leader_owes : {C : Type 0} (k : laws.Setting Entry) (g : laws.Ghost Entry) (state : State) (from epoch count : ℕ) (role : Role) → laws.IsKept k g state.peer.me (core_of state) → state.delivered ≤ length state.peer.stable.history → state.peer.role ≡ role → RoleFact k g state role → 0 < from → HasLength g from epoch count → epoch ≡ state.peer.stable.promised → OwesOf {C = C} k g state (ack_leader_as k.passes state from count role)
ack_leader_owes {C} k g state from epoch count Sync kept within at b pos0 said is =
    let leads = raised_leads g state from epoch count b.leads pos0 said is in
    let syncs : Syncs g (raised state from count) = record { leads = leads; history = b.history } in
    by_test (OwesOf {C = C} k g state) (k.passes (marks_of (raised state from count).has)) _ _
    (λ quorum. enters_owes k g (raised state from count) kept within syncs quorum)
    (λ few. owes_nothing k g (raised state from count) (Ok []) kept within (subst (RoleFact k g (raised state from count)) (sym at) syncs) tt)
ack_leader_owes {C} k g state from epoch count Broadcast kept within at b pos0 said is =
    let leads = raised_leads g state from epoch count b.leads pos0 said is in
    let s = settles_owes C k g (raised state from count) kept within (record { leads = leads; own = b.own; history = b.history; made = b.made; chosen = b.chosen }) in
    record { ghost = g; keeps = s.keeps; role = subst (RoleFact k g _) (sym (s.same ∙ at)) s.role; sent = s.catches from count; me = s.me; within = s.within; more = s.more; begins = inl (λ e b is. is) }
ack_leader_owes {C} k g state from epoch count Looking kept within at b pos0 said is = owes_nothing k g state (Ok []) kept within (subst (RoleFact k g state) (sym at) tt) tt
ack_leader_owes {C} k g state from epoch count (Discover heard) kept within at b pos0 said is = owes_nothing k g state (Ok []) kept within (subst (RoleFact k g state) (sym at) tt) tt
ack_leader_owes {C} k g state from epoch count (Choose votes joiners) kept within at b pos0 said is = owes_nothing k g state (Ok []) kept within (subst (RoleFact k g state) (sym at) b) tt
ack_leader_owes {C} k g state from epoch count (Following leader synced) kept within at b pos0 said is = owes_nothing k g state (Ok []) kept within (subst (RoleFact k g state) (sym at) tt) tt

-- ---- Submit

-- what a zxid of an epoch is
pub record IsNumber (epoch made : ℕ) (zxid : ℤ) : Type 0 where
  pub is : zxid ≡ pos (epoch * 2 ^ 32 + (1 + made))
  pub small : 1 + made < 2 ^ 32

pub number_of : (epoch made : ℕ) (zxid : ℤ) → next_zxid epoch made ≡ Some zxid → IsNumber epoch made zxid
number_of epoch made zxid e = by_cases (nat_lt epoch 2147483648 && nat_lt made 4294967295) refl e
  where
    by_cases : (b : Bool) → (nat_lt epoch 2147483648 && nat_lt made 4294967295) ≡ b → cond b (Some (pos (epoch * 4294967296 + made + 1))) None ≡ Some zxid → IsNumber epoch made zxid
    by_cases true test e =
        let low : made < 4294967295 = less_is made 4294967295 (both_true (nat_lt epoch 2147483648) (nat_lt made 4294967295) test).1 in
        let is : pos (epoch * 4294967296 + made + 1) ≡ zxid = same_some (pos (epoch * 4294967296 + made + 1)) zxid e in
        record { is = omega (arith, ints); small = omega arith }
    by_cases false test e = absurd cc

pub length_grows : (g y : laws.Ghost Entry) → laws.Grows g y → (t epoch count : ℕ) → HasLength g t epoch count → HasLength y t epoch count
length_grows g y grows t epoch count h =
    let q = grows.held t epoch h.history h.is in
    let long : count ≤ length h.history = h.long in
    let more : length h.history ≤ length q.history = prefix_length h.history q.history q.begins in
    record { history = q.history; is = q.is; long = omega arith }

pub appends_owes : {C : Type 0} (k : laws.Setting Entry) (g : laws.Ghost Entry) (state : State) (entry : Entry) (zxid : ℤ) → laws.IsKept k g state.peer.me (core_of state) → state.delivered ≤ length state.peer.stable.history → 0 < state.peer.me → state.peer.role ≡ Broadcast → Broadcasts k g state → k.key entry ≡ zxid → next_zxid state.peer.stable.promised state.made ≡ Some zxid → OwesOf {C = C} k g state (tells_news None (length state.peer.stable.history) (settles k.passes (took state entry)))
appends_owes {C} k g state entry zxid kept within pos0 at b key_is next =
    let me : ℕ = state.peer.me in
    let now : ℕ = state.peer.stable.current in
    let h : List Entry = state.peer.stable.history in
    let new : List Entry = h ++ entry ∷ [] in
    let y : laws.Ghost Entry = laws.new_ghost (Extend me entry) (core_of state) g in
    let n : IsNumber now state.made zxid = subst (λ e. IsNumber e state.made zxid) b.leads.same (number_of state.peer.stable.promised state.made zxid next) in
    let may : laws.MayExtend k g me (core_of state) entry = record {
      promised = b.leads.same;
      began = b.leads.began;
      is = b.leads.is;
      leader = b.leads.leader;
      own = b.own;
      history = b.history;
      number = subst (λ m. k.key entry ≡ pos (now * 2 ^ 32 + (1 + m))) b.made (key_is ∙ n.is);
      small = subst (λ m. 1 + m < 2 ^ 32) b.made n.small;
      chosen = b.chosen;
    } in
    let first = keeps_extend k g (core_of state) me entry kept may in
    let keeps : laws.Keeps k g y me (core_of (took state entry)) =
    subst (λ (d : List Entry). laws.Keeps k g y me (record { promised = state.peer.stable.promised; current = now; history = new; delivered = d })) (sym (take-append-le state.delivered h (entry ∷ []) within)) first in
    let own_long : HasLength y me now (length h + 1) = record { history = new; is = two_same g.held me now (Some new); long = omega (arith, length-append h (entry ∷ [])) } in
    let leads : Leads y (took state entry) = record {
      same = b.leads.same;
      began = b.leads.began;
      is = b.leads.is;
      leader = b.leads.leader;
      has = put_has y now me (length h + 1) state.has (λ i count e. length_grows g y keeps.grows (i + 1) now count (b.leads.has i count e)) pos0 own_long;
    } in
    let broadcasts : Broadcasts k y (took state entry) = record {
      leads = leads;
      own = b.own ++ entry ∷ [];
      history = ap (λ (l : List Entry). l ++ entry ∷ []) b.history ∙ append_assoc b.leads.began.start b.own (entry ∷ []);
      made = omega (arith, length-append b.own (entry ∷ []), b.made);
      chosen = chosen_grows k g y keeps.grows now b.leads.began.start b.chosen;
    } in
    let fits : state.delivered ≤ length (h ++ entry ∷ []) = omega (arith, length-append h (entry ∷ [])) in
    let s = settles_owes C k y (took state entry) keeps.kept fits broadcasts in
    record {
      ghost = y;
      keeps = keeps_both k g y y me (core_of (took state entry)) (core_of (settles k.passes (took state entry)).0) (ap (λ (x : Stable). x.current) (sym s.stable)) (ap (λ (x : Stable). x.history) (sym s.stable)) keeps s.keeps;
      role = subst (RoleFact k y _) (sym (s.same ∙ at)) s.role;
      sent = s.news None (length h);
      me = s.me;
      within = s.within;
      more = prefix_trans (told_of state) (told_of (took state entry)) _
          (subst (IsPrefix (told_of state)) (sym (take-append-le state.delivered h (entry ∷ []) within)) (prefix_refl (told_of state))) s.more;
      begins = inl (λ e b is. is);
    }
