-- The rules of calls: one entry at most is made of a tag's call.
use Rattle.std.proofs.Common.{◌≡◌, ◌≢◌, ℕ, ℤ, ◌==◌, nat_lt, ◌&&◌, not, ◌⊎◌, inl, inr, Bool, true, false, List, [], ◌∷◌, ◌++◌, length, Option, Some, None, Result, Ok, Err, refl, sym, ap, subst, ◌∙◌, arith}
use Rattle.zab_epoch.specs.declared.rule_fault.RuleFault.{RuleFault}
use Rattle.zab_epoch.specs.declared.history.Entry.{Entry}
use Rattle.zab_epoch.specs.declared.message.Message.{Message}
use Rattle.zab_epoch.specs.declared.role.Role.{Role}
use Rattle.zab_epoch.specs.declared.role.Role.TheVariants.{Looking, Discover, Choose, Sync, Broadcast, Following}
use Rattle.zab_broadcast.specs.declared.state.State.{State}
use Rattle.zab_broadcast.specs.Calls.{Setting, is_taken}
use Rattle.zab_broadcast.specs.Rules as rules
use Rattle.zab_broadcast.specs.Rules.{Settled, counted, settles, next_zxid, took}
use Rattle.zab_rule_laws.proofs.TagFacts.{Owners, at_key, IsOwned, Holds, ServerFact, ActsFact, Grows, grows_refl, owned_grows, role_grows, idles, by_test, eq_is, cases_eq, at_same, at_other, all_append, same_some, taken_more, taken_last}
use Rattle.zab_rule_laws.proofs.TagRules.{settles_fact, tells_news_fact}

-- what is made of a call carries the call's tag
abbrev pub CarriesTag : {C : Type 0} → Setting C → Type 0
CarriesTag {C} setting = (history : List Entry) (call : C) (zxid : ℤ) → (setting.made history call zxid).tag ≡ setting.tag call

-- all tags that are known were accepted
pub record Spent {C : Type 0} (g : Owners C) (tags : List ℕ) : Type 0 where
  pub owner : (tag : ℕ) (entry : Entry) → g.owner tag ≡ Some entry → is_taken tag tags ≡ true
  pub asked : (tag : ℕ) (whom : ℕ × ℕ × C) → g.asked tag ≡ Some whom → is_taken tag tags ≡ true

pub spent_more : {C : Type 0} (g : Owners C) (tags more : List ℕ) → Spent g tags → Spent g (tags ++ more)
spent_more g tags more spent = record {
  owner = λ tag entry is. taken_more tag tags more (spent.owner tag entry is);
  asked = λ tag whom is. taken_more tag tags more (spent.asked tag whom is);
}

-- the tag of the call that an event is about, if there is one, is accepted
abbrev pub IsSpentIn : {C : Type 0} → Setting C → Option C → List ℕ → Type 0
IsSpentIn setting None tags = Unit {0}
IsSpentIn setting (Some call) tags = is_taken (setting.tag call) tags ≡ true

-- and of the call's, unless the event is rejected
abbrev pub SpentBy : {C : Type 0} → Setting C → Owners C → Owners C → Option C → Result (List (Message C)) RuleFault → Type 0
SpentBy setting g after called (Ok messages) = (tags : List ℕ) → Spent g tags → IsSpentIn setting called tags → Spent after tags
SpentBy setting g after called (Err fault) = (tags : List ℕ) → Spent g tags → Spent after tags

pub same_spent : {C : Type 0} (setting : Setting C) (g : Owners C) (called : Option C) (said : Result (List (Message C)) RuleFault) → SpentBy setting g g called said
same_spent setting g called (Ok messages) = λ tags spent is. spent
same_spent setting g called (Err fault) = λ tags spent. spent

-- ---- what an event adds to what is known

-- an entry was made of the call, as the next of the server's history
pub record IsMade {C : Type 0} (setting : Setting C) (called : Option C) (old new : List Entry) (x : Entry) : Type 0 where
  pub call : C
  pub zxid : ℤ
  pub of_call : called ≡ Some call
  pub made : x ≡ setting.made old call zxid
  pub taken : new ≡ old ++ x ∷ []

pub record Adds {C : Type 0} (setting : Setting C) (g after : Owners C) (called : Option C) (old new : List Entry) : Type 0 where
  pub owner : (tag : ℕ) (x : Entry) → after.owner tag ≡ Some x → (g.owner tag ≡ Some x) ⊎ IsMade setting called old new x
  pub asked : (tag : ℕ) (whom : ℕ × ℕ × C) → after.asked tag ≡ Some whom → (g.asked tag ≡ Some whom) ⊎ (called ≡ Some whom.2)

pub adds_nothing : {C : Type 0} (setting : Setting C) (g : Owners C) (called : Option C) (old new : List Entry) → Adds setting g g called old new
adds_nothing setting g called old new = record { owner = λ tag x is. inl is; asked = λ tag whom is. inl is }

-- a rejected event adds nothing
abbrev pub AddsBy : {C : Type 0} → Setting C → Owners C → Owners C → Option C → List Entry → List Entry → Result (List (Message C)) RuleFault → Type 0
AddsBy setting g after called old new (Ok messages) = Adds setting g after called old new
AddsBy setting g after called old new (Err fault) = Adds setting g after None old new

pub same_adds : {C : Type 0} (setting : Setting C) (g : Owners C) (called : Option C) (old new : List Entry) (said : Result (List (Message C)) RuleFault) → AddsBy setting g g called old new said
same_adds setting g called old new (Ok messages) = adds_nothing setting g called old new
same_adds setting g called old new (Err fault) = adds_nothing setting g None old new

-- ---- a server that had this history acted, and the other servers are as they were
pub record Owes {C : Type 0} (setting : Setting C) (g : Owners C) (n : ℕ) (called : Option C) (old : List Entry) (acts : rules.Acts C) : Type 0 where
  pub after : Owners C
  pub grows : Grows g after
  pub fact : ActsFact setting.tag after n acts
  pub others : (k : ℕ) (history : List Entry) (role : Role) (promised : ℕ) (taken : List ℕ) → k ≢ n → Holds g k history role promised taken → Holds after k history role promised taken
  pub spent : SpentBy setting g after called acts.1
  pub adds : AddsBy setting g after called old acts.0.peer.stable.history acts.1

-- a rule of which nothing new is known
abbrev pub owes_nothing : {C : Type 0} (setting : Setting C) (g : Owners C) (n : ℕ) (called : Option C) (old : List Entry) (acts : rules.Acts C) → ActsFact setting.tag g n acts → Owes setting g n called old acts
owes_nothing setting g n called old acts fact = record {
  after = g;
  grows = grows_refl g;
  fact = fact;
  others = λ k history role promised taken other holds. holds;
  spent = same_spent setting g called acts.1;
  adds = same_adds setting g called old acts.0.peer.stable.history acts.1;
}

-- ---- an entry is made of a call

abbrev pub owning : {C : Type 0} → Owners C → ℕ → Entry → Owners C
owning g tag entry = record { owner = at_key g.owner tag (Some entry); asked = g.asked }

owning_grows : {C : Type 0} (g : Owners C) (tag : ℕ) (entry : Entry) → g.owner tag ≡ None → Grows g (owning g tag entry)
owning_grows g tag entry fresh = record {
  owner = λ t x is. elim (cases_eq t tag) [
    | inl same ↦ absurd (let e : None ≡ Some x = sym fresh ∙ (ap g.owner (sym same) ∙ is) in cc)
    | inr other ↦ at_other g.owner tag (Some entry) t other ∙ is
  ];
  asked = λ t whom is. is;
}

owning_spent : {C : Type 0} (g : Owners C) (tag : ℕ) (entry : Entry) (tags : List ℕ) → Spent g tags → is_taken tag tags ≡ true → Spent (owning g tag entry) tags
owning_spent g tag entry tags spent is = record {
  owner = λ t x made. elim (cases_eq t tag) [
    | inl same ↦ subst (λ u. is_taken u tags ≡ true) (sym same) is
    | inr other ↦ spent.owner t x (sym (at_other g.owner tag (Some entry) t other) ∙ made)
  ];
  asked = spent.asked;
}

-- what is known of another server
owning_others : {C : Type 0} (g : Owners C) (n k : ℕ) (tag : ℕ) (entry : Entry) (history : List Entry) (role : Role) (promised : ℕ) (taken : List ℕ) → g.owner tag ≡ None → ((m e : ℕ) (call : C) → g.asked tag ≡ Some (m, e, call) → m ≡ n) → k ≢ n → Holds g k history role promised taken → Holds (owning g tag entry) k history role promised taken
owning_others g n k tag entry history role promised taken fresh whose other f =
    let grows = owning_grows g tag entry fresh in
    record {
      owned = owned_grows g (owning g tag entry) history grows f.owned;
      votes = role_grows g (owning g tag entry) role grows f.votes;
      past = λ t epoch call x asked made. elim (cases_eq t tag) [
        | inl same ↦ absurd (other (whose k epoch call (ap g.asked (sym same) ∙ asked)))
        | inr differs ↦ f.past t epoch call x asked (sym (at_other g.owner tag (Some entry) t differs) ∙ made)
      ];
    }

-- the leader takes an entry
takes_fact : {C : Type 0} (g : Owners C) (n : ℕ) (state : State) (tag : ℕ) (entry : Entry) → entry.tag ≡ tag → g.owner tag ≡ None → ((m e : ℕ) (call : C) → g.asked tag ≡ Some (m, e, call) → (m ≡ n) × (e ≡ state.peer.stable.promised)) → Holds g n state.peer.stable.history Broadcast state.peer.stable.promised state.taken → Holds (owning g tag entry) n (state.peer.stable.history ++ entry ∷ []) Broadcast state.peer.stable.promised (state.taken ++ entry.tag ∷ [])
takes_fact g n state tag entry is fresh whose f =
    let grows = owning_grows g tag entry fresh in
    record {
      owned = all_append (IsOwned (owning g tag entry)) state.peer.stable.history (entry ∷ [])
          (owned_grows g (owning g tag entry) state.peer.stable.history grows f.owned)
          (subst (λ t. at_key g.owner tag (Some entry) t ≡ Some entry) (sym is) (at_same g.owner tag (Some entry)), tt);
      votes = tt;
      past = λ t epoch call x asked made. elim (cases_eq t tag) [
        | inl same ↦ inr (
          (whose n epoch call (ap g.asked (sym same) ∙ asked)).1,
          subst (λ u. is_taken u (state.taken ++ entry.tag ∷ []) ≡ true) (is ∙ sym same) (taken_last entry.tag state.taken),
        )
        | inr differs ↦ elim (f.past t epoch call x asked (sym (at_other g.owner tag (Some entry) t differs) ∙ made)) [
          | inl less ↦ inl less
          | inr equal ↦ inr (equal.0, taken_more t state.taken (entry.tag ∷ []) equal.1)
        ]
      ];
    }

-- and nothing else is known
owning_adds : {C : Type 0} (setting : Setting C) (g : Owners C) (call : C) (zxid : ℤ) (old : List Entry) (tag : ℕ) → Adds setting g (owning g tag (setting.made old call zxid)) (Some call) old (old ++ setting.made old call zxid ∷ [])
owning_adds setting g call zxid old tag =
    let entry = setting.made old call zxid in
    record {
      owner = λ t x is. elim (cases_eq t tag) [
        | inl same ↦
            (let one : setting.made old call zxid ≡ x =
            same_some (setting.made old call zxid) x
            (sym (at_same g.owner tag (Some entry)) ∙ (ap (at_key g.owner tag (Some entry)) (sym same) ∙ is)) in
            inr (record {
              call = call;
              zxid = zxid;
              of_call = refl;
              made = sym one;
              taken = ap (λ e. old ++ e ∷ []) one;
            }))
        | inr other ↦ inl (sym (at_other g.owner tag (Some entry) t other) ∙ is)
      ];
      asked = λ t whom is. inl is;
    }

-- a server keeps its role but for what its rule says; the role of a leader in broadcast is known by
-- a path
abbrev LeaderFact : {C : Type 0} → Owners C → ℕ → State → Type 0
LeaderFact g n state = Holds g n state.peer.stable.history Broadcast state.peer.stable.promised state.taken

settled_history : (passes : List Bool → Bool) (state : State) → (settles passes state).0.peer.stable.history ≡ state.peer.stable.history
settled_history passes state =
    by_test (λ (s : Settled). s.0.peer.stable.history ≡ state.peer.stable.history) (nat_lt state.top (counted passes state)) _ _ (λ e. refl) (λ e. refl)

pub appends_owes : {C : Type 0} (setting : Setting C) → CarriesTag setting → (g : Owners C) (n : ℕ) (state : State) (call : C) (zxid : Option ℤ) → state.peer.role ≡ Broadcast → LeaderFact g n state → g.owner (setting.tag call) ≡ None → ((m e : ℕ) (other : C) → g.asked (setting.tag call) ≡ Some (m, e, other) → (m ≡ n) × (e ≡ state.peer.stable.promised)) → Owes setting g n (Some call) state.peer.stable.history (rules.appends_at setting state call zxid)
appends_owes setting law g n state call None at f fresh whose =
    owes_nothing setting g n (Some call) state.peer.stable.history (rules.appends_at setting state call None) (record {
      server = idles g n state.peer.stable.history state.peer.stable.history Broadcast Looking state.peer.stable.promised state.taken state.taken f f.owned tt (λ b. tt);
      sent = tt;
    })
appends_owes setting law g n state call (Some zxid) at f fresh whose =
    let entry = setting.made state.peer.stable.history call zxid in
    let tag = setting.tag call in
    let is : entry.tag ≡ tag = law state.peer.stable.history call zxid in
    let g' = owning g tag entry in
    record {
      after = g';
      grows = owning_grows g tag entry fresh;
      fact = settles_fact setting.tag setting.passes g' n (took state entry) (rules.tells_news None (length state.peer.stable.history))
          (λ next commit s. tells_news_fact setting.tag g' n None (length state.peer.stable.history) next commit s)
          (subst (λ (role : Role). Holds g' n (state.peer.stable.history ++ entry ∷ []) role state.peer.stable.promised (state.taken ++ entry.tag ∷ [])) (sym at)
          (takes_fact g n state tag entry is fresh whose f));
      others = λ k history role promised taken other holds.
          owning_others g n k tag entry history role promised taken fresh (λ m e other asked. (whose m e other asked).0) other holds;
      spent = λ tags spent taken. owning_spent g tag entry tags spent taken;
      adds = subst (Adds setting g g' (Some call) state.peer.stable.history) (sym (settled_history setting.passes (took state entry)))
          (owning_adds setting g call zxid state.peer.stable.history tag);
    }

-- ---- a call is sent to a leader

abbrev pub asking : {C : Type 0} → Owners C → ℕ → ℕ × ℕ × C → Owners C
asking g tag whom = record { owner = g.owner; asked = at_key g.asked tag (Some whom) }

asking_grows : {C : Type 0} (g : Owners C) (tag : ℕ) (whom : ℕ × ℕ × C) → g.asked tag ≡ None → Grows g (asking g tag whom)
asking_grows g tag whom fresh = record {
  owner = λ t x is. is;
  asked = λ t w is. elim (cases_eq t tag) [
    | inl same ↦ absurd (let e : None ≡ Some w = sym fresh ∙ (ap g.asked (sym same) ∙ is) in cc)
    | inr other ↦ at_other g.asked tag (Some whom) t other ∙ is
  ];
}

asking_spent : {C : Type 0} (g : Owners C) (tag : ℕ) (whom : ℕ × ℕ × C) (tags : List ℕ) → Spent g tags → is_taken tag tags ≡ true → Spent (asking g tag whom) tags
asking_spent g tag whom tags spent is = record {
  owner = spent.owner;
  asked = λ t w asked. elim (cases_eq t tag) [
    | inl same ↦ subst (λ u. is_taken u tags ≡ true) (sym same) is
    | inr other ↦ spent.asked t w (sym (at_other g.asked tag (Some whom) t other) ∙ asked)
  ];
}

asking_holds : {C : Type 0} (g : Owners C) (k tag : ℕ) (whom : ℕ × ℕ × C) (history : List Entry) (role : Role) (promised : ℕ) (taken : List ℕ) → g.owner tag ≡ None → g.asked tag ≡ None → Holds g k history role promised taken → Holds (asking g tag whom) k history role promised taken
asking_holds g k tag whom history role promised taken unmade fresh f =
    let grows = asking_grows g tag whom fresh in
    record {
      owned = owned_grows g (asking g tag whom) history grows f.owned;
      votes = role_grows g (asking g tag whom) role grows f.votes;
      past = λ t epoch call x asked made. elim (cases_eq t tag) [
        | inl same ↦ absurd (let e : None ≡ Some x = sym unmade ∙ (ap g.owner (sym same) ∙ made) in cc)
        | inr differs ↦ f.past t epoch call x (sym (at_other g.asked tag (Some whom) t differs) ∙ asked) made
      ];
    }

-- a call was sent, and nothing was made
asking_adds : {C : Type 0} (setting : Setting C) (g : Owners C) (tag leader epoch : ℕ) (call : C) (old : List Entry) → Adds setting g (asking g tag (leader, epoch, call)) (Some call) old old
asking_adds {C} setting g tag leader epoch call old =
    let sent : ℕ × ℕ × C = (leader, epoch, call) in
    record {
      owner = λ t x is. inl is;
      asked = λ t whom is. elim (cases_eq t tag) [
        | inl same ↦ inr (ap (λ (p : ℕ × ℕ × C). Some p.2)
            (same_some sent whom (sym (at_same g.asked tag (Some sent)) ∙ (ap (at_key g.asked tag (Some sent)) (sym same) ∙ is))))
        | inr other ↦ inl (sym (at_other g.asked tag (Some sent) t other) ∙ is)
      ];
    }

-- ---- submit and request

pub submit_owes : {C : Type 0} (setting : Setting C) → CarriesTag setting → (g : Owners C) (n : ℕ) (state : State) (call : C) (role : Role) → state.peer.role ≡ role → ServerFact g n state → g.owner (setting.tag call) ≡ None → g.asked (setting.tag call) ≡ None → Owes setting g n (Some call) state.peer.stable.history (rules.submit_as setting state call role)
submit_owes setting law g n state call Broadcast at f unmade fresh =
    appends_owes setting law g n state call (next_zxid state.peer.stable.promised state.made) at
    (subst (λ (role : Role). Holds g n state.peer.stable.history role state.peer.stable.promised state.taken) at f)
    unmade
    (λ m e other asked. absurd (let no : None ≡ Some (m, e, other) = sym fresh ∙ asked in cc))
submit_owes {C} setting law g n state call (Following leader synced) at f unmade fresh =
    let tag = setting.tag call in
    let whom : ℕ × ℕ × C = (leader, state.peer.stable.current, call) in
    let g' = asking g tag whom in
    by_test (Owes setting g n (Some call) state.peer.stable.history) synced _ _
    (λ e. record {
      after = g';
      grows = asking_grows g tag whom fresh;
      fact = record {
        server = asking_holds g n tag whom state.peer.stable.history state.peer.role state.peer.stable.promised state.taken unmade fresh f;
        sent = (at_same g.asked tag (Some whom), tt);
      };
      others = λ k history role promised taken other holds. asking_holds g k tag whom history role promised taken unmade fresh holds;
      spent = λ tags spent taken. asking_spent g tag whom tags spent taken;
      adds = asking_adds setting g tag leader state.peer.stable.current call state.peer.stable.history;
    })
    (λ e. owes_nothing setting g n (Some call) state.peer.stable.history _ (record { server = f; sent = tt }))
submit_owes setting law g n state call Looking at f unmade fresh = owes_nothing setting g n (Some call) state.peer.stable.history _ (record { server = f; sent = tt })
submit_owes setting law g n state call (Discover heard) at f unmade fresh = owes_nothing setting g n (Some call) state.peer.stable.history _ (record { server = f; sent = tt })
submit_owes setting law g n state call (Choose votes joiners) at f unmade fresh = owes_nothing setting g n (Some call) state.peer.stable.history _ (record { server = f; sent = tt })
submit_owes setting law g n state call Sync at f unmade fresh = owes_nothing setting g n (Some call) state.peer.stable.history _ (record { server = f; sent = tt })

-- a request whose tag is not taken has no entry yet
unmade_by : {C : Type 0} (g : Owners C) (n : ℕ) (history : List Entry) (promised : ℕ) (taken : List ℕ) (tag epoch : ℕ) (call : C) (o : Option Entry) → Holds g n history Broadcast promised taken → g.asked tag ≡ Some (n, epoch, call) → epoch ≡ promised → is_taken tag taken ≡ false → g.owner tag ≡ o → g.owner tag ≡ None
unmade_by g n history promised taken tag epoch call None f asked same free is = is
unmade_by g n history promised taken tag epoch call (Some entry) f asked same free is = absurd (elim (f.past tag epoch call entry asked is) [
  | inl less ↦ omega arith
  | inr equal ↦ (let no : true ≡ false = sym equal.1 ∙ free in cc)
])

and_is : (a b : Bool) → (a && b) ≡ true → (a ≡ true) × (b ≡ true)
and_is true true e = (refl, refl)
and_is true false e = absurd cc
and_is false b e = absurd cc

not_is : (b : Bool) → not b ≡ true → b ≡ false
not_is true e = absurd cc
not_is false e = refl

pub request_owes : {C : Type 0} (setting : Setting C) → CarriesTag setting → (g : Owners C) (n : ℕ) (state : State) (epoch : ℕ) (call : C) (role : Role) → state.peer.role ≡ role → ServerFact g n state → g.asked (setting.tag call) ≡ Some (n, epoch, call) → Owes setting g n (Some call) state.peer.stable.history (rules.request_as setting state epoch call role)
request_owes {C} setting law g n state epoch call Broadcast at f asked =
    let leads : LeaderFact g n state = subst (λ (role : Role). Holds g n state.peer.stable.history role state.peer.stable.promised state.taken) at f in
    by_test (Owes setting g n (Some call) state.peer.stable.history) ((epoch == state.peer.stable.promised) && not (is_taken (setting.tag call) state.taken)) _ _
    (λ e. (let both = and_is (epoch == state.peer.stable.promised) (not (is_taken (setting.tag call) state.taken)) e in
    let same : epoch ≡ state.peer.stable.promised = eq_is epoch state.peer.stable.promised both.0 in
    appends_owes setting law g n state call (next_zxid state.peer.stable.promised state.made) at leads
    (unmade_by g n state.peer.stable.history state.peer.stable.promised state.taken (setting.tag call) epoch call (g.owner (setting.tag call)) leads asked same
    (not_is (is_taken (setting.tag call) state.taken) both.1) refl)
    (λ m e whose other. (let pair : (n, epoch, call) ≡ (m, e, whose) = same_some (n, epoch, call) (m, e, whose) (sym asked ∙ other) in
    (sym (ap (λ (p : ℕ × ℕ × C). p.0) pair), sym (ap (λ (p : ℕ × ℕ × C). p.1) pair) ∙ same)))))
    (λ e. owes_nothing setting g n (Some call) state.peer.stable.history _ (record { server = f; sent = tt }))
request_owes setting law g n state epoch call Looking at f asked = owes_nothing setting g n (Some call) state.peer.stable.history _ (record { server = f; sent = tt })
request_owes setting law g n state epoch call (Discover heard) at f asked = owes_nothing setting g n (Some call) state.peer.stable.history _ (record { server = f; sent = tt })
request_owes setting law g n state epoch call (Choose votes joiners) at f asked = owes_nothing setting g n (Some call) state.peer.stable.history _ (record { server = f; sent = tt })
request_owes setting law g n state epoch call Sync at f asked = owes_nothing setting g n (Some call) state.peer.stable.history _ (record { server = f; sent = tt })
request_owes setting law g n state epoch call (Following leader synced) at f asked = owes_nothing setting g n (Some call) state.peer.stable.history _ (record { server = f; sent = tt })
