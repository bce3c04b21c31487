-- A lone server leads once it has acknowledged itself, and accepts calls.
use Rattle.std.proofs.Common.{◌≡◌, ℕ, ℤ, zero, suc, ◌+◌, ◌<◌, ◌≤◌, ◌==◌, ◌||◌, ◌&&◌, nat_lt, nat_le, int_lt, max, min, Bool, true, false, cond, List, [], ◌∷◌, ◌++◌, length, drop, Option, Some, None, Ok, refl, sym, ap, subst, ◌∙◌, arith, length-append}
use Rattle.std.proofs.lemmas.Bool.Decides.{nat_tests}
use Rattle.std.proofs.lemmas.Int.{ints}
use Rattle.zab_epoch.specs.declared.history.Entry.{Entry}
use Rattle.zab_epoch.specs.declared.message.Body.TheVariants as say
use Rattle.zab_epoch.specs.declared.message.Message.{Message}
use Rattle.zab_epoch.specs.declared.peer.Peer.{Peer}
use Rattle.zab_epoch.specs.declared.role.Role.{Role}
use Rattle.zab_epoch.specs.declared.role.Role.TheVariants.{Looking, Discover, Choose, Sync, Broadcast}
use Rattle.zab_epoch.specs.declared.stable.Stable.{Stable}
use Rattle.zab_epoch.specs.declared.votes.Vote.{Vote}
use Rattle.zab_epoch.specs.Entries.{last_zxid}
use Rattle.zab_epoch.specs.Rules as epoch_rules
use Rattle.zab_epoch.specs.Rules.{next_epoch, is_better, exceeds, chooses, begins, with_promise}
use Rattle.zab_broadcast.specs.declared.state.State.{State}
use Rattle.zab_broadcast.specs.Calls.{Setting, setting_of}
use Rattle.zab_broadcast.specs.Counts.{commit_count, reached}
use Rattle.zab_broadcast.specs.Rules as rules
use Rattle.zab_broadcast.specs.Rules.{begun, by_peer, counted, entered, raised, settles, took, next_zxid, tells_news, appends_at, news_of}
use Rattle.zab_host.specs.declared.vote.Vote.{Vote as ServerVote}
use Rattle.zab_host.specs.Votes.{vote_of}
use Rattle.zab_model.specs.Worlds.{receives}
use Rattle.zab_epoch.specs.Quorums.{is_majority}
use Rattle.zab_host.specs.LoneLeaders.{acknowledgments_in, after_messages, after_own, own_messages, IsAlone, LeadsAlone, BeginsAlone, Accepts, LoneServersLead, LoneServersAccept}

-- ---- tests that pass

same : (n : ℕ) → (n == n) ≡ true
same n = grind (arith, nat_tests)

not_less : (n : ℕ) → nat_lt n n ≡ false
not_less n = grind (arith, nat_tests)

not_better : (v : Vote) → int_lt v.last v.last ≡ false → is_better v v ≡ false
not_better v last = ap (λ b. b || ((v.current == v.current) && int_lt v.last v.last)) (not_less v.current) ∙ ap (λ b. (v.current == v.current) && b) last ∙ and_false (v.current == v.current)
  where
    and_false : (b : Bool) → (b && false) ≡ false
    and_false true = refl
    and_false false = refl

next : (promised : ℕ) → promised < 2147483647 → next_epoch promised ≡ Some (promised + 1)
next promised left = ap (λ b. cond b (Some (promised + 1)) None) (test promised left)
  where
    test : (n : ℕ) → n < 2147483647 → nat_lt n 2147483647 ≡ true
    test n less = grind (arith, nat_tests)

greatest_own : (promised : ℕ) → max (max promised 0) promised ≡ promised
greatest_own promised = omega arith

-- a lone server has what it has
lone_count : (count own : ℕ) → own ≡ count → commit_count (is_majority 1) (Some own ∷ []) count ≡ count
lone_count zero own e = refl
lone_count (suc count) own e = ap (λ b. cond (is_majority 1 (b ∷ [])) (suc count) (commit_count (is_majority 1) (Some own ∷ []) count)) (test (suc count) own e)
  where
    test : (n m : ℕ) → m ≡ n → nat_le n m ≡ true
    test n m e = grind (arith, nat_tests)

not_above : (z : ℤ) → int_lt z z ≡ false
not_above z = grind (arith, nat_tests, ints)

-- ---- server 1 of 1

abbrev peer_as : Stable → Role → Peer
peer_as stable role = record { me = 1; servers = 1; stable = stable; role = role }

abbrev own_vote : Stable → Vote
own_vote stable = record { current = stable.current; last = last_zxid stable.history }

lone : (state : State) → state.peer.me ≡ 1 → state.peer.servers ≡ 1 → state ≡ record state { peer = peer_as state.peer.stable state.peer.role }
lone state number servers =
    ap (λ (k : ℕ). record state { peer = record state.peer { me = k } }) number
    ∙ ap (λ (k : ℕ). record state { peer = record { me = 1; servers = k; stable = state.peer.stable; role = state.peer.role } }) servers

module _ {C : Type 0} (made : List Entry → C → ℤ → Entry) (tag : C → ℕ) (old : State) (stable : Stable) where
  abbrev setting : Setting C
  setting = setting_of (is_majority 1) made tag

  abbrev long : ℕ
  long = length stable.history

  -- ---- it begins to lead

  abbrev chosen : Stable
  chosen = with_promise stable (stable.promised + 1)

  abbrev began : Stable
  began = record { promised = stable.promised + 1; current = stable.promised + 1; history = stable.history }

  -- it has heard itself, has chosen an epoch, and has begun it
  abbrev heard : State
  heard = record old { peer = peer_as stable (Discover (Some stable.promised ∷ [])); asked = [] }

  abbrev choosing : State
  choosing = record heard { peer = peer_as chosen (Choose (Some (own_vote stable) ∷ []) (None ∷ [])) }

  abbrev beginning : State
  beginning = record heard { peer = peer_as began Sync; delivered = min old.delivered long; has = Some long ∷ [] }

  abbrev entering : State
  entering = record beginning { has = Some (max long 0) ∷ [] }

  abbrev leading : State
  leading = entered entering (commit_count (is_majority 1) (Some (max long 0) ∷ []) long)

  first : stable.promised < 2147483647 → (receives setting 1 (say.CEpoch stable.promised) heard).0 ≡ choosing
  first left =
      ap (λ (e : Option ℕ). (by_peer {C = C} heard (chooses heard.peer (true ∷ []) e)).0) (ap next_epoch (greatest_own stable.promised) ∙ next stable.promised left)

  no_better : exceeds (epoch_rules.vote_of chosen) (Some (own_vote stable) ∷ []) ≡ false
  no_better = ap (λ (b : Bool). b || false) (not_better (own_vote stable) (not_above (last_zxid stable.history)))

  second : (receives setting 1 (say.AckEpoch (stable.promised + 1) true stable.current (last_zxid stable.history)) choosing).0 ≡ beginning
  second =
      ap (λ (b : Bool). (begun {C = C} choosing (cond b (epoch_rules.ack_epoch_as (is_majority 1) choosing.peer 1 true (own_vote stable) choosing.peer.role) (epoch_rules.silent choosing.peer))).0) (same (stable.promised + 1))
      ∙ ap (λ (b : Bool). (begun {C = C} choosing (cond b (epoch_rules.silent (record choosing.peer { role = Looking })) (begins choosing.peer (Some (last_zxid stable.history) ∷ [])))).0) no_better

  third : (receives setting 1 (say.AckLeader (stable.promised + 1) 0) beginning).0 ≡ leading
  third = ap (λ (b : Bool). (cond b (rules.ack_leader_as {C = C} (is_majority 1) beginning 1 0 Sync) (rules.silent beginning)).0) (same (stable.promised + 1))

  leads : stable.promised < 2147483647 → after_own setting (record old { peer = peer_as stable old.peer.role }) ≡ leading
  leads left =
      ap (λ (e : Option ℕ). after_messages setting heard (acknowledgments_in (vote_of heard) stable.promised e)) (next stable.promised left)
      ∙ ap (λ (s : State). (receives setting 1 (say.AckLeader (stable.promised + 1) 0) (receives setting 1 (say.AckEpoch (stable.promised + 1) true stable.current (last_zxid stable.history)) s).0).0) (first left)
      ∙ ap (λ (s : State). (receives setting 1 (say.AckLeader (stable.promised + 1) 0) s).0) second
      ∙ third

  counts : commit_count (is_majority 1) (Some (max long 0) ∷ []) long ≡ long
  counts = lone_count long (max long 0) (omega arith)

  delivers : old.delivered ≤ long → max (min old.delivered long) (commit_count (is_majority 1) (Some (max long 0) ∷ []) long) ≡ long
  delivers within = ap (λ (n : ℕ). max (min old.delivered long) n) counts ∙ omega (arith, within)

  begins_alone : old.delivered ≤ long → BeginsAlone stable leading
  begins_alone within = record {
    leads = record {
      number = refl;
      servers = refl;
      role = refl;
      has = ap (λ (n : ℕ). Some n ∷ []) (omega arith);
      top = counts;
      delivered = delivers within;
    };
    promised = refl;
    current = refl;
    history = refl;
  }

  -- ---- it accepts a call

  abbrev serving : State
  serving = record old { peer = peer_as stable Broadcast; delivered = long; has = Some long ∷ []; top = long }

  module _ (call : C) (zxid : ℤ) where
    abbrev entry : Entry
    entry = made stable.history call zxid

    abbrev more : List Entry
    more = stable.history ++ entry ∷ []

    abbrev grown : State
    grown = took serving entry

    abbrev accepted : State
    accepted = record grown { top = length more; delivered = max long (length more) }

    one_more : length more ≡ long + 1
    one_more = length-append stable.history (entry ∷ [])

    has_all : commit_count (is_majority 1) (Some (long + 1) ∷ []) (length more) ≡ length more
    has_all = lone_count (length more) (long + 1) (sym one_more)

    above : nat_lt long (length more) ≡ true
    above = test long (length more) one_more
      where
        test : (n m : ℕ) → m ≡ n + 1 → nat_lt n m ≡ true
        test n m e = grind (arith, nat_tests)

    accepts : next_zxid stable.promised old.made ≡ Some zxid → rules.submit setting serving call ≡ (accepted, Ok [])
    accepts left =
        ap (λ (z : Option ℤ). appends_at setting serving call z) left
        ∙ ap (λ (n : ℕ). tells_news {C = C} None long (cond (nat_lt long n) (record grown { top = n; delivered = max long n }, Some n) (grown, None))) has_all
        ∙ ap (λ (b : Bool). tells_news {C = C} None long (cond b (accepted, Some (length more)) (grown, None))) above

    leads_on : LeadsAlone accepted
    leads_on = record {
      number = refl;
      servers = refl;
      role = refl;
      has = ap (λ (n : ℕ). Some n ∷ []) (sym one_more);
      top = refl;
      delivered = omega (arith, one_more);
    }

-- ---- the laws

module _ {C : Type 0} (made : List Entry → C → ℤ → Entry) (tag : C → ℕ) where
  pub lone_servers_lead : LoneServersLead {C = C} (setting_of (is_majority 1) made tag)
  lone_servers_lead state alone left =
      let stable = state.peer.stable in
      subst (λ (s : State). BeginsAlone stable (after_own (setting made tag state stable) s)) (sym (lone state alone.number alone.servers))
      (subst (BeginsAlone stable) (sym (leads made tag state stable left)) (begins_alone made tag state stable alone.within))

  -- all of a leader's fields
  lone_leader : (state : State) → LeadsAlone state → state ≡ serving made tag state state.peer.stable
  lone_leader state it =
      lone state it.number it.servers
      ∙ ap (λ (r : Role). record state { peer = peer_as state.peer.stable r }) it.role
      ∙ ap (λ (n : ℕ). record state { peer = peer_as state.peer.stable Broadcast; delivered = n }) it.delivered
      ∙ ap (λ (h : List (Option ℕ)). record state { peer = peer_as state.peer.stable Broadcast; delivered = length state.peer.stable.history; has = h }) it.has
      ∙ ap (λ (n : ℕ). record state { peer = peer_as state.peer.stable Broadcast; delivered = length state.peer.stable.history; has = Some (length state.peer.stable.history) ∷ []; top = n }) it.top

  accepts_by : (state : State) (call : C) (zxid : ℤ) → next_zxid state.peer.stable.promised state.made ≡ Some zxid → Accepts (setting made tag state state.peer.stable) (serving made tag state state.peer.stable) call zxid
  accepts_by state call zxid left =
      let same = accepts made tag state state.peer.stable call zxid left in
      record {
        leads = subst LeadsAlone (sym (ap (λ (acts : rules.Acts C). acts.0) same)) (leads_on made tag state state.peer.stable call zxid);
        history = ap (λ (acts : rules.Acts C). acts.0.peer.stable.history) same;
        silent = ap (λ (acts : rules.Acts C). acts.1) same;
      }

  pub lone_servers_accept : LoneServersAccept {C = C} (setting_of (is_majority 1) made tag)
  lone_servers_accept state call zxid leads left =
      subst (λ (s : State). Accepts (setting made tag state state.peer.stable) s call zxid) (sym (lone_leader state leads)) (accepts_by state call zxid left)
