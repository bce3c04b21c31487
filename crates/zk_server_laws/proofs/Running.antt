-- Schedules of servers are steps of hosts.
use Rattle.std.proofs.Common.{◌≡◌, ◌≢◌, ◌⊎◌, ℕ, ◌<◌, ◌≤◌, ◌==◌, Bool, true, false, if◌then◌else◌, List, [], ◌∷◌, ◌++◌, length, map, take, filter, Some, refl, sym, ap, ◌∙◌, subst, inl, inr, arith}
use Rattle.std.specs.List.{AllByRecursion}
use Rattle.std.proofs.lemmas.Bool.Decides.{nat_tests}
use Rattle.std.proofs.lemmas.List.{append_assoc, append-nil}
use Rattle.zab_broadcast.specs.declared.state.State.{State}
use Rattle.zab_broadcast.specs.declared.syncs.Caught.{Caught}
use Rattle.zab_broadcast.specs.Rules.{restored}
use Rattle.zab_epoch.specs.declared.message.Message.{Message}
use Rattle.zab_epoch.specs.declared.stable.Stable.{Stable}
use Rattle.zab_laws.specs.Prefixes.{IsPrefix}
use Rattle.zab_model.specs.ProcessStates.{standing}
use Rattle.zab_model.specs.Worlds.{Profile, server_at, is_server}
use Rattle.zab_host_laws.specs.Hosts.{Step, new_network, after_steps, MayStepAll}
use Rattle.zab_host.specs.Hosts.{HostView}
use Rattle.zab_host.specs.Tags.{Request, IsInRange, request_tag}
use Rattle.zab_host_laws.specs.Composition.{step_of, after_inputs, messages_in}
use Rattle.zab_host_laws.specs.Fits.{AllFor, HostsKeepTheirNumbers, AcceptedInputsAreSteps}
use Rattle.zab_host_laws.specs.Releases.{Release, steps_in, WereSent, ReceiveWhatWasSent, ReleasesAreSteps}
use Rattle.zab_host_laws.specs.Tags.{tags_in, AreDistinct, IssuedTagsAreFresh}
use Rattle.zab_host_laws.specs.TakenSyncs.{HasTaken, TakenSyncsChangeNothing}
use Rattle.zk_server_laws.specs.Turns.{Turn, Acts, TurnsTo, StopsWith, Narrows, StartsOn, IsAfterSome, AreRising}
use Rattle.zk_server_laws.specs.Schedules as schedules
use Rattle.zk_server_laws.specs.Schedules.{Site, Runs, Stopped, Ensemble, Event, Turns, Stops, Waits, Starts, arrived, posted, with_site, stopped_at, waiting_at, running_at, sent_by, after_event, after_events, MayTurn, MayStop, MayNarrow, MayStart, MayHappen, MayRun, IsNew, IsNewSite, ShowsSite, SchedulesAreSteps, no_turn, no_stable}
use Rattle.zk_server_laws.proofs.Lists.{Sent, sent_stays, sent_all, all_append, all_front, all_drop, all_map, all_filter}
use Rattle.zk_server_laws.proofs.Lengths.{new_at}
use Rattle.zk_server_laws.proofs.Requests.{IsOf, rising_up, rising_all, rising_distinct, rising_take, distinct_append, first_tags}
use Rattle.zk_server_laws.proofs.Taking.{same_after, has_more, has_none, for_take, sent_take, were_grow, were_heard}
use Rattle.zk_server_laws.proofs.Pushing.{release, steps_both, heard_push, tags_push, net, pushed}

-- ---- requests that were used up

abbrev boot_of : {C S : Type 0} → Site C S → ℕ
boot_of (Runs host boot used) = boot
boot_of (Stopped last boot used turn storage) = boot

abbrev used_of : {C S : Type 0} → Site C S → ℕ
used_of (Runs host boot used) = used
used_of (Stopped last boot used turn storage) = used

abbrev IsSpentBy : ℕ → ℕ → Request → Type 0
IsSpentBy boot used request = (request.boot < boot) ⊎ ((request.boot ≡ boot) × (request.number < used))

abbrev IsSpent : {C S : Type 0} → Site C S → Request → Type 0
IsSpent site request = IsSpentBy (boot_of site) (used_of site) request

abbrev AllSpent : {C S : Type 0} → (ℕ → Site C S) → List Request → Type 0
AllSpent site requests = AllByRecursion (λ (r : Request). IsSpent (site r.host) r) requests

same_if : (a b : ℕ) → a ≡ b → (a == b) ≡ true
same_if a b e = grind (arith, nat_tests)

is_same : (a b : ℕ) → (a == b) ≡ true → a ≡ b
is_same a b e = grind (arith, nat_tests)

is_other : (a b : ℕ) → (a == b) ≡ false → a ≢ b
is_other a b e same = absurd (grind (arith, nat_tests))

module _ {C S : Type 0} (site : ℕ → Site C S) (number : ℕ) (new : Site C S) where
  pick : (P : Site C S → Type 0) (k : ℕ) → (k ≡ number → P new) → (k ≢ number → P (site k)) → P (with_site number new site k)
  pick P k here there = by_test (k == number) refl
    where
      by_test : (b : Bool) → (k == number) ≡ b → P (if b then new else site k)
      by_test true is = here (is_same k number is)
      by_test false is = there (is_other k number is)

  spent_moves : (requests : List Request) → ((r : Request) → IsSpent (site number) r → IsSpent new r) → AllSpent site requests → AllSpent (with_site number new site) requests
  spent_moves requests f all =
      all_map (λ (r : Request). IsSpent (site r.host) r) (λ (r : Request). IsSpent (with_site number new site r.host) r) requests
      (λ r spent. pick (λ (s : Site C S). IsSpent s r) r.host (λ same. f r (subst (λ n. IsSpent (site n) r) same spent)) (λ differs. spent)) all

  spent_new : (boot low high : ℕ) (requests : List Request) → ((r : Request) → IsOf number boot low high r → IsSpent new r) → AllByRecursion (IsOf number boot low high) requests → AllSpent (with_site number new site) requests
  spent_new boot low high requests f all =
      all_map (IsOf number boot low high) (λ (r : Request). IsSpent (with_site number new site r.host) r) requests
      (λ r of_it. pick (λ (s : Site C S). IsSpent s r) r.host (λ same. f r of_it) (λ differs. absurd (differs of_it.host))) all

apart_by : (number boot used high : ℕ) (r o : Request) → IsSpentBy boot used r → IsOf number boot used high o → o ≢ r
apart_by number boot used high r o (inl less) of_it same =
    let e : o.boot ≡ r.boot = ap (λ (x : Request). x.boot) same in
    let b = of_it.boot_is in
    absurd (omega arith)
apart_by number boot used high r o (inr spent) of_it same =
    let e : o.number ≡ r.number = ap (λ (x : Request). x.number) same in
    let l = of_it.low_is in
    let n = spent.1 in
    absurd (omega arith)

-- spent requests, and new ones
apart : {C S : Type 0} (site : ℕ → Site C S) (number boot used high : ℕ) (it : Site C S) → site number ≡ it → boot_of it ≡ boot → used_of it ≡ used
    → (old new : List Request) → AllSpent site old → AllByRecursion (IsOf number boot used high) new → AllByRecursion (λ one. AllByRecursion (λ other. other ≢ one) new) old
apart site number boot used high it is boot_is used_is old new spent of_it =
    all_map (λ (r : Request). IsSpent (site r.host) r) (λ one. AllByRecursion (λ other. other ≢ one) new) old
    (λ r gone. all_map (IsOf number boot used high) (λ other. other ≢ r) new
    (λ o of_one same.
    let host : r.host ≡ number = ap (λ (x : Request). x.host) (sym same) ∙ of_one.host in
    let gone2 : IsSpent it r = subst (λ (s : Site _ _). IsSpent s r) (ap site host ∙ is) gone in
    let gone3 : IsSpentBy boot used r = subst (λ n. IsSpentBy boot n r) used_is (subst (λ n. IsSpentBy n (used_of it) r) boot_is gone2) in
    apart_by number boot used high r o gone3 of_one same) of_it) spent

in_range : (number boot low high : ℕ) (requests : List Request) → number < 256 → boot < 16777216 → high ≤ 4294967296 → AllByRecursion (IsOf number boot low high) requests → AllByRecursion IsInRange requests
in_range number boot low high requests few starts within all =
    all_map (IsOf number boot low high) IsInRange requests
    (λ r of_it.
    let h = of_it.host in
    let b = of_it.boot_is in
    let n = of_it.high_is in
    record { host = omega arith; boot = omega arith; number = omega arith }) all

-- ---- links

module _ {C : Type 0} (P : Message C → Type 0) where
  abbrev AllFly : (ℕ → List (Message C)) → Type 0
  AllFly flight = (line : ℕ) → AllByRecursion P (flight line)

  fly_if : (b : Bool) (x y : List (Message C)) → AllByRecursion P x → AllByRecursion P y → AllByRecursion P (if b then x else y)
  fly_if true x y p q = p
  fly_if false x y p q = q

  fly_arrived : (turn : Turn C) (flight : ℕ → List (Message C)) → AllFly flight → AllFly (arrived turn flight)
  fly_arrived turn flight all line = all_drop P (length (turn.brought line)) (flight line) (all line)

  fly_posted : (turn : Turn C) (sent : List (Message C)) (flight : ℕ → List (Message C)) → AllByRecursion P sent → AllFly flight → AllFly (posted turn sent flight)
  fly_posted turn sent flight new all line =
      all_append P (flight line) (filter (λ message. turn.line_to message.addressee == line) sent) (all line) (all_filter P (λ message. turn.line_to message.addressee == line) sent new)

  brought_sent : (brought front : List (Message C)) → IsPrefix brought front → AllByRecursion P front → AllByRecursion P brought
  brought_sent brought front p all = all_front P brought p.rest (subst (λ (l : List (Message C)). AllByRecursion P l) (sym p.is) all)

-- ---- the invariant

module _ {C S : Type 0} (profile : Profile C) (may_recover : S → Stable → Type 0) (boots : S → ℕ) (servers : ℕ) where
  -- a running server's host is the network's, but for the syncs that were taken
  record Live (outs : List (Release C)) (number : ℕ) (host : HostView C S) (boot used : ℕ) : Type 0 where
    whole : State
    taken : List Caught
    at : server_at (net profile servers outs).servers number ≡ Some (standing true whole)
    has : HasTaken taken whole host.state
    counted : boot ≤ boots host.storage
    within : boot < 16777216

  record Left (outs : List (Release C)) (number : ℕ) (last : State) (boot used : ℕ) (turn : Turn C) (storage : S) : Type 0 where
    whole : State
    taken : List Caught
    at : server_at (net profile servers outs).servers number ≡ Some (standing true whole)
    has : HasTaken taken whole last
    fits : AllFor profile.setting last turn.inputs
    sent : WereSent (net profile servers outs) turn.inputs
    crash : (found : Stable) → may_recover storage found → IsAfterSome profile.setting last turn.inputs found
    asked : tags_in profile (map (step_of number) turn.inputs) ≡ map request_tag turn.requests
    high : ℕ
    rising : AreRising number boot used high turn.requests
    high_within : high ≤ 4294967296
    counted : boot ≤ boots storage
    within : boot < 16777216

  abbrev SiteIs : List (Release C) → ℕ → Site C S → Type 0
  SiteIs outs number (Runs host boot used) = Live outs number host boot used
  SiteIs outs number (Stopped last boot used turn storage) = Left outs number last boot used turn storage

  record Inv (outs : List (Release C)) (asked : List Request) (x : Ensemble C S) : Type 0 where
    heard : ReceiveWhatWasSent profile (new_network servers) outs
    flies : AllFly (Sent (net profile servers outs).messages) x.flight
    sites : (number : ℕ) → is_server servers number ≡ true → SiteIs outs number (x.site number)
    asked_is : tags_in profile (steps_in outs) ≡ map request_tag asked
    ranges : AllByRecursion IsInRange asked
    distinct : AreDistinct asked
    spent : AllSpent x.site asked

  -- ---- servers that do nothing

  site_stays : (outs next : List (Release C)) (more : List (Message C)) (number : ℕ) (site : Site C S)
      → server_at (net profile servers next).servers number ≡ server_at (net profile servers outs).servers number
      → (net profile servers outs).messages ++ more ≡ (net profile servers next).messages → SiteIs outs number site → SiteIs next number site
  site_stays outs next more number (Runs host boot used) same grown it =
      record { whole = it.whole; taken = it.taken; at = same ∙ it.at; has = it.has; counted = it.counted; within = it.within }
  site_stays outs next more number (Stopped last boot used turn storage) same grown it = record {
    whole = it.whole;
    taken = it.taken;
    at = same ∙ it.at;
    has = it.has;
    fits = it.fits;
    sent = were_grow (net profile servers outs) (net profile servers next) more turn.inputs grown it.sent;
    crash = it.crash;
    asked = it.asked;
    high = it.high;
    rising = it.rising;
    high_within = it.high_within;
    counted = it.counted;
    within = it.within;
  }

  -- ---- one event

  record Goes (outs : List (Release C)) (next : Ensemble C S) : Type 0 where
    more : List (Release C)
    asked : List Request
    inv : Inv (outs ++ more) asked next

  stands : (outs : List (Release C)) (asked : List Request) (next : Ensemble C S) → Inv outs asked next → Goes outs next
  stands outs asked next inv = record { more = []; asked = asked; inv = subst (λ (l : List (Release C)). Inv l asked next) (sym (append-nil outs)) inv }

  map_both : (a b : List Request) → map request_tag (a ++ b) ≡ map request_tag a ++ map request_tag b
  map_both [] b = refl
  map_both (r ∷ a) b = ap (λ l. request_tag r ∷ l) (map_both a b)

  few_are : servers < 256 → (number : ℕ) → is_server servers number ≡ true → number < 256
  few_are few number serves = grind (arith, nat_tests)

  module _ (accepted : AcceptedInputsAreSteps profile) (numbers : HostsKeepTheirNumbers profile) (taking : TakenSyncsChangeNothing profile.setting) (few : servers < 256) (many : servers ≢ 1)
      (outs : List (Release C)) (asked : List Request) (x : Ensemble C S) (inv : Inv outs asked x) (number : ℕ) (serves : is_server servers number ≡ true) where
    moved : (next : List (Release C)) (more : List (Message C)) → (net profile servers outs).messages ++ more ≡ (net profile servers next).messages → AllFly (Sent (net profile servers next).messages) x.flight
    moved next more grown line =
        all_map (Sent (net profile servers outs).messages) (Sent (net profile servers next).messages) (x.flight line)
        (λ m s. subst (λ (l : List (Message C)). Sent l m) grown (sent_stays (net profile servers outs).messages more m s)) (inv.flies line)

    was_sent : (turn : Turn C) (boot used high : ℕ) (state : State) → ((line : ℕ) → IsPrefix (turn.brought line) (x.flight line)) → Acts profile servers number boot used high state turn → WereSent (net profile servers outs) turn.inputs
    was_sent turn boot used high state brings acts =
        were_heard servers (net profile servers outs) turn.brought turn.inputs
        (λ line. brought_sent (Sent (net profile servers outs).messages) (turn.brought line) (x.flight line) (brings line) (inv.flies line)) many acts.heard

    turn_at : (turn : Turn C) (next_used : ℕ) (next : HostView C S) → ((line : ℕ) → IsPrefix (turn.brought line) (x.flight line))
        → (host : HostView C S) (boot used : ℕ) → x.site number ≡ Runs host boot used
        → TurnsTo profile may_recover boots servers number boot used next_used host turn (messages_in profile.setting host.state turn.inputs) next
        → Goes outs (record { site = with_site number (Runs next boot next_used) x.site; flight = posted turn (messages_in profile.setting host.state turn.inputs) (arrived turn x.flight) })
    turn_at turn next_used next brings host boot used is t =
        let live : Live outs number host boot used = subst (SiteIs outs number) is (inv.sites number serves) in
        let acts = t.acts in
        let same = same_after profile.setting taking live.taken live.whole host.state turn.inputs live.has acts.accepted in
        let it = release number turn.inputs false in
        let outs2 = outs ++ it ∷ [] in
        let sent = messages_in profile.setting host.state turn.inputs in
        let more = messages_in profile.setting live.whole turn.inputs in
        let new : Site C S = Runs next boot next_used in
        let p = pushed profile servers accepted numbers outs number turn.inputs live.whole live.at same.fits false in
        let of_it = rising_all number boot used next_used turn.requests acts.rising in
        let up = rising_up number boot used next_used turn.requests acts.rising in
        let sent_is : AllByRecursion (Sent (net profile servers outs2).messages) sent =
        subst (λ (l : List (Message C)). AllByRecursion (Sent (net profile servers outs2).messages) l) (sym same.said)
        (subst (λ (l : List (Message C)). AllByRecursion (Sent l) more) p.messages (sent_all (net profile servers outs).messages more)) in
        let live2 : Live outs2 number next boot next_used = record {
          whole = after_inputs profile.setting live.whole turn.inputs;
          taken = live.taken ++ turn.taken;
          at = p.state;
          has = has_more live.taken turn.taken (after_inputs profile.setting live.whole turn.inputs) (after_inputs profile.setting host.state turn.inputs) next.state same.has t.state;
          counted = subst (λ n. boot ≤ n) (sym t.starts) live.counted;
          within = live.within;
        } in
        record {
          more = it ∷ [];
          asked = asked ++ turn.requests;
          inv = record {
            heard = heard_push profile (new_network servers) outs it inv.heard (was_sent turn boot used next_used host.state brings acts);
            flies = fly_posted (Sent (net profile servers outs2).messages) turn sent (arrived turn x.flight) sent_is
                (fly_arrived (Sent (net profile servers outs2).messages) turn x.flight (moved outs2 more p.messages));
            sites = λ k serves_k. pick x.site number new (λ (s : Site C S). SiteIs outs2 k s) k
                (λ e. subst (λ n. SiteIs outs2 n new) (sym e) live2)
                (λ differs. site_stays outs outs2 more k (x.site k) (p.others k differs) p.messages (inv.sites k serves_k));
            asked_is = tags_push profile outs it
                ∙ ap (λ l. l ++ tags_in profile (map (step_of number) turn.inputs)) inv.asked_is
                ∙ ap (λ l. map request_tag asked ++ l) acts.asked ∙ sym (map_both asked turn.requests);
            ranges = all_append IsInRange asked turn.requests inv.ranges (in_range number boot used next_used turn.requests (few_are few number serves) live.within acts.within of_it);
            distinct = distinct_append asked turn.requests inv.distinct (rising_distinct number boot used next_used turn.requests acts.rising)
                (apart x.site number boot used next_used (Runs host boot used) is refl refl asked turn.requests inv.spent of_it);
            spent = all_append (λ (r : Request). IsSpent (with_site number new x.site r.host) r) asked turn.requests
                (spent_moves x.site number new asked (λ r gone. widen boot used next_used r up (subst (λ (s : Site C S). IsSpent s r) is gone)) inv.spent)
                (spent_new x.site number new boot used next_used turn.requests (λ r of_one. inr (of_one.boot_is, of_one.high_is)) of_it);
          };
        }
      where
        widen : (boot used next_used : ℕ) (r : Request) → used ≤ next_used → IsSpentBy boot used r → IsSpentBy boot next_used r
        widen boot used next_used r up (inl less) = inl less
        widen boot used next_used r up (inr spent) = (let n = spent.1 in inr (spent.0, omega arith))

    stop_at : (turn : Turn C) (next_used : ℕ) (storage : S) → ((line : ℕ) → IsPrefix (turn.brought line) (x.flight line))
        → (host : HostView C S) (boot used : ℕ) → x.site number ≡ Runs host boot used
        → StopsWith profile may_recover boots servers number boot used next_used host turn storage
        → Inv outs asked (record { site = with_site number (Stopped host.state boot used turn storage) x.site; flight = arrived turn x.flight })
    stop_at turn next_used storage brings host boot used is t =
        let live : Live outs number host boot used = subst (SiteIs outs number) is (inv.sites number serves) in
        let acts = t.acts in
        let new : Site C S = Stopped host.state boot used turn storage in
        let low = live.counted in
        let high = t.starts in
        let left : Left outs number host.state boot used turn storage = record {
          whole = live.whole;
          taken = live.taken;
          at = live.at;
          has = live.has;
          fits = acts.accepted;
          sent = was_sent turn boot used next_used host.state brings acts;
          crash = t.crash;
          asked = acts.asked;
          high = next_used;
          rising = acts.rising;
          high_within = acts.within;
          counted = omega arith;
          within = live.within;
        } in
        record {
          heard = inv.heard;
          flies = fly_arrived (Sent (net profile servers outs).messages) turn x.flight inv.flies;
          sites = λ k serves_k. pick x.site number new (λ (s : Site C S). SiteIs outs k s) k (λ e. subst (λ n. SiteIs outs n new) (sym e) left) (λ differs. inv.sites k serves_k);
          asked_is = inv.asked_is;
          ranges = inv.ranges;
          distinct = inv.distinct;
          spent = spent_moves x.site number new asked (λ r gone. subst (λ (s : Site C S). IsSpent s r) is gone) inv.spent;
        }

    wait_at : (storage : S) (last : State) (boot used : ℕ) (turn : Turn C) (gone : S) → x.site number ≡ Stopped last boot used turn gone
        → Narrows may_recover boots gone storage
        → Inv outs asked (record { site = with_site number (Stopped last boot used turn storage) x.site; flight = x.flight })
    wait_at storage last boot used turn gone is t =
        let left : Left outs number last boot used turn gone = subst (SiteIs outs number) is (inv.sites number serves) in
        let new : Site C S = Stopped last boot used turn storage in
        let low = left.counted in
        let high = t.starts in
        let left2 : Left outs number last boot used turn storage = record {
          whole = left.whole;
          taken = left.taken;
          at = left.at;
          has = left.has;
          fits = left.fits;
          sent = left.sent;
          crash = λ found may. left.crash found (t.crash found may);
          asked = left.asked;
          high = left.high;
          rising = left.rising;
          high_within = left.high_within;
          counted = omega arith;
          within = left.within;
        } in
        record {
          heard = inv.heard;
          flies = inv.flies;
          sites = λ k serves_k. pick x.site number new (λ (s : Site C S). SiteIs outs k s) k (λ e. subst (λ n. SiteIs outs n new) (sym e) left2) (λ differs. inv.sites k serves_k);
          asked_is = inv.asked_is;
          ranges = inv.ranges;
          distinct = inv.distinct;
          spent = spent_moves x.site number new asked (λ r gone2. subst (λ (s : Site C S). IsSpent s r) is gone2) inv.spent;
        }

    start_at : (stable : Stable) (boot2 : ℕ) (next : HostView C S) (last : State) (boot used : ℕ) (turn : Turn C) (storage : S) → x.site number ≡ Stopped last boot used turn storage
        → StartsOn may_recover boots servers number storage stable boot2 next
        → Goes outs (record { site = with_site number (Runs next boot2 0) x.site; flight = x.flight })
    start_at stable boot2 next last boot used turn storage is t =
        let left : Left outs number last boot used turn storage = subst (SiteIs outs number) is (inv.sites number serves) in
        let some = left.crash stable t.found in
        let inputs = take some.0 turn.inputs in
        let same = same_after profile.setting taking left.taken left.whole last inputs left.has (for_take profile.setting last some.0 turn.inputs left.fits) in
        let it = release number inputs true in
        let outs2 = outs ++ it ∷ [] in
        let more = messages_in profile.setting left.whole inputs in
        let p = pushed profile servers accepted numbers outs number inputs left.whole left.at same.fits true in
        let whole2 = restored servers number (after_inputs profile.setting left.whole inputs).peer.stable in
        let first = first_tags profile number some.0 turn.inputs turn.requests left.asked in
        let requests = take first.many turn.requests in
        let rising = rising_take number boot used left.high first.many turn.requests left.rising in
        let of_it = rising_all number boot used left.high requests rising in
        let new : Site C S = Runs next boot2 0 in
        let stable_is : stable ≡ (after_inputs profile.setting left.whole inputs).peer.stable = some.1 ∙ ap (λ (s : State). s.peer.stable) same.has.same in
        let low = left.counted in
        let high = t.counted in
        let less : boot < boot2 = omega arith in
        let live2 : Live outs2 number next boot2 0 = record {
          whole = whole2;
          taken = [];
          at = p.state;
          has = subst (λ (s : State). HasTaken [] whole2 s) (sym (t.state ∙ ap (restored servers number) stable_is)) (has_none whole2);
          counted = subst (λ n. boot2 ≤ n) (sym t.starts) (omega arith);
          within = t.within;
        } in
        record {
          more = it ∷ [];
          asked = asked ++ requests;
          inv = record {
            heard = heard_push profile (new_network servers) outs it inv.heard (sent_take (net profile servers outs) some.0 turn.inputs left.sent);
            flies = moved outs2 more p.messages;
            sites = λ k serves_k. pick x.site number new (λ (s : Site C S). SiteIs outs2 k s) k
                (λ e. subst (λ n. SiteIs outs2 n new) (sym e) live2)
                (λ differs. site_stays outs outs2 more k (x.site k) (p.others k differs) p.messages (inv.sites k serves_k));
            asked_is = tags_push profile outs it
                ∙ ap (λ l. l ++ tags_in profile (map (step_of number) inputs)) inv.asked_is
                ∙ ap (λ l. map request_tag asked ++ l) first.is ∙ sym (map_both asked requests);
            ranges = all_append IsInRange asked requests inv.ranges (in_range number boot used left.high requests (few_are few number serves) left.within left.high_within of_it);
            distinct = distinct_append asked requests inv.distinct (rising_distinct number boot used left.high requests rising)
                (apart x.site number boot used left.high (Stopped last boot used turn storage) is refl refl asked requests inv.spent of_it);
            spent = all_append (λ (r : Request). IsSpent (with_site number new x.site r.host) r) asked requests
                (spent_moves x.site number new asked (λ r gone. newer boot used boot2 r less (subst (λ (s : Site C S). IsSpent s r) is gone)) inv.spent)
                (spent_new x.site number new boot used left.high requests (λ r of_one. inl (let b = of_one.boot_is in omega arith)) of_it);
          };
        }
      where
        newer : (boot used boot2 : ℕ) (r : Request) → boot < boot2 → IsSpentBy boot used r → IsSpentBy boot2 0 r
        newer boot used boot2 r less (inl lower) = inl (omega arith)
        newer boot used boot2 r less (inr spent) = (let b = spent.0 in inl (omega arith))

  -- ---- the first start

  new_left : (number : ℕ) → is_server servers number ≡ true → (site : Site C S) → IsNewSite profile may_recover boots servers number site → SiteIs [] number site
  new_left number serves (Runs host boot used) is = absurd is
  new_left number serves (Stopped last boot used turn storage) is =
      let last_is = is.0 in
      let boot_is = is.1.0 in
      let used_is = is.1.1.0 in
      let turn_is : turn ≡ schedules.no_turn profile may_recover boots servers = is.1.1.1.0 in
      let whole = restored servers number (schedules.no_stable profile may_recover boots servers) in
      subst (λ (t : Turn C). Left [] number last boot used t storage) (sym turn_is) (record {
        whole = whole;
        taken = [];
        at = new_at servers number serves;
        has = subst (λ (s : State). HasTaken [] whole s) (sym last_is) (has_none whole);
        fits = tt;
        sent = tt;
        crash = λ found may. (0, is.1.1.1.1 found may ∙ sym (ap (λ (s : State). s.peer.stable) last_is));
        asked = refl;
        high = used;
        rising = omega arith;
        high_within = omega arith;
        counted = omega arith;
        within = omega arith;
      })

  first_inv : (x : Ensemble C S) → IsNew profile may_recover boots servers x → Inv [] [] x
  first_inv x new = record {
    heard = tt;
    flies = λ line. subst (λ (l : List (Message C)). AllByRecursion (Sent []) l) (sym (new.flight line)) tt;
    sites = λ number serves. new_left number serves (x.site number) (new.sites number);
    asked_is = refl;
    ranges = tt;
    distinct = tt;
    spent = tt;
  }

  -- ---- all events

  module _ (accepted : AcceptedInputsAreSteps profile) (numbers : HostsKeepTheirNumbers profile) (taking : TakenSyncsChangeNothing profile.setting) (few : servers < 256) (many : servers ≢ 1) where
    turn_by : (outs : List (Release C)) (asked : List Request) (x : Ensemble C S) (inv : Inv outs asked x) (number : ℕ) → is_server servers number ≡ true
        → (turn : Turn C) (next_used : ℕ) (next : HostView C S) → ((line : ℕ) → IsPrefix (turn.brought line) (x.flight line))
        → (site : Site C S) → x.site number ≡ site → MayTurn profile may_recover boots servers site number turn next_used next
        → Goes outs (record { site = with_site number (running_at next_used next site) x.site; flight = posted turn (sent_by profile turn site) (arrived turn x.flight) })
    turn_by outs asked x inv number serves turn next_used next brings (Runs host boot used) is t =
        turn_at accepted numbers taking few many outs asked x inv number serves turn next_used next brings host boot used is t
    turn_by outs asked x inv number serves turn next_used next brings (Stopped last boot used before storage) is t = absurd t

    stop_by : (outs : List (Release C)) (asked : List Request) (x : Ensemble C S) (inv : Inv outs asked x) (number : ℕ) → is_server servers number ≡ true
        → (turn : Turn C) (next_used : ℕ) (storage : S) → ((line : ℕ) → IsPrefix (turn.brought line) (x.flight line))
        → (site : Site C S) → x.site number ≡ site → MayStop profile may_recover boots servers site number turn next_used storage
        → Goes outs (record { site = with_site number (stopped_at turn storage site) x.site; flight = arrived turn x.flight })
    stop_by outs asked x inv number serves turn next_used storage brings (Runs host boot used) is t =
        stands outs asked _ (stop_at accepted numbers taking few many outs asked x inv number serves turn next_used storage brings host boot used is t)
    stop_by outs asked x inv number serves turn next_used storage brings (Stopped last boot used before gone) is t = absurd t

    wait_by : (outs : List (Release C)) (asked : List Request) (x : Ensemble C S) (inv : Inv outs asked x) (number : ℕ) → is_server servers number ≡ true
        → (storage : S) (site : Site C S) → x.site number ≡ site → MayNarrow profile may_recover boots servers site storage
        → Goes outs (record { site = with_site number (waiting_at storage site) x.site; flight = x.flight })
    wait_by outs asked x inv number serves storage (Runs host boot used) is t = absurd t
    wait_by outs asked x inv number serves storage (Stopped last boot used turn gone) is t =
        stands outs asked _ (wait_at accepted numbers taking few many outs asked x inv number serves storage last boot used turn gone is t)

    start_by : (outs : List (Release C)) (asked : List Request) (x : Ensemble C S) (inv : Inv outs asked x) (number : ℕ) → is_server servers number ≡ true
        → (stable : Stable) (boot : ℕ) (next : HostView C S) (site : Site C S) → x.site number ≡ site → MayStart profile may_recover boots servers site number stable boot next
        → Goes outs (record { site = with_site number (Runs next boot 0) x.site; flight = x.flight })
    start_by outs asked x inv number serves stable boot next (Runs host boot1 used) is t = absurd t
    start_by outs asked x inv number serves stable boot next (Stopped last boot1 used turn storage) is t =
        start_at accepted numbers taking few many outs asked x inv number serves stable boot next last boot1 used turn storage is t

    happens : (outs : List (Release C)) (asked : List Request) (x : Ensemble C S) → Inv outs asked x → (event : Event C S) → MayHappen profile may_recover boots servers x event → Goes outs (after_event profile x event)
    happens outs asked x inv (Turns number turn next_used next) may = turn_by outs asked x inv number may.0 turn next_used next may.1.0 (x.site number) refl may.1.1
    happens outs asked x inv (Stops number turn next_used storage) may = stop_by outs asked x inv number may.0 turn next_used storage may.1.0 (x.site number) refl may.1.1
    happens outs asked x inv (Waits number storage) may = wait_by outs asked x inv number may.0 storage (x.site number) refl may.1
    happens outs asked x inv (Starts number stable boot next) may = start_by outs asked x inv number may.0 stable boot next (x.site number) refl may.1

    runs : (outs : List (Release C)) (asked : List Request) (x : Ensemble C S) → Inv outs asked x → (events : List (Event C S)) → MayRun profile may_recover boots servers x events → Goes outs (after_events profile x events)
    runs outs asked x inv [] may = stands outs asked x inv
    runs outs asked x inv (event ∷ events) may =
        let one = happens outs asked x inv event may.0 in
        let rest = runs (outs ++ one.more) one.asked (after_event profile x event) one.inv events may.1 in
        record {
          more = one.more ++ rest.more;
          asked = rest.asked;
          inv = subst (λ (l : List (Release C)). Inv l rest.asked (after_events profile x (event ∷ events))) (append_assoc outs one.more rest.more) rest.inv;
        }

    may_first : (x : Ensemble C S) (a b : List (Event C S)) → MayRun profile may_recover boots servers x (a ++ b) → MayRun profile may_recover boots servers x a
    may_first x [] b may = tt
    may_first x (event ∷ a) b may = (may.0, may_first (after_event profile x event) a b may.1)

    may_last : (x : Ensemble C S) (a b : List (Event C S)) → MayRun profile may_recover boots servers x (a ++ b) → MayRun profile may_recover boots servers (after_events profile x a) b
    may_last x [] b may = may
    may_last x (event ∷ a) b may = may_last (after_event profile x event) a b may.1

    after_both : (x : Ensemble C S) (a b : List (Event C S)) → after_events profile x (a ++ b) ≡ after_events profile (after_events profile x a) b
    after_both x [] b = refl
    after_both x (event ∷ a) b = after_both (after_event profile x event) a b

    shows_site : (outs : List (Release C)) (steps : List (Step C)) → steps_in outs ≡ steps → (number : ℕ) (site : Site C S) → SiteIs outs number site → ShowsSite profile may_recover boots servers steps number site
    shows_site outs steps e number (Stopped last boot used turn storage) it = tt
    shows_site outs steps e number (Runs host boot used) it =
        (it.whole, (it.taken, (subst (λ (s : List (Step C)). server_at (after_steps profile (new_network servers) s).servers number ≡ Some (standing true it.whole)) e it.at, it.has)))

    are_steps : ReleasesAreSteps profile → IssuedTagsAreFresh profile → (x : Ensemble C S) (before between : List (Event C S)) → IsNew profile may_recover boots servers x
        → MayRun profile may_recover boots servers x (before ++ between) → schedules.AreSteps profile may_recover boots servers x before between
    are_steps releases fresh x before between new may =
        let one = runs [] [] x (first_inv x new) before (may_first x before between may) in
        let two = runs ([] ++ one.more) one.asked (after_events profile x before) one.inv between (may_last x before between may) in
        let outs = one.more ++ two.more in
        let split : steps_in outs ≡ steps_in one.more ++ steps_in two.more = steps_both one.more two.more in
        record {
          first = steps_in one.more;
          later = steps_in two.more;
          may = subst (λ (s : List (Step C)). MayStepAll profile (new_network servers) [] [] s) split
              (releases servers outs two.inv.heard (fresh (steps_in outs) two.asked two.inv.asked_is two.inv.ranges two.inv.distinct));
          shows = λ number serves. shows_site one.more (steps_in one.more) refl number ((after_events profile x before).site number) (one.inv.sites number serves);
          shows_then = subst (λ (y : Ensemble C S). schedules.Shows profile may_recover boots servers (steps_in one.more ++ steps_in two.more) y) (sym (after_both x before between))
              (λ number serves. shows_site outs (steps_in one.more ++ steps_in two.more) split number ((after_events profile (after_events profile x before) between).site number) (two.inv.sites number serves));
        }

pub schedules_are : {C S : Type 0} (profile : Profile C) (may_recover : S → Stable → Type 0) (boots : S → ℕ) (servers : ℕ)
    → AcceptedInputsAreSteps profile → HostsKeepTheirNumbers profile → TakenSyncsChangeNothing profile.setting → ReleasesAreSteps profile → IssuedTagsAreFresh profile
    → SchedulesAreSteps profile may_recover boots servers
schedules_are profile may_recover boots servers accepted numbers taking releases fresh x before between many new may =
    are_steps profile may_recover boots servers accepted numbers taking new.few many releases fresh x before between new may
