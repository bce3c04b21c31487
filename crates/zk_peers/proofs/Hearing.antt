-- A host receives one message more.
use Rattle.std.proofs.Common.{◌≡◌, ◌≢◌, ◌<◌, ◌≤◌, ◌+◌, ◌==◌, ◌&&◌, not, ℕ, zero, suc, Bool, true, false, cond, List, [], ◌∷◌, ◌++◌, length, take, filter, slice_get, Option, Some, None, Result, Ok, Err, refl, sym, ap, ◌∙◌, subst, arith}
use Rattle.std.proofs.lemmas.Bool.Decides.{nat_tests}
use Rattle.std.proofs.lemmas.List.Elements.{filter-append}
use Rattle.std.proofs.lemmas.List.{take_all}
use Rattle.zab_broadcast.specs.Calls.{Setting}
use Rattle.zab_epoch.specs.declared.message.Message.{Message}
use Rattle.zab_epoch.specs.declared.stable.Stable.{Stable}
use Rattle.zab_host.specs.declared.fault.HostFault.{HostFault}
use Rattle.zab_host.specs.declared.fault.HostFault.TheVariants as host_faults
use Rattle.zab_host.specs.Hosts as hosts
use Rattle.zk_host.specs.declared.replica_host.ReplicaHost.{ReplicaHost}
use Rattle.zk_requests.specs.declared.call.Call.{Call}
use Rattle.zk_peers.specs.declared.cut.Cut.{Cut}
use Rattle.zk_peers.specs.Hosts.{Takes, Hears, HearsAll}
use Rattle.zk_peers.specs.Links.{is_cut, arrives, mail_for, listed}

-- ---- lists

take_more : {A : Type 0} (xs : List A) (i : ℕ) → take (suc i) xs ≡ take i xs ++ listed (slice_get xs i)
take_more [] zero = refl
take_more [] (suc i) = refl
take_more (x ∷ xs) zero = refl
take_more (x ∷ xs) (suc i) = ap (λ (l : List _). x ∷ l) (take_more xs i)

-- ---- one message

not_addressed : (cuts : List Cut) (server : ℕ) (message : Message Call) → message.addressee ≢ server → arrives cuts server message ≡ false
not_addressed cuts server message other = grind (arith, nat_tests)

over_cut : (cuts : List Cut) (server : ℕ) (message : Message Call) → is_cut cuts message.sender server ≡ true → arrives cuts server message ≡ false
over_cut cuts server message cut = grind (arith, nat_tests)

addressed : (cuts : List Cut) (server : ℕ) (message : Message Call) → message.addressee ≡ server → is_cut cuts message.sender server ≡ false → arrives cuts server message ≡ true
addressed cuts server message mine whole = grind (arith, nat_tests)

module _ {S : Type 0} (may_recover : S → Stable → Type 0) (boots : S → ℕ) (setting : Setting Call) where
  pub hears : (message : Message Call) (old new : ReplicaHost S) (result : Result (Unit {0}) HostFault) → result ≢ Err host_faults.NoMemory
      → Takes may_recover boots setting (hosts.Receives message) old new result → Hears may_recover boots setting message old new
  hears message old new result memory takes = record { result = result; memory = memory; takes = takes }

  all_then : (a b : List (Message Call)) (old mid new : ReplicaHost S) → HearsAll may_recover boots setting a old mid → HearsAll may_recover boots setting b mid new → HearsAll may_recover boots setting (a ++ b) old new
  all_then [] b old mid new first later = subst (λ (it : ReplicaHost S). HearsAll may_recover boots setting b it new) first later
  all_then (x ∷ a) b old mid new first later = (first.0, first.1, all_then a b first.0 mid new first.2 later)

  module _ (cuts : List Cut) (server : ℕ) (old new : ReplicaHost S) where
    by_mail : (found : Option (Message Call)) (mail : List (Message Call)) → mail_for cuts server (listed found) ≡ mail → HearsAll may_recover boots setting mail old new
        → HearsAll may_recover boots setting (mail_for cuts server (listed found)) old new
    by_mail found mail is heard = subst (λ (l : List (Message Call)). HearsAll may_recover boots setting l old new) (sym is) heard

    one_mail : (message : Message Call) (b : Bool) → arrives cuts server message ≡ b → mail_for cuts server (message ∷ []) ≡ cond b (message ∷ []) []
    one_mail message b is = ap (λ (c : Bool). cond c (message ∷ []) []) is

    module _ (mail : List (Message Call)) (index : ℕ) where
      pub hears_none : None ≡ slice_get mail index → new ≡ old → HearsAll may_recover boots setting (mail_for cuts server (listed (slice_get mail index))) old new
      hears_none is same = subst (λ (o : Option (Message Call)). HearsAll may_recover boots setting (mail_for cuts server (listed o)) old new) is same

      found_mail : (message : Message Call) (mail' : List (Message Call)) → Some message ≡ slice_get mail index → mail_for cuts server (message ∷ []) ≡ mail' → HearsAll may_recover boots setting mail' old new
          → HearsAll may_recover boots setting (mail_for cuts server (listed (slice_get mail index))) old new
      found_mail message mail' is those heard =
          subst (λ (o : Option (Message Call)). HearsAll may_recover boots setting (mail_for cuts server (listed o)) old new) is (by_mail (Some message) mail' those heard)

      pub hears_other : (message : Message Call) → Some message ≡ slice_get mail index → message.addressee ≢ server → new ≡ old
          → HearsAll may_recover boots setting (mail_for cuts server (listed (slice_get mail index))) old new
      hears_other message is other same = found_mail message [] is (one_mail message false (not_addressed cuts server message other)) same

      pub hears_cut : (message : Message Call) → Some message ≡ slice_get mail index → is_cut cuts message.sender server ≡ true → new ≡ old
          → HearsAll may_recover boots setting (mail_for cuts server (listed (slice_get mail index))) old new
      hears_cut message is cut same = found_mail message [] is (one_mail message false (over_cut cuts server message cut)) same

      pub hears_own : (message : Message Call) → Some message ≡ slice_get mail index → message.addressee ≡ server → is_cut cuts message.sender server ≡ false
          → Hears may_recover boots setting message old new → HearsAll may_recover boots setting (mail_for cuts server (listed (slice_get mail index))) old new
      hears_own message is mine whole heard =
          found_mail message (message ∷ []) is (one_mail message true (addressed cuts server message mine whole)) (new, heard, refl)

  -- ---- all messages

  pub hears_more : (cuts : List Cut) (server : ℕ) (mail : List (Message Call)) (index : ℕ) (old mid new : ReplicaHost S)
      → HearsAll may_recover boots setting (mail_for cuts server (take index mail)) old mid
      → HearsAll may_recover boots setting (mail_for cuts server (listed (slice_get mail index))) mid new
      → HearsAll may_recover boots setting (mail_for cuts server (take (index + 1) mail)) old new
  hears_more cuts server mail index old mid new first later =
      let one_more : suc index ≡ index + 1 = omega arith in
      subst (λ (l : List (Message Call)). HearsAll may_recover boots setting l old new)
      (sym (filter-append (arrives cuts server) (take index mail) (listed (slice_get mail index)))
      ∙ ap (mail_for cuts server) (sym (take_more mail index) ∙ ap (λ (n : ℕ). take n mail) one_more))
      (all_then (mail_for cuts server (take index mail)) (mail_for cuts server (listed (slice_get mail index))) old mid new first later)

  pub hears_whole : (cuts : List Cut) (server : ℕ) (mail : List (Message Call)) (index : ℕ) (old new : ReplicaHost S) → length mail ≤ index
      → HearsAll may_recover boots setting (mail_for cuts server (take index mail)) old new
      → HearsAll may_recover boots setting (mail_for cuts server mail) old new
  hears_whole cuts server mail index old new whole heard =
      subst (λ (l : List (Message Call)). HearsAll may_recover boots setting (mail_for cuts server l) old new) (take_all index mail whole) heard
