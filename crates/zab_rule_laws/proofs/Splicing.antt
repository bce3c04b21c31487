-- A history that continues a prefix of another.
use Rattle.std.proofs.Common.{◌≡◌, ℕ, ℤ, pos, int_lt, Bool, true, false, cond, List, [], ◌∷◌, ◌++◌, length, drop, Some, refl, sym, ap, subst, ◌∙◌, arith}
use Rattle.std.specs.Ordering.{int_eq}
use Rattle.std.proofs.lemmas.Bool.Decides.{nat_tests}
use Rattle.std.proofs.lemmas.Int.{ints}
use Rattle.zab_epoch.specs.declared.history.Entry.{Entry}
use Rattle.zab_epoch.specs.Entries.{last_zxid, up_to, rises_above}
use Rattle.zab_epoch.specs.Rules.{goes_on, meant}
use Rattle.zab_laws.specs.Prefixes.{IsPrefix, last_key}
use Rattle.zab_laws.specs.Cores as laws
use Rattle.zab_laws.proofs.PrefixLaws.{prefix_trans, prefix_append}
use Rattle.zab_laws.proofs.Splicing.{same_last}
use Rattle.zab_rule_laws.specs.Told.{zxid_key, GoesOn}
use Rattle.zab_rule_laws.proofs.Common.{both_true}
use Rattle.zab_rule_laws.proofs.Electing.{last_same}

-- the front up to a zxid, and what follows it
pub in_two : (zxid : ℤ) (h : List Entry) → up_to zxid h ++ drop (length (up_to zxid h)) h ≡ h
in_two zxid [] = refl
in_two zxid (x ∷ h) = by_case (int_lt zxid x.txn.zxid) (in_two zxid h)
  where
    by_case : (b : Bool) → up_to zxid h ++ drop (length (up_to zxid h)) h ≡ h → cond b [] (x ∷ up_to zxid h) ++ drop (length (cond b [] (x ∷ up_to zxid h))) (x ∷ h) ≡ x ∷ h
    by_case true e = refl
    by_case false e = ap (λ l. x ∷ l) e

pub front_of_it : (zxid : ℤ) (h : List Entry) → IsPrefix (up_to zxid h) h
front_of_it zxid h = record { rest = drop (length (up_to zxid h)) h; is = in_two zxid h }

is_equal : (a b : ℤ) → int_eq a b ≡ true → a ≡ b
is_equal a b e = grind (arith, nat_tests, ints)

-- what the leader sends of its history
pub tells_it : (g : laws.Ghost Entry) (epoch : ℕ) (h : List Entry) (last : ℤ) → laws.IsOfLeader g epoch h → GoesOn g epoch (last_zxid (up_to last h)) (drop (length (up_to last h)) h)
tells_it g epoch h last of = record {
  kept = up_to last h;
  ends = sym (last_same (up_to last h));
  of = subst (laws.IsOfLeader g epoch) (sym (in_two last h)) of;
}

-- what a follower makes of it is what the leader had
pub meant_is : (k : laws.Setting Entry) (g : laws.Ghost Entry) → k.key ≡ zxid_key → laws.AreFacts k g → (s current epoch : ℕ) (own : List Entry) (keep : ℤ) (rest : List Entry) → g.held s current ≡ Some own → GoesOn g epoch keep rest → goes_on own keep rest ≡ true → laws.IsOfLeader g epoch (meant own keep rest)
meant_is k g keys facts s current epoch own keep rest held told test =
    let at : last_zxid (up_to keep own) ≡ keep = is_equal (last_zxid (up_to keep own)) keep (both_true (int_eq (last_zxid (up_to keep own)) keep) (rises_above keep rest) test).0 in
    let mine : last_key zxid_key (pos 0) (up_to keep own) ≡ keep = sym (last_same (up_to keep own)) ∙ at in
    let o = told.of in
    let within : IsPrefix told.kept o.longest = prefix_trans told.kept (told.kept ++ rest) o.longest (prefix_append told.kept rest) o.within in
    let one : up_to keep own ≡ told.kept = same_last k g facts s current o.began.leader epoch own o.longest (up_to keep own) told.kept held o.longest_is (front_of_it keep own) within
    (subst (λ key. last_key key (pos 0) (up_to keep own) ≡ last_key key (pos 0) told.kept) (sym keys) (mine ∙ sym told.ends)) in
    subst (λ (l : List Entry). laws.IsOfLeader g epoch (l ++ rest)) (sym one) o
