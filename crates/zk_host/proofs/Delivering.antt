-- Entries that are delivered some at a time.
use Rattle.std.proofs.Common.{◌≡◌, ◌∙◌, ℕ, zero, suc, ◌+◌, ◌≤◌, List, [], ◌∷◌, length, take, drop, refl, sym, ap, arith}
use Rattle.std.proofs.Math.ListN.{drop_of_length-le}
use Rattle.zab_epoch.specs.declared.history.Entry.{Entry}
use Rattle.zk_host.specs.WatchedTrees.{WatchedTreeView, after_entries}

both : (n : ℕ) (entries : List Entry) (it : WatchedTreeView) → after_entries (after_entries it (take n entries)) (drop n entries) ≡ after_entries it entries
both zero entries it = refl
both (suc n) [] it = refl
both (suc n) (entry ∷ entries) it = both n entries _

no_more : (n : ℕ) → drop {A = Entry} n [] ≡ []
no_more zero = refl
no_more (suc n) = refl

later : (m n : ℕ) (entries : List Entry) → drop (m + n) entries ≡ drop n (drop m entries)
later zero n entries = (let same : zero + n ≡ n = omega arith in ap (λ k. drop k entries) same)
later (suc m) n [] = no_more (suc m + n) ∙ sym (no_more n)
later (suc m) n (entry ∷ entries) =
    (let next : suc m + n ≡ suc (m + n) = omega arith in
    ap (λ k. drop k (entry ∷ entries)) next ∙ later m n entries)

pub some_more : (done many : ℕ) (entries : List Entry) (now then whole : WatchedTreeView) → then ≡ after_entries now (take many (drop done entries)) → after_entries now (drop done entries) ≡ whole → after_entries then (drop (done + many) entries) ≡ whole
some_more done many entries now then whole is so_far =
    ap (λ (it : WatchedTreeView). after_entries it (drop (done + many) entries)) is
    ∙ ap (after_entries (after_entries now (take many (drop done entries)))) (later done many entries)
    ∙ both many (drop done entries) now ∙ so_far

pub nothing_left : (done : ℕ) (entries : List Entry) (now whole : WatchedTreeView) → length entries ≤ done → after_entries now (drop done entries) ≡ whole → now ≡ whole
nothing_left done entries now whole ended so_far = sym (ap (after_entries now) (drop_of_length-le entries ended)) ∙ so_far
