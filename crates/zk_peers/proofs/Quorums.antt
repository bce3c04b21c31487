-- The servers that a server hears.
use Rattle.std.proofs.Common.{◌≡◌, ◌<◌, ◌≤◌, ◌+◌, ◌-◌, ◌*◌, ◌==◌, ◌&&◌, nat_lt, ℕ, suc, Bool, true, false, cond, List, [], ◌∷◌, length, drop, get_or, refl, sym, ap, ◌∙◌, arith}
use Rattle.std.proofs.lemmas.Bool.Decides.{nat_tests}
use Rattle.std.proofs.lemmas.List.{drop_more, drop_all}
use Rattle.std.proofs.lemmas.List.Sums.{sum_by-cons}
use Rattle.zab_epoch.specs.Quorums.{marked, is_majority}
use Rattle.zk_peers.specs.declared.cut.Cut.{Cut}
use Rattle.zk_peers.specs.declared.place.Place.{Place}
use Rattle.zk_peers.specs.Peers.{is_heard, heard_by}

marked_cons : (mark : Bool) (marks : List Bool) → marked (mark ∷ marks) ≡ cond mark 1 0 + marked marks
marked_cons mark marks = sum_by-cons (λ it. cond it 1 0) mark marks

module _ {S : Type 0} (cuts : List Cut) (server : ℕ) (places : List (Place S)) where
  -- the servers from a place on
  from_place : (index : ℕ) (place : Place S) (mark : Bool) → index < length places → place ≡ get_or places index place → is_heard cuts server (index + 1) place ≡ mark
      → marked (heard_by cuts server (index + 1) (drop index places)) ≡ cond mark 1 0 + marked (heard_by cuts server (index + 1 + 1) (drop (index + 1) places))
  from_place index place mark below is heard =
      ap (λ (l : List (Place S)). marked (heard_by cuts server (index + 1) l)) (drop_more places index place below)
      ∙ ap (λ (p : Place S). marked (heard_by cuts server (index + 1) (p ∷ drop (index + 1) places))) (sym is)
      ∙ marked_cons (is_heard cuts server (index + 1) place) (heard_by cuts server (index + 1 + 1) (drop (index + 1) places))
      ∙ ap (λ (b : Bool). cond b 1 0 + marked (heard_by cuts server (index + 1 + 1) (drop (index + 1) places))) heard

  pub heard_yes : (index count total : ℕ) (place : Place S) → index < length places → place ≡ get_or places index place → is_heard cuts server (index + 1) place ≡ true
      → count + marked (heard_by cuts server (index + 1) (drop index places)) ≡ total
      → (count + 1) + marked (heard_by cuts server (index + 1 + 1) (drop (index + 1) places)) ≡ total
  heard_yes index count total place below is heard before = let here = from_place index place true below is heard in omega arith

  pub heard_no : (index count total : ℕ) (place : Place S) → index < length places → place ≡ get_or places index place → is_heard cuts server (index + 1) place ≡ false
      → count + marked (heard_by cuts server (index + 1) (drop index places)) ≡ total
      → count + marked (heard_by cuts server (index + 1 + 1) (drop (index + 1) places)) ≡ total
  heard_no index count total place below is heard before = let here = from_place index place false below is heard in omega arith

  pub heard_all : (index count total : ℕ) → length places ≤ index → count + marked (heard_by cuts server (index + 1) (drop index places)) ≡ total → count ≡ total
  heard_all index count total all before =
      let none = ap (λ (l : List (Place S)). marked (heard_by cuts server (index + 1) l)) (drop_all index places all) in omega arith

as_many : {S : Type 0} (cuts : List Cut) (server at : ℕ) (places : List (Place S)) → length (heard_by cuts server at places) ≡ length places
as_many cuts server at [] = refl
as_many cuts server at (place ∷ places) = ap (λ n. suc n) (as_many cuts server (at + 1) places)

module _ {S : Type 0} (cuts : List Cut) (server heard : ℕ) (places : List (Place S)) where
  pub is_quorum : heard ≡ marked (heard_by cuts server 1 places) → length places - heard < heard → heard ≤ length places → is_majority (length places) (heard_by cuts server 1 places) ≡ true
  is_quorum is many within = let all = as_many cuts server 1 places in grind (arith, nat_tests)

  pub no_quorum : heard ≡ marked (heard_by cuts server 1 places) → heard ≤ length places - heard → is_majority (length places) (heard_by cuts server 1 places) ≡ false
  no_quorum is few = grind (arith, nat_tests)
