-- Entries borrowed as tags and transactions.
use Rattle.std.proofs.Common.{◌≡◌, ℕ, zero, suc, ◌+◌, ◌<◌, List, [], ◌∷◌, length, drop, get_or, refl, sym, ap, ◌∙◌, arith}
use Rattle.zab_epoch.specs.declared.history.Entry.{Entry}
use Rattle.zab_epoch.specs.Entries.{tags_of, txns_of}
use Rattle.zk_table.specs.declared.txn.Txn.{Txn}

pub as_many_tags : (entries : List Entry) → length (tags_of entries) ≡ length entries
as_many_tags [] = refl
as_many_tags (x ∷ entries) = ap (λ n. suc n) (as_many_tags entries)

pub as_many_txns : (entries : List Entry) → length (txns_of entries) ≡ length entries
as_many_txns [] = refl
as_many_txns (x ∷ entries) = ap (λ n. suc n) (as_many_txns entries)

from_there : (entries : List Entry) (i : ℕ) (txn : Txn) → i < length entries → txn ≡ get_or (txns_of entries) i txn → drop i entries ≡ record { tag = get_or (tags_of entries) i 0; txn = txn } ∷ drop (suc i) entries
from_there [] i txn below is = absurd (omega (arith, below))
from_there (x ∷ entries) zero txn below is = ap (λ (y : Txn). record { tag = x.tag; txn = y } ∷ entries) (sym is)
from_there (x ∷ entries) (suc i) txn below is = from_there entries i txn (omega (arith, below)) is

-- the entry at a position, and those after it
pub next_one : (entries : List Entry) (tags : List ℕ) (txns : List Txn) (i : ℕ) (txn : Txn) → tags ≡ tags_of entries → txns ≡ txns_of entries → i < length entries → txn ≡ get_or txns i txn → drop i entries ≡ record { tag = get_or tags i 0; txn = txn } ∷ drop (i + 1) entries
next_one entries tags txns i txn tags_are txns_are below is =
    (let after : suc i ≡ i + 1 = omega arith in
    from_there entries i txn below (is ∙ ap (λ (l : List Txn). get_or l i txn) txns_are)
    ∙ ap (λ k. record { tag = get_or (tags_of entries) i 0; txn = txn } ∷ drop k entries) after
    ∙ ap (λ (l : List ℕ). record { tag = get_or l i 0; txn = txn } ∷ drop (i + 1) entries) (sym tags_are))
