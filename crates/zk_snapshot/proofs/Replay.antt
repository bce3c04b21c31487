-- Writes that overwrite cells may be applied twice.
use Rattle.std.proofs.Common.{◌≡◌, ◌≤◌, ℕ, zero, suc, List, [], ◌∷◌, Bool, true, false, cond, take, min, refl, sym, ap, subst, ◌∙◌, arith}
use Rattle.zk_snapshot.specs.Fuzzy.{Cell, is_cell, Cells, written, after, IsSeenWithin}

-- cells that agree at one cell still do after the same writes
agree_by : (b : Bool) (value x y : List ℕ) → x ≡ y → cond b value x ≡ cond b value y
agree_by true value x y e = refl
agree_by false value x y e = e

agree : (one other : Cells) (writes : List (Cell × List ℕ)) (cell : Cell) → one cell ≡ other cell → after one writes cell ≡ after other writes cell
unfolding after
agree one other [] cell e = e
agree one other (write ∷ writes) cell e =
    agree (written write one) (written write other) writes cell (agree_by (is_cell write.0 cell) write.1 (one cell) (other cell) e)

untouched : (write : Cell × List ℕ) (cells : Cells) (cell : Cell) → is_cell write.0 cell ≡ false → written write cells cell ≡ cells cell
untouched write cells cell other = rw other refl

touched : (write : Cell × List ℕ) (one other : Cells) (cell : Cell) → is_cell write.0 cell ≡ true → written write one cell ≡ written write other cell
touched write one other cell same = rw same refl

step : (b : Bool) (start snapshot : Cells) (write : Cell × List ℕ) (writes : List (Cell × List ℕ)) (moment : ℕ) (cell : Cell) → is_cell write.0 cell ≡ b
    → ((seen : Cells) → seen cell ≡ after (written write start) (take moment writes) cell → after seen writes cell ≡ after (written write start) writes cell)
    → snapshot cell ≡ after (written write start) (take moment writes) cell → after (written write snapshot) writes cell ≡ after (written write start) writes cell
step true start snapshot write writes moment cell same later e =
    agree (written write snapshot) (written write start) writes cell (touched write snapshot start cell same)
step false start snapshot write writes moment cell same later e =
    later (written write snapshot) (untouched write snapshot cell same ∙ e)

again : (start snapshot : Cells) (writes : List (Cell × List ℕ)) (moment : ℕ) (cell : Cell) → snapshot cell ≡ after start (take moment writes) cell → after snapshot writes cell ≡ after start writes cell
unfolding after
again start snapshot [] zero cell e = e
again start snapshot [] (suc moment) cell e = e
again start snapshot (write ∷ writes) zero cell e = agree snapshot start (write ∷ writes) cell e
again start snapshot (write ∷ writes) (suc moment) cell e =
    step (is_cell write.0 cell) start snapshot write writes moment cell refl (λ seen f. again (written write start) seen writes moment cell f) e

-- a prefix of a prefix
pub taken : (m n : ℕ) (writes : List (Cell × List ℕ)) → m ≤ n → take m (take n writes) ≡ take m writes
taken zero n writes le = refl
taken (suc m) zero writes le = absurd (omega (arith, le))
taken (suc m) (suc n) [] le = refl
taken (suc m) (suc n) (write ∷ writes) le = ap (λ (ws : List (Cell × List ℕ)). write ∷ ws) (taken m n writes (omega (arith, le)))

pub replay_is_exact : (start snapshot : Cells) (writes : List (Cell × List ℕ)) (window n : ℕ) → IsSeenWithin start writes window snapshot → window ≤ n → (cell : Cell) → after snapshot (take n writes) cell ≡ after start (take n writes) cell
replay_is_exact start snapshot writes window n is le cell =
    let within : is.moment cell ≤ n = omega (arith, is.within cell, le) in
    again start snapshot (take n writes) (is.moment cell) cell (is.seen cell ∙ ap (λ (ws : List (Cell × List ℕ)). after start ws cell) (sym (taken (is.moment cell) n writes within)))
