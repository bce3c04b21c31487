-- A byte at a time, or four: each byte is looked up, and the other bits are shifted.
use Rattle.std.proofs.Common.{◌≡◌, ℕ, zero, suc, ◌+◌, ◌*◌, ◌/◌, ◌%◌, ◌^◌, ◌<◌, Bool, true, false, ◌&&◌, List, [], ◌∷◌, ◌++◌, drop, length, get_or, IsTrue, ◌⊎◌, inl, inr, refl, sym, ap, ◌∙◌, arith, nat_eq, if◌then◌else◌}
use Rattle.std.specs.Int.Bits.{bit_xor, xor_assoc, xor_self, xor_zero_l, xor_zero_r}
use Rattle.std.proofs.lemmas.Bool.{and_parts}
use Rattle.std.proofs.lemmas.Bool.Decides.{Decides-eqb}
use Rattle.std.proofs.lemmas.Nat.{pow_pos, xor_comm, xor_shr, xor_mod, xor_block, mod-pow-add}
use Rattle.std.proofs.Math.Nat.{pow-suc, mul_assoc}
use Rattle.std.proofs.lemmas.List.{drop_more}
use Rattle.zk_crc.specs.Crc.{polynomial, moved, moved_by, after_bits, after_byte, after_bytes}

-- ---- numbers without common bits

xor_apart : (k a r : ℕ) → r < 2 ^ k → bit_xor r (a * 2 ^ k) ≡ a * 2 ^ k + r
xor_apart k a r fits =
    let left : r ≡ 0 * 2 ^ k + r = omega arith in
    let right : a * 2 ^ k ≡ a * 2 ^ k + 0 = omega arith in
    ap (λ n. bit_xor n (a * 2 ^ k)) left ∙ ap (bit_xor (0 * 2 ^ k + r)) right ∙ xor_block k 0 a r 0 fits (pow_pos k)
    ∙ ap (λ n. n * 2 ^ k + bit_xor r 0) (xor_zero_l a) ∙ ap (λ n. a * 2 ^ k + n) (xor_zero_r r)

-- ---- one bit

move_even : (a h : ℕ) → moved (bit_xor a (h * 2)) ≡ bit_xor (moved a) h
unfolding moved
move_even a h =
    let low : bit_xor a (h * 2) % 2 ≡ a % 2 = xor_mod a (h * 2) 1 ∙ ap (bit_xor (a % 2)) (omega arith) ∙ xor_zero_r (a % 2) in
    let high : bit_xor a (h * 2) / 2 ≡ bit_xor (a / 2) h = xor_shr a (h * 2) 1 ∙ ap (bit_xor (a / 2)) (omega arith) in
    ap (λ n. if nat_eq n 1 then bit_xor polynomial (bit_xor a (h * 2) / 2) else bit_xor a (h * 2) / 2) low
    ∙ ap (λ n. if nat_eq (a % 2) 1 then bit_xor polynomial n else n) high
    ∙ elim (nat_eq (a % 2) 1) as (λ b. (if b then bit_xor polynomial (bit_xor (a / 2) h) else bit_xor (a / 2) h) ≡ bit_xor (if b then bit_xor polynomial (a / 2) else a / 2) h) [
      | true ↦ sym (xor_assoc polynomial (a / 2) h)
      | false ↦ refl
    ]

-- ---- several bits

-- bits that enter one by one can be added at the start
bits_at_once : (n r b : ℕ) → after_bits n r b ≡ moved_by n (bit_xor r (b % 2 ^ n))
bits_at_once zero r b = sym (ap (bit_xor r) (omega arith) ∙ xor_zero_r r)
bits_at_once (suc n) r b =
    let high = b / 2 % 2 ^ n in
    let lowest : b % 2 < 2 ^ 1 = omega arith in
    let all : bit_xor (b % 2) (high * 2) ≡ b % 2 ^ suc n = xor_apart 1 high (b % 2) lowest ∙ sym (mod-pow-add b n 1) ∙ ap (λ m. b % 2 ^ m) (omega arith) in
    bits_at_once n (moved (bit_xor r (b % 2))) (b / 2)
    ∙ ap (moved_by n) (sym (move_even (bit_xor r (b % 2)) high))
    ∙ ap (λ m. moved_by n (moved m)) (xor_assoc r (b % 2) (high * 2) ∙ ap (bit_xor r) all)

-- the bits above n are shifted down to 0
above_comes_down : (n a h : ℕ) → moved_by n (bit_xor a (h * 2 ^ n)) ≡ bit_xor (moved_by n a) h
above_comes_down zero a h = ap (bit_xor a) (omega arith)
above_comes_down (suc n) a h =
    let twice : h * 2 ^ suc n ≡ h * 2 ^ n * 2 = ap (λ m. h * m) (pow-suc 2 n) ∙ sym (mul_assoc h (2 ^ n) 2) in
    ap (λ m. moved_by n (moved (bit_xor a m))) twice
    ∙ ap (moved_by n) (move_even a (h * 2 ^ n))
    ∙ above_comes_down n (moved a) h

split_at_byte : (x : ℕ) → x ≡ bit_xor (x % 256) (x / 256 * 256)
split_at_byte x = let low : x % 256 < 2 ^ 8 = omega arith in sym (xor_apart 8 (x / 256) (x % 256) low ∙ omega arith)

-- ---- a byte

pub byte_looked_up : (register byte low looked : ℕ) → byte < 256 → low ≡ bit_xor (register % 256) byte → looked ≡ moved_by 8 low → bit_xor looked (register / 256) ≡ after_byte register byte
unfolding after_byte
byte_looked_up register byte low looked fits is found =
    let both = bit_xor register byte in
    let its_low : both % 256 ≡ low = xor_mod register byte 8 ∙ ap (bit_xor (register % 256)) (omega arith) ∙ sym is in
    let its_high : both / 256 ≡ register / 256 = xor_shr register byte 8 ∙ ap (bit_xor (register / 256)) (omega arith) ∙ xor_zero_r (register / 256) in
    sym (
    bits_at_once 8 register byte
    ∙ ap (λ b. moved_by 8 (bit_xor register b)) (omega arith)
    ∙ ap (moved_by 8) (split_at_byte both)
    ∙ above_comes_down 8 (both % 256) (both / 256)
    ∙ ap (λ l. bit_xor (moved_by 8 l) (both / 256)) its_low
    ∙ ap (bit_xor (moved_by 8 low)) its_high
    ∙ ap (λ l. bit_xor l (register / 256)) (sym found)
    )

-- ---- the register shifts as a sum of others does

moved_of_even : (a : ℕ) → a % 2 ≡ 0 → moved a ≡ a / 2
unfolding moved
moved_of_even a even = ap (λ n. if nat_eq n 1 then bit_xor polynomial (a / 2) else a / 2) even

moved_of_odd : (a : ℕ) → a % 2 ≡ 1 → moved a ≡ bit_xor polynomial (a / 2)
unfolding moved
moved_of_odd a odd = ap (λ n. if nat_eq n 1 then bit_xor polynomial (a / 2) else a / 2) odd

moved_sum : (a b : ℕ) → (a % 2 ≡ 0) ⊎ (a % 2 ≡ 1) → (b % 2 ≡ 0) ⊎ (b % 2 ≡ 1) → moved (bit_xor a b) ≡ bit_xor (moved a) (moved b)
moved_sum a b (inl even) (inl also) =
    let low : bit_xor a b % 2 ≡ 0 = xor_mod a b 1 ∙ ap (λ n. bit_xor n (b % 2)) even ∙ ap (bit_xor 0) also in
    moved_of_even (bit_xor a b) low ∙ xor_shr a b 1 ∙ sym (ap (λ n. bit_xor n (moved b)) (moved_of_even a even) ∙ ap (bit_xor (a / 2)) (moved_of_even b also))
moved_sum a b (inl even) (inr odd) =
    let low : bit_xor a b % 2 ≡ 1 = xor_mod a b 1 ∙ ap (λ n. bit_xor n (b % 2)) even ∙ ap (bit_xor 0) odd in
    moved_of_odd (bit_xor a b) low ∙ ap (bit_xor polynomial) (xor_shr a b 1) ∙ sym (xor_assoc polynomial (a / 2) (b / 2))
    ∙ ap (λ n. bit_xor n (b / 2)) (xor_comm polynomial (a / 2)) ∙ xor_assoc (a / 2) polynomial (b / 2)
    ∙ sym (ap (λ n. bit_xor n (moved b)) (moved_of_even a even) ∙ ap (bit_xor (a / 2)) (moved_of_odd b odd))
moved_sum a b (inr odd) (inl even) =
    let low : bit_xor a b % 2 ≡ 1 = xor_mod a b 1 ∙ ap (λ n. bit_xor n (b % 2)) odd ∙ ap (bit_xor 1) even in
    moved_of_odd (bit_xor a b) low ∙ ap (bit_xor polynomial) (xor_shr a b 1) ∙ sym (xor_assoc polynomial (a / 2) (b / 2))
    ∙ sym (ap (λ n. bit_xor n (moved b)) (moved_of_odd a odd) ∙ ap (bit_xor (bit_xor polynomial (a / 2))) (moved_of_even b even))
moved_sum a b (inr odd) (inr also) =
    let low : bit_xor a b % 2 ≡ 0 = xor_mod a b 1 ∙ ap (λ n. bit_xor n (b % 2)) odd ∙ ap (bit_xor 1) also in
    let twice : bit_xor (bit_xor polynomial (a / 2)) (bit_xor polynomial (b / 2)) ≡ bit_xor (a / 2) (b / 2) =
    ap (λ n. bit_xor n (bit_xor polynomial (b / 2))) (xor_comm polynomial (a / 2))
    ∙ xor_assoc (a / 2) polynomial (bit_xor polynomial (b / 2))
    ∙ ap (bit_xor (a / 2)) (sym (xor_assoc polynomial polynomial (b / 2)) ∙ ap (λ n. bit_xor n (b / 2)) (xor_self polynomial) ∙ xor_zero_l (b / 2)) in
    moved_of_even (bit_xor a b) low ∙ xor_shr a b 1
    ∙ sym (ap (λ n. bit_xor n (moved b)) (moved_of_odd a odd) ∙ ap (bit_xor (bit_xor polynomial (a / 2))) (moved_of_odd b also) ∙ twice)

parity : (a : ℕ) → (a % 2 ≡ 0) ⊎ (a % 2 ≡ 1)
parity a = grind (arith)

moved_by_sum : (n a b : ℕ) → moved_by n (bit_xor a b) ≡ bit_xor (moved_by n a) (moved_by n b)
moved_by_sum zero a b = refl
moved_by_sum (suc n) a b = ap (moved_by n) (moved_sum a b (parity a) (parity b)) ∙ moved_by_sum n (moved a) (moved b)

-- ---- a word

-- its lowest byte goes through all shifts, and the others through eight less
apart : (n word : ℕ) → moved_by n (moved_by 8 word) ≡ bit_xor (moved_by n (moved_by 8 (word % 256))) (moved_by n (word / 256))
apart n word =
    ap (λ w. moved_by n (moved_by 8 w)) (split_at_byte word) ∙ ap (moved_by n) (above_comes_down 8 (word % 256) (word / 256))
    ∙ moved_by_sum n (moved_by 8 (word % 256)) (word / 256)

pub word_looked_up : (word second third fourth a b c d : ℕ) → word < 2 ^ 32 → second ≡ word / 256 → third ≡ second / 256 → fourth ≡ third / 256
    → a ≡ moved_by 32 (word % 256) → b ≡ moved_by 24 (second % 256) → c ≡ moved_by 16 (third % 256) → d ≡ moved_by 8 fourth
    → bit_xor (bit_xor (bit_xor a b) c) d ≡ moved_by 32 word
word_looked_up word second third fourth a b c d fits two three four is_a is_b is_c is_d =
    let last : moved_by 16 third ≡ bit_xor c d = apart 8 third ∙ ap (λ n. bit_xor n (moved_by 8 (third / 256))) (sym is_c) ∙ ap (λ n. bit_xor c (moved_by 8 n)) (sym four) ∙ ap (bit_xor c) (sym is_d) in
    let later : moved_by 24 second ≡ bit_xor b (bit_xor c d) = apart 16 second ∙ ap (λ n. bit_xor n (moved_by 16 (second / 256))) (sym is_b) ∙ ap (λ n. bit_xor b (moved_by 16 n)) (sym three) ∙ ap (bit_xor b) last in
    let all : moved_by 32 word ≡ bit_xor a (bit_xor b (bit_xor c d)) = apart 24 word ∙ ap (λ n. bit_xor n (moved_by 24 (word / 256))) (sym is_a) ∙ ap (λ n. bit_xor a (moved_by 24 n)) (sym two) ∙ ap (bit_xor a) later in
    ap (λ n. bit_xor n d) (xor_assoc a b c) ∙ xor_assoc a (bit_xor b c) d ∙ ap (bit_xor a) (xor_assoc b c d) ∙ sym all

-- ---- four bytes that enter together

entered : (register byte : ℕ) → byte < 256 → after_byte register byte ≡ moved_by 8 (bit_xor register byte)
unfolding after_byte
entered register byte fits = bits_at_once 8 register byte ∙ ap (λ b. moved_by 8 (bit_xor register b)) (omega (arith, fits))

-- a byte that enters after n shifts can be added before them
earlier : (n register byte : ℕ) → byte < 256 → after_byte (moved_by n register) byte ≡ moved_by 8 (moved_by n (bit_xor register (byte * 2 ^ n)))
earlier n register byte fits = entered (moved_by n register) byte fits ∙ ap (moved_by 8) (sym (above_comes_down n register byte))

pub four_at_once : (register a b c d word : ℕ) → a < 256 → b < 256 → c < 256 → d < 256 → word ≡ a + 256 * b + 65536 * c + 16777216 * d
    → after_byte (after_byte (after_byte (after_byte register a) b) c) d ≡ moved_by 32 (bit_xor register word)
four_at_once register a b c d word fit_a fit_b fit_c fit_d is =
    let two : bit_xor a (b * 2 ^ 8) ≡ b * 2 ^ 8 + a = xor_apart 8 b a (omega (arith, fit_a)) in
    let three : bit_xor (b * 2 ^ 8 + a) (c * 2 ^ 16) ≡ c * 2 ^ 16 + (b * 2 ^ 8 + a) = xor_apart 16 c (b * 2 ^ 8 + a) (omega (arith, fit_a, fit_b)) in
    let four : bit_xor (c * 2 ^ 16 + (b * 2 ^ 8 + a)) (d * 2 ^ 24) ≡ d * 2 ^ 24 + (c * 2 ^ 16 + (b * 2 ^ 8 + a)) = xor_apart 24 d (c * 2 ^ 16 + (b * 2 ^ 8 + a)) (omega (arith, fit_a, fit_b, fit_c)) in
    let whole : d * 2 ^ 24 + (c * 2 ^ 16 + (b * 2 ^ 8 + a)) ≡ word = omega (arith, is) in
    let first : after_byte register a ≡ moved_by 8 (bit_xor register a) = entered register a fit_a in
    let second : after_byte (after_byte register a) b ≡ moved_by 16 (bit_xor register (b * 2 ^ 8 + a)) =
    ap (λ r. after_byte r b) first ∙ earlier 8 (bit_xor register a) b fit_b ∙ ap (moved_by 16) (xor_assoc register a (b * 2 ^ 8) ∙ ap (bit_xor register) two) in
    let third : after_byte (after_byte (after_byte register a) b) c ≡ moved_by 24 (bit_xor register (c * 2 ^ 16 + (b * 2 ^ 8 + a))) =
    ap (λ r. after_byte r c) second ∙ earlier 16 (bit_xor register (b * 2 ^ 8 + a)) c fit_c ∙ ap (moved_by 24) (xor_assoc register (b * 2 ^ 8 + a) (c * 2 ^ 16) ∙ ap (bit_xor register) three) in
    ap (λ r. after_byte r d) third ∙ earlier 24 (bit_xor register (c * 2 ^ 16 + (b * 2 ^ 8 + a))) d fit_d
    ∙ ap (moved_by 32) (xor_assoc register (c * 2 ^ 16 + (b * 2 ^ 8 + a)) (d * 2 ^ 24) ∙ ap (bit_xor register) (four ∙ whole))

-- a word of a text
pub word_more : (register next after at more : ℕ) (xs : List ℕ) → at + 3 < length xs → ((i : ℕ) → get_or xs i 0 < 256)
    → next ≡ get_or xs at 0 + 256 * get_or xs (at + 1) 0 + 65536 * get_or xs (at + 2) 0 + 16777216 * get_or xs (at + 3) 0
    → after ≡ moved_by 32 (bit_xor register next) → more ≡ at + 4 → after_bytes after (drop more xs) ≡ after_bytes register (drop at xs)
unfolding after_bytes
word_more register next after at more xs within fits is gives on =
    let a = get_or xs at 0 in
    let b = get_or xs (at + 1) 0 in
    let c = get_or xs (at + 2) 0 in
    let d = get_or xs (at + 3) 0 in
    let two : at + 1 + 1 ≡ at + 2 = omega arith in
    let three : at + 2 + 1 ≡ at + 3 = omega arith in
    let four : at + 3 + 1 ≡ more = omega (arith, on) in
    let last : drop (at + 3) xs ≡ d ∷ drop more xs = drop_more xs (at + 3) 0 within ∙ ap (λ n. d ∷ drop n xs) four in
    let later : drop (at + 2) xs ≡ c ∷ d ∷ drop more xs = drop_more xs (at + 2) 0 (omega (arith, within)) ∙ ap (λ n. c ∷ drop n xs) three ∙ ap (λ l. c ∷ l) last in
    let after_first : drop (at + 1) xs ≡ b ∷ c ∷ d ∷ drop more xs = drop_more xs (at + 1) 0 (omega (arith, within)) ∙ ap (λ n. b ∷ drop n xs) two ∙ ap (λ l. b ∷ l) later in
    let whole : drop at xs ≡ a ∷ b ∷ c ∷ d ∷ drop more xs = drop_more xs at 0 (omega (arith, within)) ∙ ap (λ l. a ∷ l) after_first in
    ap (λ r. after_bytes r (drop more xs)) (gives ∙ sym (four_at_once register a b c d next (fits at) (fits (at + 1)) (fits (at + 2)) (fits (at + 3)) is))
    ∙ sym (ap (after_bytes register) whole)

-- ---- the tables

-- the entry of each byte is the byte after n shifts
abbrev pub is_table : ℕ → ℕ → List ℕ → Bool
is_table n from [] = true
is_table n from (x ∷ xs) = nat_eq x (moved_by n from) && is_table n (suc from) xs

pub looked_up : (n from : ℕ) (xs : List ℕ) (i : ℕ) → IsTrue (is_table n from xs) → i < length xs → get_or xs i 0 ≡ moved_by n (from + i)
looked_up n from [] i all within = absurd (omega (arith, within))
looked_up n from (x ∷ xs) zero all within = (Decides-eqb x (moved_by n from)).0 (and_parts _ _ all).0 ∙ ap (moved_by n) (omega arith)
looked_up n from (x ∷ xs) (suc i) all within = looked_up n (suc from) xs i (and_parts _ _ all).1 (omega (arith, within)) ∙ ap (moved_by n) (omega arith)

pub table_entry : (n : ℕ) (xs : List ℕ) (place low : ℕ) → IsTrue (is_table n 0 xs) → place ≡ low → low < length xs → get_or xs place 0 ≡ moved_by n low
table_entry n xs place low all same within = ap (λ i. get_or xs i 0) same ∙ looked_up n 0 xs low all within ∙ ap (moved_by n) (omega arith)

-- ---- concatenated texts

pub after_bytes-append : (register : ℕ) (xs ys : List ℕ) → after_bytes register (xs ++ ys) ≡ after_bytes (after_bytes register xs) ys
unfolding after_bytes
after_bytes-append register [] ys = refl
after_bytes-append register (x ∷ xs) ys = after_bytes-append (after_byte register x) xs ys

pub behind : (register first second : ℕ) (xs ys : List ℕ) → first ≡ after_bytes register xs → second ≡ after_bytes first ys → second ≡ after_bytes register (xs ++ ys)
behind register first second xs ys one two = two ∙ ap (λ r. after_bytes r ys) one ∙ sym (after_bytes-append register xs ys)
