-- The text between quotes, character by character.
use Rattle.std.proofs.Common.{◌≡◌, ◌≢◌, ℕ, zero, suc, ◌+◌, ◌≤◌, ◌<◌, Bool, true, false, cond, eqb, ltb, ◌||◌, ◌&&◌, List, [], ◌∷◌, ◌++◌, length, take, drop, get_or, Option, Some, None, refl, sym, ap, subst, ◌∙◌, append_assoc, length-append, arith, inl, inr}
use Rattle.std.specs.Char.{is_ascii_control}
use Rattle.std.specs.List.{position, position_or_len, before_first, after_first}
use Rattle.std.specs.Str.{IsUtf8, IsCharBoundary}
use Rattle.std.specs.Option.{option_and_then, unwrap_or}
use Rattle.std.proofs.lemmas.Bool.{cases_lt, lt-ltb, le-ltb, ltb-true}
use Rattle.std.proofs.lemmas.Bool.Decides.{nat_tests}
use Rattle.std.proofs.lemmas.List.{length-drop}
use Rattle.std.proofs.lemmas.Option.{cond_some}
use Rattle.std.proofs.lemmas.List.Sums.{prefix_len-le-length}
use Rattle.std.proofs.lemmas.Str.{IsCharBoundary-before_ascii, IsCharBoundary-end, encode_ascii, length-encode, len_utf8_bounds}
use lib.Utf8.{encode}
use Rattle.zk_listing.specs.Reading.{inside_at, inside, escape_at, braced_at, control_at, control_from, lower_digit, is_brace, past, behind, Fails}
use Rattle.zk_listing.specs.declared.list_fault.ListCause.{ListCause}
use Rattle.zk_listing.specs.declared.list_fault.ListCause.TheVariants as causes
use Rattle.zk_listing.proofs.Exact.{bind_some, past_is, first_is, second_is, some_is}
use Rattle.zk_format.specs.Spelling.{is_escaped}
use Rattle.zk_format.proofs.QuotedBytes.{AllHigh, encode_high}

-- ---- prepending

pub behind-nil : {X : Type 0} (read : Option (List X × List ℕ)) → behind [] read ≡ read
behind-nil None = refl
behind-nil (Some x) = refl

pub behind-behind : {X : Type 0} (xs ys : List X) (read : Option (List X × List ℕ)) → behind xs (behind ys read) ≡ behind (xs ++ ys) read
behind-behind xs ys None = refl
behind-behind xs ys (Some x) = ap (λ zs. Some (zs, x.1)) (sym (append_assoc xs ys x.0))

-- ---- the first character

one_byte : (bytes rest : List ℕ) (c : ℕ) → bytes ≡ encode c ++ rest → c < 128 → bytes ≡ c ∷ rest
one_byte bytes rest c e small = e ∙ ap (λ xs. xs ++ rest) (encode_ascii c small)

-- a text that starts with a character outside ASCII
first_byte : (xs rest : List ℕ) → AllHigh xs → 0 < length xs → (b : ℕ) × (bs : List ℕ) × (128 ≤ b) × (xs ++ rest ≡ b ∷ bs)
first_byte [] rest h long = absurd (omega arith)
first_byte (b ∷ bs) rest h long = (b, bs ++ rest, h.0, refl)

-- ---- escapes

-- a byte other than the three
escape_other_byte : (b : ℕ) (bs : List ℕ) → b ≢ 34 → b ≢ 92 → b ≢ 117 → escape_at (b ∷ bs) ≡ None
unfolding escape_at
escape_other_byte b bs no_quote no_slash no_u =
    let one : eqb b 34 ≡ false = grind (arith, nat_tests) in
    let two : eqb b 92 ≡ false = grind (arith, nat_tests) in
    let three : eqb b 117 ≡ false = grind (arith, nat_tests) in
    rw (one, two, three) refl

pub escape_empty : (bytes : List ℕ) → bytes ≡ [] → escape_at bytes ≡ None
unfolding escape_at
escape_empty bytes e = rw e refl

pub escape_quote : (bytes rest : List ℕ) → bytes ≡ encode 34 ++ rest → escape_at bytes ≡ Some (34, rest)
unfolding escape_at
escape_quote bytes rest e = rw (one_byte bytes rest 34 e (omega arith)) refl

pub escape_backslash : (bytes rest : List ℕ) → bytes ≡ encode 92 ++ rest → escape_at bytes ≡ Some (92, rest)
unfolding escape_at
escape_backslash bytes rest e = rw (one_byte bytes rest 92 e (omega arith)) refl

pub escape_u : (bytes rest : List ℕ) → bytes ≡ encode 117 ++ rest → escape_at bytes ≡ braced_at rest
unfolding escape_at
escape_u bytes rest e = rw (one_byte bytes rest 117 e (omega arith)) refl

pub escape_other : (bytes rest : List ℕ) (c : ℕ) → bytes ≡ encode c ++ rest → c ≢ 34 → c ≢ 92 → c ≢ 117 → escape_at bytes ≡ None
escape_other bytes rest c e no_quote no_slash no_u =
    elim (cases_lt c 128) [
      | inl small ↦ ap escape_at (one_byte bytes rest c e small) ∙ escape_other_byte c rest no_quote no_slash no_u
      | inr high ↦
          let first = first_byte (encode c) rest (encode_high c high) (omega (arith, length-encode c, (len_utf8_bounds c).0)) in
          ap escape_at (e ∙ first.3) ∙ escape_other_byte first.0 first.1 (omega_ne 34 first.2 (omega arith)) (omega_ne 92 first.2 (omega arith)) (omega_ne 117 first.2 (omega arith))
    ]
  where
    omega_ne : {b : ℕ} (k : ℕ) → 128 ≤ b → k < 128 → b ≢ k
    omega_ne k high small same = omega arith

-- the rest after an escape is shorter, and the character is ASCII
digit_small : (d v : ℕ) → lower_digit d ≡ Some v → v < 16
digit_small d v h = grind (arith)

pub control_small : (digits : List ℕ) (c : ℕ) → control_from digits ≡ Some c → c < 128
unfolding control_from
control_small [] c h = absurd (let bad : None ≡ Some c = h in cc)
control_small (low ∷ []) c h = let small = digit_small low c h in omega arith
control_small (high ∷ low ∷ []) c h = control_two high low c (eqb high 49) refl h
  where
    control_two : (high low c : ℕ) (one : Bool) → eqb high 49 ≡ one → cond one (option_and_then (λ d. Some (16 + d)) (lower_digit low)) (cond (eqb high 55 && eqb low 102) (Some 127) None) ≡ Some c → c < 128
    control_two high low c true e h =
        let p = bind_some (lower_digit low) (λ d. Some (16 + d)) c h in
        let small = digit_small low p.0 p.1 in
        let same : 16 + p.0 ≡ c = some_is (16 + p.0) c p.2 in
        omega arith
    control_two high low c false e h =
        let p = cond_some (eqb high 55 && eqb low 102) 127 c h in
        let same : 127 ≡ c = p.1 in
        omega arith
control_small (high ∷ low ∷ more ∷ rest) c h = absurd (let bad : None ≡ Some c = h in cc)

pub record IsShort (bytes rest : List ℕ) (c : ℕ) : Type 0 where
  pub shorter : length rest < length bytes
  pub ascii : c < 128

control_short : (bytes : List ℕ) (x : ℕ × List ℕ) → control_at bytes ≡ Some x → IsShort bytes x.1 x.0
unfolding control_at
control_short bytes x h = control_by (ltb (position_or_len is_brace bytes) (length bytes)) refl h
  where
    control_by : (b : Bool) → ltb (position_or_len is_brace bytes) (length bytes) ≡ b → cond b (option_and_then (λ c. Some (c, after_first is_brace bytes)) (control_from (before_first is_brace bytes))) None ≡ Some x → IsShort bytes x.1 x.0
    control_by true e h =
        let within : position_or_len is_brace bytes < length bytes = ltb-true _ _ e in
        let p = bind_some {B = ℕ × List ℕ} (control_from (before_first is_brace bytes)) (λ c. Some (c, after_first is_brace bytes)) x h in
        let value : p.0 ≡ x.0 = first_is (p.0, after_first is_brace bytes) x p.2 in
        let left : after_first is_brace bytes ≡ x.1 = second_is (p.0, after_first is_brace bytes) x p.2 in
        let small = control_small (before_first is_brace bytes) p.0 p.1 in
        record { shorter = subst (λ (r : List ℕ). length r < length bytes) left (omega (arith, length-drop (position_or_len is_brace bytes + 1) bytes)); ascii = omega arith }
    control_by false e h = absurd (let bad : None ≡ Some x = h in cc)

braced_short : (bytes : List ℕ) (x : ℕ × List ℕ) → braced_at bytes ≡ Some x → IsShort bytes x.1 x.0
braced_short bytes x h =
    let p = bind_some {B = ℕ × List ℕ} (past 123 bytes) control_at x h in
    let longer : length bytes ≡ suc (length p.0) = ap length (past_is 123 bytes p.0 p.1) in
    let short = control_short p.0 x p.2 in
    record { shorter = omega (arith, short.shorter); ascii = short.ascii }

pub escape_short : (bytes : List ℕ) (x : ℕ × List ℕ) → escape_at bytes ≡ Some x → IsShort bytes x.1 x.0
unfolding escape_at
escape_short [] x h = absurd (let bad : None ≡ Some x = h in cc)
escape_short (b ∷ bs) x h = escape_by (eqb b 34 || eqb b 92) refl h
  where
    escape_by : (itself : Bool) → (eqb b 34 || eqb b 92) ≡ itself → cond itself (Some (b, bs)) (cond (eqb b 117) (braced_at bs) None) ≡ Some x → IsShort (b ∷ bs) x.1 x.0
    escape_by true e h =
        let value : b ≡ x.0 = first_is (b, bs) x h in
        let left : bs ≡ x.1 = second_is (b, bs) x h in
        let small : b < 128 = grind (arith, nat_tests) in
        record { shorter = omega (arith, ap length left); ascii = omega arith }
    escape_by false e h = u_by (eqb b 117) h
      where
        u_by : (u : Bool) → cond u (braced_at bs) None ≡ Some x → IsShort (b ∷ bs) x.1 x.0
        u_by true h = let short = braced_short bs x h in record { shorter = omega (arith, short.shorter); ascii = short.ascii }
        u_by false h = absurd (let bad : None ≡ Some x = h in cc)

-- ---- the text inside

same_escape : (n m : ℕ) (bytes : List ℕ) (x : Option (ℕ × List ℕ)) → escape_at bytes ≡ x → ((rest : List ℕ) → length rest < length bytes → inside_at n rest ≡ inside_at m rest) → option_and_then (λ c. behind (c.0 ∷ []) (inside_at n c.1)) x ≡ option_and_then (λ c. behind (c.0 ∷ []) (inside_at m c.1)) x
same_escape n m bytes None e same = refl
same_escape n m bytes (Some c) e same = ap (behind (c.0 ∷ [])) (same c.1 (escape_short bytes c e).shorter)

-- more iterations than bytes change nothing
pub inside_more : (n m : ℕ) (bytes : List ℕ) → length bytes ≤ n → length bytes ≤ m → inside_at n bytes ≡ inside_at m bytes
unfolding inside_at
inside_more zero zero bytes h k = refl
inside_more zero (suc m) [] h k = refl
inside_more zero (suc m) (b ∷ bs) h k = absurd (omega arith)
inside_more (suc n) zero [] h k = refl
inside_more (suc n) zero (b ∷ bs) h k = absurd (omega arith)
inside_more (suc n) (suc m) [] h k = refl
inside_more (suc n) (suc m) (b ∷ bs) h k =
    let escaped = same_escape n m bs (escape_at bs) refl (λ rest shorter. inside_more n m rest (omega arith) (omega arith)) in
    let plain : behind (b ∷ []) (inside_at n bs) ≡ behind (b ∷ []) (inside_at m bs) = ap (behind (b ∷ [])) (inside_more n m bs (omega arith) (omega arith)) in
    rw (escaped, plain) refl

pub inside_empty : (bytes : List ℕ) → bytes ≡ [] → inside bytes ≡ None
unfolding inside_at
inside_empty bytes e = rw e refl

pub inside_closes : (bytes rest : List ℕ) → bytes ≡ encode 34 ++ rest → inside bytes ≡ Some ([], rest)
unfolding inside_at
inside_closes bytes rest e = rw (one_byte bytes rest 34 e (omega arith)) refl

pub inside_bad_escape : (bytes middle : List ℕ) → bytes ≡ encode 92 ++ middle → escape_at middle ≡ None → inside bytes ≡ None
unfolding inside_at
inside_bad_escape bytes middle e h = rw (one_byte bytes middle 92 e (omega arith), h) refl

-- the rest after a character
pub record IsStep (bytes rest : List ℕ) (c : ℕ) : Type 0 where
  pub shorter : length rest < length bytes
  pub same : inside bytes ≡ behind (encode c) (inside rest)

pub inside_escape : (bytes middle rest : List ℕ) (c : ℕ) → bytes ≡ encode 92 ++ middle → escape_at middle ≡ Some (c, rest) → IsStep bytes rest c
unfolding inside_at
inside_escape bytes middle rest c e h =
    let whole = one_byte bytes middle 92 e (omega arith) in
    let short = escape_short middle (c, rest) h in
    let itself = encode_ascii c short.ascii in
    let turns : inside_at (length middle) rest ≡ inside_at (length rest) rest = inside_more (length middle) (length rest) rest (omega (arith, short.shorter)) (omega arith) in
    record {
      shorter = omega (arith, short.shorter, ap length whole);
      same = rw (whole, h, turns, itself) refl;
    }

pub inside_control : (bytes rest : List ℕ) (c : ℕ) → bytes ≡ encode c ++ rest → c ≢ 34 → c ≢ 92 → is_ascii_control c ≡ true → inside bytes ≡ None
unfolding inside_at
inside_control bytes rest c e no_quote no_slash control =
    let small : c < 128 = grind (arith, nat_tests) in
    let one : eqb c 34 ≡ false = grind (arith, nat_tests) in
    let two : eqb c 92 ≡ false = grind (arith, nat_tests) in
    rw (one_byte bytes rest c e small, one, two, control) refl

plain_byte : (n b : ℕ) (bs : List ℕ) → b ≢ 34 → b ≢ 92 → is_ascii_control b ≡ false → inside_at (suc n) (b ∷ bs) ≡ behind (b ∷ []) (inside_at n bs)
unfolding inside_at
plain_byte n b bs no_quote no_slash plain =
    let one : eqb b 34 ≡ false = grind (arith, nat_tests) in
    let two : eqb b 92 ≡ false = grind (arith, nat_tests) in
    rw (one, two, plain) refl

high_bytes : (xs rest : List ℕ) → AllHigh xs → inside (xs ++ rest) ≡ behind xs (inside rest)
high_bytes [] rest h = sym (behind-nil (inside rest))
high_bytes (b ∷ bs) rest h =
    let no_quote : b ≢ 34 = λ e. absurd (let high = h.0 in omega arith) in
    let no_slash : b ≢ 92 = λ e. absurd (let high = h.0 in omega arith) in
    let plain : is_ascii_control b ≡ false = (let high = h.0 in grind (arith, nat_tests)) in
    plain_byte (length (bs ++ rest)) b (bs ++ rest) no_quote no_slash plain ∙ ap (behind (b ∷ [])) (high_bytes bs rest h.1) ∙ behind-behind (b ∷ []) bs (inside rest)

pub inside_plain : (bytes rest : List ℕ) (c : ℕ) → bytes ≡ encode c ++ rest → c ≢ 34 → c ≢ 92 → is_ascii_control c ≡ false → IsStep bytes rest c
inside_plain bytes rest c e no_quote no_slash plain = record {
  shorter = omega (arith, ap length e, length-append (encode c) rest, length-encode c, (len_utf8_bounds c).0);
  same = elim (cases_lt c 128) [
    | inl small ↦
        let itself = encode_ascii c small in
        ap inside (one_byte bytes rest c e small) ∙ plain_byte (length rest) c rest no_quote no_slash plain ∙ ap (λ xs. behind xs (inside rest)) (sym itself)
    | inr high ↦ ap inside e ∙ high_bytes (encode c) rest (encode_high c high)
  ];
}

-- ---- the loop

-- a fault of a part is the fault of the whole
pub Fails-then : {X Y : Type 0} (cause : ListCause) (part : Option X) (whole : Option Y) → (part ≡ None → whole ≡ None) → Fails cause part → Fails cause whole
Fails-then causes.NoMemory part whole same fails = tt
Fails-then cause part whole same fails = same fails

-- ---- the plain characters at the start

neither : (a b : Bool) → (a || b) ≡ false → (a ≡ false) × (b ≡ false)
neither false b e = (refl, e)
neither true b e = absurd (let bad : true ≡ false = e in cc)

unescaped : (b : ℕ) (bs : List ℕ) → is_escaped b ≡ false → inside (b ∷ bs) ≡ behind (b ∷ []) (inside bs)
unfolding inside_at
unescaped b bs e =
    let p = neither (eqb b 34 || eqb b 92) (is_ascii_control b) e in
    let q = neither (eqb b 34) (eqb b 92) p.0 in
    rw (q.0, q.1, p.1) refl

plain_cons : (b : ℕ) (bs : List ℕ) (v : Bool) → is_escaped b ≡ v → behind (take (position_or_len is_escaped bs) bs) (inside (drop (position_or_len is_escaped bs) bs)) ≡ inside bs
    → behind (take (position_or_len is_escaped (b ∷ bs)) (b ∷ bs)) (inside (drop (position_or_len is_escaped (b ∷ bs)) (b ∷ bs))) ≡ inside (b ∷ bs)
plain_cons b bs true e rest = rw e (behind-nil (inside (b ∷ bs)))
plain_cons b bs false e rest =
    let n = position_or_len is_escaped bs in
    let more : 1 + n ≡ suc n = omega arith in
    rw (e, more) (sym (behind-behind (b ∷ []) (take n bs) (inside (drop n bs))) ∙ ap (behind (b ∷ [])) rest ∙ sym (unescaped b bs e))

pub inside_plain_front : (bytes : List ℕ) → behind (take (position_or_len is_escaped bytes) bytes) (inside (drop (position_or_len is_escaped bytes) bytes)) ≡ inside bytes
inside_plain_front [] = behind-nil (inside [])
inside_plain_front (b ∷ bs) = plain_cons b bs (is_escaped b) refl (inside_plain_front bs)

-- the character at their end is one of ASCII
escaped_small : (b : ℕ) → is_escaped b ≡ true → b < 128
escaped_small b e = grind (arith, nat_tests)

first_small : (b : ℕ) (bs : List ℕ) (v : Bool) → is_escaped b ≡ v → (position_or_len is_escaped bs < length bs → get_or bs (position_or_len is_escaped bs) 0 < 128) → position_or_len is_escaped (b ∷ bs) < length (b ∷ bs)
    → get_or (b ∷ bs) (position_or_len is_escaped (b ∷ bs)) 0 < 128
first_small b bs true e rest h = rw e (escaped_small b e)
first_small b bs false e rest h =
    let more : 1 + position_or_len is_escaped bs ≡ suc (position_or_len is_escaped bs) = omega arith in
    let inner : 1 + position_or_len is_escaped bs < suc (length bs) = rw e at h in
    rw (e, more) (rest (omega arith))

all_small : (bytes : List ℕ) → position_or_len is_escaped bytes < length bytes → get_or bytes (position_or_len is_escaped bytes) 0 < 128
all_small [] h = absurd (omega arith)
all_small (b ∷ bs) h = first_small b bs (is_escaped b) refl (λ inner. all_small bs inner) h

pub plain_boundary : (bytes : List ℕ) → IsUtf8 bytes → IsCharBoundary bytes (position_or_len is_escaped bytes)
plain_boundary bytes utf8 =
    let n = position_or_len is_escaped bytes in
    let le : n ≤ length bytes = prefix_len-le-length _ bytes in
    elim (cases_lt n (length bytes)) [
      | inl lt ↦ IsCharBoundary-before_ascii bytes n lt (all_small bytes lt)
      | inr ge ↦ let same : n ≡ length bytes = omega arith in rw same (IsCharBoundary-end bytes)
    ]

pub plain-unwrap_or : (bytes : List ℕ) → unwrap_or (position is_escaped bytes) (length bytes) ≡ position_or_len is_escaped bytes
plain-unwrap_or bytes =
    let n = position_or_len is_escaped bytes in
    let le : n ≤ length bytes = prefix_len-le-length _ bytes in
    elim (cases_lt n (length bytes)) [
      | inl lt ↦ rw (lt-ltb n (length bytes) lt) refl
      | inr ge ↦ rw (le-ltb n (length bytes) ge) (omega arith)
    ]
