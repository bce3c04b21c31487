-- Quoted texts and paths: what is read between quotes is written so.
use Rattle.std.proofs.Common.{◌≡◌, ℕ, zero, suc, ◌+◌, ◌/◌, ◌%◌, ◌≤◌, ◌<◌, Bool, true, false, cond, eqb, ltb, ◌||◌, ◌&&◌, List, [], ◌∷◌, ◌++◌, length, get_or, drop, Option, Some, None, Result, Ok, Err, refl, sym, ap, subst, ◌∙◌, append_assoc, length-append, arith, inl, inr, lit<, lit≤, String}
use Rattle.std.specs.Prelude.{codes}
use Rattle.std.specs.Char.{is_ascii_control}
use Rattle.std.specs.Fmt.{digits, digit_glyph}
use Rattle.std.specs.List.{position_or_len, before_first, after_first, flat_map, AllByRecursion}
use Rattle.std.specs.Option.{option_and_then, is_none}
use Rattle.zk_path.specs.Paths.{IsPath, fault_of}
use Rattle.zk_path.proofs.FaultLaw.{IsPath-from_fault, fault_of-IsPath}
use Rattle.zk_format.specs.Listings.{IsListedPath}
use Rattle.std.specs.Str.{IsUtf8, is_utf8}
use Rattle.std.specs.String.{string_bytes}
use Rattle.std.proofs.lemmas.Bool.{cases_eq, cases_lt, ltb-true, lt-ltb, eqb-true, false≢true}
use Rattle.std.proofs.lemmas.Bool.Decides.{nat_tests}
use Rattle.std.proofs.lemmas.Fmt.{hex_one_digit, hex_two_digits}
use Rattle.std.proofs.lemmas.List.{take_at, drop_at}
use Rattle.std.proofs.lemmas.List.Sums.{split_at_first, passes_at_first}
use Rattle.std.proofs.lemmas.Option.{cond_some}
use Rattle.std.proofs.lemmas.Str.{IsUtf8-string_bytes, is_utf8-from_IsUtf8, IsUtf8-from_is_utf8}
use Rattle.zk_format.specs.Spelling.{quoted}
use Rattle.zk_listing.specs.Reading.{inside_at, inside, escape_at, braced_at, control_at, control_from, lower_digit, is_brace, past, behind, quoted_at, path_at, path_from, TakesBy}
use Rattle.zk_listing.specs.declared.list_fault.ListCause.{ListCause}
use Rattle.zk_listing.proofs.Exact.{IsExact, bind_some, past_is, first_is, second_is, some_is}
use Rattle.zk_listing.proofs.InsideQuotes.{Fails-then}
use Rattle.zk_format.proofs.QuotedBytes.{escaped_byte, quoted_bytes}

-- ---- the reader of quoted texts

pub quoted_none : (bytes : List ℕ) → past 34 bytes ≡ None → quoted_at bytes ≡ None
unfolding quoted_at
quoted_none bytes e = rw e refl

pub quoted_answers : {Z : Type 0} (r : Result (String Z) ListCause) (rest new bytes : List ℕ) → bytes ≡ 34 ∷ rest → TakesBy {X = String Z} {Y = List ℕ} (λ text. string_bytes text) r new (inside rest) → TakesBy {X = String Z} {Y = List ℕ} (λ text. string_bytes text) r new (quoted_at bytes)
unfolding quoted_at
quoted_answers (Ok text) rest new bytes e h =
    let utf8 : is_utf8 (string_bytes text) ≡ true = is_utf8-from_IsUtf8 (string_bytes text) (IsUtf8-string_bytes text) in
    rw (e, h, utf8) refl
quoted_answers (Err cause) rest new bytes e h = Fails-then cause (inside rest) (quoted_at bytes) (λ none. rw (e, none) refl) h

-- ---- escapes

digit_again : (d : ℕ) → d < 16 → lower_digit (digit_glyph false d) ≡ Some d
digit_again zero h = refl
digit_again (suc zero) h = refl
digit_again (suc (suc zero)) h = refl
digit_again (suc (suc (suc zero))) h = refl
digit_again (suc (suc (suc (suc zero)))) h = refl
digit_again (suc (suc (suc (suc (suc zero))))) h = refl
digit_again (suc (suc (suc (suc (suc (suc zero)))))) h = refl
digit_again (suc (suc (suc (suc (suc (suc (suc zero))))))) h = refl
digit_again (suc (suc (suc (suc (suc (suc (suc (suc zero)))))))) h = refl
digit_again (suc (suc (suc (suc (suc (suc (suc (suc (suc zero))))))))) h = refl
digit_again (suc (suc (suc (suc (suc (suc (suc (suc (suc (suc zero)))))))))) h = refl
digit_again (suc (suc (suc (suc (suc (suc (suc (suc (suc (suc (suc zero))))))))))) h = refl
digit_again (suc (suc (suc (suc (suc (suc (suc (suc (suc (suc (suc (suc zero)))))))))))) h = refl
digit_again (suc (suc (suc (suc (suc (suc (suc (suc (suc (suc (suc (suc (suc zero))))))))))))) h = refl
digit_again (suc (suc (suc (suc (suc (suc (suc (suc (suc (suc (suc (suc (suc (suc zero)))))))))))))) h = refl
digit_again (suc (suc (suc (suc (suc (suc (suc (suc (suc (suc (suc (suc (suc (suc (suc zero))))))))))))))) h = refl
digit_again (suc (suc (suc (suc (suc (suc (suc (suc (suc (suc (suc (suc (suc (suc (suc (suc d)))))))))))))))) h = absurd (omega arith)

digit_takes : (x d : ℕ) → lower_digit x ≡ Some d → (d < 16) × (x ≡ digit_glyph false d)
digit_takes x d h = (grind (arith), grind (arith, nat_tests))

-- a character that is written as its number, and the digits of that number
pub record IsControlSpelled (digits_of_it : List ℕ) (c : ℕ) : Type 0 where
  pub control : is_ascii_control c ≡ true
  pub spelled : digits_of_it ≡ digits 16 false c

two_digits : (high low c : ℕ) (one : Bool) → eqb high 49 ≡ one → cond one (option_and_then (λ d. Some (16 + d)) (lower_digit low)) (cond (eqb high 55 && eqb low 102) (Some 127) None) ≡ Some c → IsControlSpelled (high ∷ low ∷ []) c
two_digits high low c true e h =
    let p = bind_some (lower_digit low) (λ d. Some (16 + d)) c h in
    let digit = digit_takes low p.0 p.1 in
    let same : 16 + p.0 ≡ c = some_is (16 + p.0) c p.2 in
    let first : high ≡ 49 = grind (arith, nat_tests) in
    let small : c < 32 = omega arith in
    let quotient : c / 16 ≡ 1 = omega arith in
    let rest : c % 16 ≡ p.0 = omega arith in
    record {
      control = grind (arith, nat_tests);
      spelled = ap (λ (x : ℕ). x ∷ low ∷ []) first ∙ ap (λ (x : ℕ). 49 ∷ x ∷ []) digit.1 ∙ sym (hex_two_digits false c (omega arith) (omega arith) ∙ ap (λ (q : ℕ). digit_glyph false q ∷ digit_glyph false (c % 16) ∷ []) quotient ∙ ap (λ (d : ℕ). digit_glyph false 1 ∷ digit_glyph false d ∷ []) rest);
    }
two_digits high low c false e h =
    let p = cond_some (eqb high 55 && eqb low 102) 127 c h in
    let same : 127 ≡ c = p.1 in
    let first : high ≡ 55 = grind (arith, nat_tests) in
    let second : low ≡ 102 = grind (arith, nat_tests) in
    let at : IsControlSpelled (55 ∷ 102 ∷ []) 127 = record { control = refl; spelled = sym (hex_two_digits false 127 (lit≤ tt) (lit< tt)) } in
    let P : ℕ → Type 0 = λ x. IsControlSpelled (x ∷ low ∷ []) c in
    let Q : ℕ → Type 0 = λ x. IsControlSpelled (55 ∷ x ∷ []) c in
    subst P (sym first) (subst Q (sym second) (subst (IsControlSpelled (55 ∷ 102 ∷ [])) same at))

control_takes : (ds : List ℕ) (c : ℕ) → control_from ds ≡ Some c → IsControlSpelled ds c
unfolding control_from
control_takes [] c h = absurd (let bad : None ≡ Some c = h in cc)
control_takes (low ∷ []) c h =
    let digit = digit_takes low c h in
    let small : c < 16 = digit.0 in
    record { control = grind (arith, nat_tests); spelled = ap (λ (x : ℕ). x ∷ []) digit.1 ∙ sym (hex_one_digit false c digit.0) }
control_takes (high ∷ low ∷ []) c h = two_digits high low c (eqb high 49) refl h
control_takes (high ∷ low ∷ more ∷ rest) c h = absurd (let bad : None ≡ Some c = h in cc)

control_again : (c : ℕ) → is_ascii_control c ≡ true → control_from (digits 16 false c) ≡ Some c
unfolding control_from
control_again c control =
    elim (cases_lt c 16) [
      | inl small ↦ rw (hex_one_digit false c small) (digit_again c small)
      | inr large ↦ elim (cases_eq c 127) [
        | inl last ↦ rw (last, hex_two_digits false 127 (lit≤ tt) (lit< tt)) refl
        | inr other ↦
            let small : c < 32 = grind (arith, nat_tests) in
            let quotient : c / 16 ≡ 1 = omega arith in
            let digit = digit_again (c % 16) (omega arith) in
            let back : 16 + c % 16 ≡ c = omega arith in
            rw (hex_two_digits false c large (omega arith), quotient, digit) (ap Some back)
      ]
    ]

-- no digit is a brace
no_brace_glyph : (d : ℕ) → d < 16 → is_brace (digit_glyph false d) ≡ false
no_brace_glyph zero h = refl
no_brace_glyph (suc zero) h = refl
no_brace_glyph (suc (suc zero)) h = refl
no_brace_glyph (suc (suc (suc zero))) h = refl
no_brace_glyph (suc (suc (suc (suc zero)))) h = refl
no_brace_glyph (suc (suc (suc (suc (suc zero))))) h = refl
no_brace_glyph (suc (suc (suc (suc (suc (suc zero)))))) h = refl
no_brace_glyph (suc (suc (suc (suc (suc (suc (suc zero))))))) h = refl
no_brace_glyph (suc (suc (suc (suc (suc (suc (suc (suc zero)))))))) h = refl
no_brace_glyph (suc (suc (suc (suc (suc (suc (suc (suc (suc zero))))))))) h = refl
no_brace_glyph (suc (suc (suc (suc (suc (suc (suc (suc (suc (suc zero)))))))))) h = refl
no_brace_glyph (suc (suc (suc (suc (suc (suc (suc (suc (suc (suc (suc zero))))))))))) h = refl
no_brace_glyph (suc (suc (suc (suc (suc (suc (suc (suc (suc (suc (suc (suc zero)))))))))))) h = refl
no_brace_glyph (suc (suc (suc (suc (suc (suc (suc (suc (suc (suc (suc (suc (suc zero))))))))))))) h = refl
no_brace_glyph (suc (suc (suc (suc (suc (suc (suc (suc (suc (suc (suc (suc (suc (suc zero)))))))))))))) h = refl
no_brace_glyph (suc (suc (suc (suc (suc (suc (suc (suc (suc (suc (suc (suc (suc (suc (suc zero))))))))))))))) h = refl
no_brace_glyph (suc (suc (suc (suc (suc (suc (suc (suc (suc (suc (suc (suc (suc (suc (suc (suc d)))))))))))))))) h = absurd (omega arith)

no_brace_in : (c : ℕ) → is_ascii_control c ≡ true → AllByRecursion (λ b. is_brace b ≡ false) (digits 16 false c)
no_brace_in c control =
    let below : c < 256 = grind (arith, nat_tests) in
    elim (cases_lt c 16) [
      | inl small ↦ rw (hex_one_digit false c small) (no_brace_glyph c small, tt)
      | inr large ↦ rw (hex_two_digits false c large below) (no_brace_glyph (c / 16) (omega arith), (no_brace_glyph (c % 16) (omega arith), tt))
    ]

one_more : (n : ℕ) → 1 + n ≡ suc n
one_more n = omega arith

brace_at : (ds rest : List ℕ) → AllByRecursion (λ b. is_brace b ≡ false) ds → position_or_len is_brace (ds ++ 125 ∷ rest) ≡ length ds
brace_at [] rest h = refl
brace_at (d ∷ ds) rest h = rw h.0 (one_more _ ∙ ap suc (brace_at ds rest h.1))

control_at_again : (c : ℕ) (rest : List ℕ) → is_ascii_control c ≡ true → control_at (digits 16 false c ++ 125 ∷ rest) ≡ Some (c, rest)
unfolding control_at
control_at_again c rest control =
    let ds = digits 16 false c in
    let place = brace_at ds rest (no_brace_in c control) in
    let within : ltb (length ds) (length (ds ++ 125 ∷ rest)) ≡ true = lt-ltb _ _ (omega (arith, length-append ds (125 ∷ rest))) in
    let back : drop (length ds + 1) (ds ++ 125 ∷ rest) ≡ rest = ap (λ n. drop n (ds ++ 125 ∷ rest)) (let e : length ds + 1 ≡ length (ds ++ 125 ∷ []) = omega (arith, length-append ds (125 ∷ [])) in e) ∙ ap (drop (length (ds ++ 125 ∷ []))) (sym (append_assoc ds (125 ∷ []) rest)) ∙ drop_at (ds ++ 125 ∷ []) rest _ refl in
    rw (place, within, take_at ds (125 ∷ rest) (length ds) refl, control_again c control, back) refl

control_at_takes : (bytes : List ℕ) (x : ℕ × List ℕ) → control_at bytes ≡ Some x → (is_ascii_control x.0 ≡ true) × (bytes ≡ digits 16 false x.0 ++ 125 ∷ x.1)
unfolding control_at
control_at_takes bytes x h = control_by (ltb (position_or_len is_brace bytes) (length bytes)) refl h
  where
    control_by : (b : Bool) → ltb (position_or_len is_brace bytes) (length bytes) ≡ b → cond b (option_and_then (λ c. Some (c, after_first is_brace bytes)) (control_from (before_first is_brace bytes))) None ≡ Some x → (is_ascii_control x.0 ≡ true) × (bytes ≡ digits 16 false x.0 ++ 125 ∷ x.1)
    control_by true e h =
        let within : position_or_len is_brace bytes < length bytes = ltb-true _ _ e in
        let p = bind_some {B = ℕ × List ℕ} (control_from (before_first is_brace bytes)) (λ c. Some (c, after_first is_brace bytes)) x h in
        let value : p.0 ≡ x.0 = first_is (p.0, after_first is_brace bytes) x p.2 in
        let left : after_first is_brace bytes ≡ x.1 = second_is (p.0, after_first is_brace bytes) x p.2 in
        let spelled = control_takes (before_first is_brace bytes) p.0 p.1 in
        let cut = split_at_first is_brace bytes 0 within in
        let brace : get_or bytes (position_or_len is_brace bytes) 0 ≡ 125 = eqb-true _ _ (passes_at_first is_brace bytes 0 within) in
        let whole : bytes ≡ digits 16 false p.0 ++ 125 ∷ after_first is_brace bytes = cut ∙ ap (λ (b : ℕ). before_first is_brace bytes ++ b ∷ after_first is_brace bytes) brace ∙ ap (λ (xs : List ℕ). xs ++ 125 ∷ after_first is_brace bytes) spelled.spelled in
        (subst (λ (c : ℕ). is_ascii_control c ≡ true) value spelled.control, whole ∙ ap (λ (c : ℕ). digits 16 false c ++ 125 ∷ after_first is_brace bytes) value ∙ ap (λ (r : List ℕ). digits 16 false x.0 ++ 125 ∷ r) left)
    control_by false e h = absurd (let bad : None ≡ Some x = h in cc)

-- the text after a backslash, with the backslash, is the escape of a byte
braced_spelled : (c : ℕ) (rest : List ℕ) → is_ascii_control c ≡ true → 92 ∷ 117 ∷ 123 ∷ (digits 16 false c ++ 125 ∷ rest) ≡ escaped_byte c ++ rest
braced_spelled c rest control =
    let one : eqb c 34 ≡ false = grind (arith, nat_tests) in
    let two : eqb c 92 ≡ false = grind (arith, nat_tests) in
    rw (one, two, control) (ap (λ (xs : List ℕ). 92 ∷ 117 ∷ 123 ∷ xs) (sym (append_assoc (digits 16 false c) (125 ∷ []) rest)))

pub escape_takes : (bytes : List ℕ) (x : ℕ × List ℕ) → escape_at bytes ≡ Some x → 92 ∷ bytes ≡ escaped_byte x.0 ++ x.1
unfolding escape_at
escape_takes [] x h = absurd (let bad : None ≡ Some x = h in cc)
escape_takes (b ∷ bs) x h = escape_by (eqb b 34 || eqb b 92) refl h
  where
    u_by : (u : Bool) → eqb b 117 ≡ u → cond u (braced_at bs) None ≡ Some x → 92 ∷ b ∷ bs ≡ escaped_byte x.0 ++ x.1
    u_by true e h =
        let p = bind_some {B = ℕ × List ℕ} (past 123 bs) control_at x h in
        let brace = past_is 123 bs p.0 p.1 in
        let found = control_at_takes p.0 x p.2 in
        let letter : b ≡ 117 = eqb-true _ _ e in
        ap (λ (y : ℕ). 92 ∷ y ∷ bs) letter ∙ ap (λ (ys : List ℕ). 92 ∷ 117 ∷ ys) (brace ∙ ap (λ (ys : List ℕ). 123 ∷ ys) found.1) ∙ braced_spelled x.0 x.1 found.0
    u_by false e h = absurd (let bad : None ≡ Some x = h in cc)

    escape_by : (itself : Bool) → (eqb b 34 || eqb b 92) ≡ itself → cond itself (Some (b, bs)) (cond (eqb b 117) (braced_at bs) None) ≡ Some x → 92 ∷ b ∷ bs ≡ escaped_byte x.0 ++ x.1
    escape_by true e h =
        let value : b ≡ x.0 = first_is (b, bs) x h in
        let left : bs ≡ x.1 = second_is (b, bs) x h in
        let spelled : 92 ∷ b ∷ bs ≡ escaped_byte b ++ bs = rw e refl in
        spelled ∙ ap (λ (c : ℕ). escaped_byte c ++ bs) value ∙ ap (λ (r : List ℕ). escaped_byte x.0 ++ r) left
    escape_by false e h = u_by (eqb b 117) refl h

-- ---- the text between quotes

pub behind_is : {X : Type 0} (front : List X) (read : Option (List X × List ℕ)) (x : List X × List ℕ) → behind front read ≡ Some x → (y : List X × List ℕ) × (read ≡ Some y) × (front ++ y.0 ≡ x.0) × (y.1 ≡ x.1)
behind_is {X} front read x h =
    let p = bind_some {B = List X × List ℕ} read (λ y. Some (front ++ y.0, y.1)) x h in
    (p.0, p.1, first_is (front ++ p.0.0, p.0.1) x p.2, second_is (front ++ p.0.0, p.0.1) x p.2)

-- a byte and then the others
put_byte : (b : ℕ) (whole rest : List ℕ) (y x : List ℕ × List ℕ) → whole ≡ escaped_byte b ++ rest → rest ≡ flat_map escaped_byte y.0 ++ 34 ∷ y.1 → b ∷ y.0 ≡ x.0 → y.1 ≡ x.1 → whole ≡ flat_map escaped_byte x.0 ++ 34 ∷ x.1
put_byte b whole rest y x first others text left =
    first ∙ ap (λ (xs : List ℕ). escaped_byte b ++ xs) others ∙ sym (append_assoc (escaped_byte b) (flat_map escaped_byte y.0) (34 ∷ y.1)) ∙ ap (λ (xs : List ℕ). flat_map escaped_byte xs ++ 34 ∷ y.1) text ∙ ap (λ (r : List ℕ). flat_map escaped_byte x.0 ++ 34 ∷ r) left

inside_by : (n b : ℕ) (bs : List ℕ) (x : List ℕ × List ℕ) → ((rest : List ℕ) (y : List ℕ × List ℕ) → inside_at n rest ≡ Some y → rest ≡ flat_map escaped_byte y.0 ++ 34 ∷ y.1) → (quote slash control : Bool) → eqb b 34 ≡ quote → eqb b 92 ≡ slash → is_ascii_control b ≡ control → cond quote (Some ([], bs)) (cond slash (option_and_then (λ c. behind (c.0 ∷ []) (inside_at n c.1)) (escape_at bs)) (cond control None (behind (b ∷ []) (inside_at n bs)))) ≡ Some x → b ∷ bs ≡ flat_map escaped_byte x.0 ++ 34 ∷ x.1
inside_by n b bs x others true slash control q s k h =
    let text : [] ≡ x.0 = first_is ([], bs) x h in
    let left : bs ≡ x.1 = second_is ([], bs) x h in
    let quote : b ≡ 34 = eqb-true _ _ q in
    ap (λ (y : ℕ). y ∷ bs) quote ∙ ap (λ (r : List ℕ). 34 ∷ r) left ∙ ap (λ (xs : List ℕ). flat_map escaped_byte xs ++ 34 ∷ x.1) text
inside_by n b bs x others false true control q s k h =
    let p = bind_some {B = List ℕ × List ℕ} (escape_at bs) (λ c. behind (c.0 ∷ []) (inside_at n c.1)) x h in
    let y = behind_is (p.0.0 ∷ []) (inside_at n p.0.1) x p.2 in
    let slash : b ≡ 92 = eqb-true _ _ s in
    let first : b ∷ bs ≡ escaped_byte p.0.0 ++ p.0.1 = ap (λ (c : ℕ). c ∷ bs) slash ∙ escape_takes bs p.0 p.1 in
    put_byte p.0.0 (b ∷ bs) p.0.1 y.0 x first (others p.0.1 y.0 y.1) y.2 y.3
inside_by n b bs x others false false true q s k h = absurd (let bad : None ≡ Some x = h in cc)
inside_by n b bs x others false false false q s k h =
    let y = behind_is (b ∷ []) (inside_at n bs) x h in
    let first : b ∷ bs ≡ escaped_byte b ++ bs = rw (q, s, k) refl in
    put_byte b (b ∷ bs) bs y.0 x first (others bs y.0 y.1) y.2 y.3

inside_takes : (n : ℕ) (bytes : List ℕ) (x : List ℕ × List ℕ) → inside_at n bytes ≡ Some x → bytes ≡ flat_map escaped_byte x.0 ++ 34 ∷ x.1
unfolding inside_at
inside_takes zero bytes x h = absurd (let bad : None ≡ Some x = h in cc)
inside_takes (suc n) [] x h = absurd (let bad : None ≡ Some x = h in cc)
inside_takes (suc n) (b ∷ bs) x h = inside_by n b bs x (λ rest y e. inside_takes n rest y e) (eqb b 34) (eqb b 92) (is_ascii_control b) refl refl refl h

one_turn_by : (n b : ℕ) (rest : List ℕ) (quote slash control : Bool) → eqb b 34 ≡ quote → eqb b 92 ≡ slash → is_ascii_control b ≡ control → inside_at (suc n) (escaped_byte b ++ rest) ≡ behind (b ∷ []) (inside_at n rest)
unfolding inside_at escape_at
one_turn_by n b rest true slash control q s k = rw q (rw q refl)
one_turn_by n b rest false true control q s k = rw (q, s) (rw (q, s) refl)
one_turn_by n b rest false false true q s k =
    ap (inside_at (suc n)) (sym (braced_spelled b rest k)) ∙ ap (option_and_then (λ c. behind (c.0 ∷ []) (inside_at n c.1))) (control_at_again b rest k)
one_turn_by n b rest false false false q s k = rw (q, s, k) (rw (q, s, k) refl)

one_turn : (n b : ℕ) (rest : List ℕ) → inside_at (suc n) (escaped_byte b ++ rest) ≡ behind (b ∷ []) (inside_at n rest)
one_turn n b rest = one_turn_by n b rest (eqb b 34) (eqb b 92) (is_ascii_control b) refl refl refl

escaped_long : (b : ℕ) → 1 ≤ length (escaped_byte b)
escaped_long b = elim (eqb b 34 || eqb b 92) as (λ v. 1 ≤ length (cond v (92 ∷ b ∷ []) (cond (is_ascii_control b) (codes "\\u{" ++ digits 16 false b ++ codes "}") (b ∷ [])))) [
  | true ↦ omega arith
  | false ↦ elim (is_ascii_control b) as (λ v. 1 ≤ length (cond v (codes "\\u{" ++ digits 16 false b ++ codes "}") (b ∷ []))) [
    | true ↦ omega arith
    | false ↦ omega arith
  ]
]

inside_again : (n : ℕ) (text rest : List ℕ) → length (flat_map escaped_byte text ++ 34 ∷ rest) ≤ n → inside_at n (flat_map escaped_byte text ++ 34 ∷ rest) ≡ Some (text, rest)
unfolding inside_at
inside_again zero text rest le = absurd (omega (arith, length-append (flat_map escaped_byte text) (34 ∷ rest)))
inside_again (suc n) [] rest le = refl
inside_again (suc n) (b ∷ text) rest le =
    let others = flat_map escaped_byte text ++ 34 ∷ rest in
    let whole : flat_map escaped_byte (b ∷ text) ++ 34 ∷ rest ≡ escaped_byte b ++ others = append_assoc (escaped_byte b) (flat_map escaped_byte text) (34 ∷ rest) in
    let fewer : length others ≤ n = omega (arith, ap length whole, length-append (escaped_byte b) others, escaped_long b) in
    ap (inside_at (suc n)) whole ∙ one_turn n b others ∙ ap (behind (b ∷ [])) (inside_again n text rest fewer)

-- ---- quoted texts and paths

quoted_front : (text rest : List ℕ) → IsUtf8 text → quoted text ++ rest ≡ 34 ∷ (flat_map escaped_byte text ++ 34 ∷ rest)
quoted_front text rest utf8 =
    ap (λ (xs : List ℕ). xs ++ rest) (quoted_bytes text utf8) ∙ ap (λ (xs : List ℕ). 34 ∷ xs) (append_assoc (flat_map escaped_byte text) (34 ∷ []) rest)

pub quoted_exact : IsExact quoted IsUtf8 quoted_at
unfolding quoted_at
quoted_exact = record {
  takes = λ bytes text rest h.
      let p = bind_some {B = List ℕ × List ℕ} (past 34 bytes) (λ r. option_and_then (λ x. cond (is_utf8 x.0) (Some x) None) (inside r)) (text, rest) h in
      let q = bind_some {B = List ℕ × List ℕ} (inside p.0) (λ x. cond (is_utf8 x.0) (Some x) None) (text, rest) p.2 in
      let found = cond_some (is_utf8 q.0.0) q.0 (text, rest) q.2 in
      let same : q.0.0 ≡ text = ap (λ v. v.0) found.1 in
      let left : q.0.1 ≡ rest = ap (λ v. v.1) found.1 in
      let utf8 : IsUtf8 text = subst IsUtf8 same (IsUtf8-from_is_utf8 q.0.0 found.0) in
      let inner : p.0 ≡ flat_map escaped_byte q.0.0 ++ 34 ∷ q.0.1 = inside_takes (length p.0) p.0 q.0 q.1 in
      let whole : bytes ≡ 34 ∷ (flat_map escaped_byte text ++ 34 ∷ rest) = past_is 34 bytes p.0 p.1 ∙ ap (λ (xs : List ℕ). 34 ∷ xs) (inner ∙ ap (λ (xs : List ℕ). flat_map escaped_byte xs ++ 34 ∷ q.0.1) same ∙ ap (λ (r : List ℕ). flat_map escaped_byte text ++ 34 ∷ r) left) in
      (utf8, whole ∙ sym (quoted_front text rest utf8));
  again = λ text rest utf8 e.
      let body = flat_map escaped_byte text ++ 34 ∷ rest in
      let read : inside body ≡ Some (text, rest) = inside_again (length body) text rest (omega arith) in
      rw (quoted_front text rest utf8, read, is_utf8-from_IsUtf8 text utf8) refl;
}

none_is : {A : Type 0} (o : Option A) → is_none o ≡ true → o ≡ None
none_is None h = refl
none_is (Some x) h = absurd (let bad : false ≡ true = h in false≢true bad)

pub path_exact : IsExact quoted IsListedPath path_at
unfolding path_at path_from
path_exact = record {
  takes = λ bytes path rest h.
      let p = bind_some {B = List ℕ × List ℕ} (quoted_at bytes) (λ x. option_and_then (λ y. Some (y, x.1)) (cond (is_none (fault_of x.0)) (Some x.0) None)) (path, rest) h in
      let q = bind_some {B = List ℕ × List ℕ} (cond (is_none (fault_of p.0.0)) (Some p.0.0) None) (λ y. Some (y, p.0.1)) (path, rest) p.2 in
      let found = cond_some (is_none (fault_of p.0.0)) p.0.0 q.0 q.1 in
      let same : p.0.0 ≡ path = found.1 ∙ first_is (q.0, p.0.1) (path, rest) q.2 in
      let left : p.0.1 ≡ rest = second_is (q.0, p.0.1) (path, rest) q.2 in
      let text = quoted_exact.takes bytes p.0.0 p.0.1 p.1 in
      let is_path : IsPath p.0.0 = IsPath-from_fault p.0.0 (none_is (fault_of p.0.0) found.0) in
      (subst IsListedPath same (record { utf8 = text.0; is_path = is_path }), text.1 ∙ ap (λ (xs : List ℕ). quoted xs ++ p.0.1) same ∙ ap (λ (r : List ℕ). quoted path ++ r) left);
  again = λ path rest fits e.
      let no_fault : fault_of path ≡ None = fault_of-IsPath path fits.is_path in
      rw (quoted_exact.again path rest fits.utf8 e, no_fault) refl;
}
