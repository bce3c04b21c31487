-- What is read of a prefix stays, independent of what follows: a reader needs more bytes, or has decided.
use Rattle.std.proofs.Common.{◌≡◌, ℕ, zero, suc, ℤ, pos, negsuc, ◌≤◌, Bool, true, false, cond, ltb, List, [], ◌∷◌, ◌++◌, length, take, drop, Option, Some, None, Result, Ok, Err, refl, sym, ap, subst, ◌∙◌, append_assoc, arith}
use Rattle.std.specs.Prelude.{is_none}
use Rattle.std.specs.Int.{Width, w32, w64, byte_len}
use Rattle.std.specs.Str.{is_utf8, bytes_eq}
use Rattle.std.proofs.lemmas.Bool.{ltb-false, le-ltb}
use Rattle.std.proofs.lemmas.List.{take-append-le, drop-append-le, length-append}
use Rattle.zk_jute.specs.declared.fault.JuteFault.{JuteFault}
use Rattle.zk_jute.specs.declared.fault.JuteFault.TheVariants as faults
use Rattle.zk_jute.specs.Reading.{◌>>=◌, number_at, bytes_at, not_negative, count_at, counted_at, text_at, content_of, content_at, boolean_at, many_at, vector_at, acl_at, made_of}
use Rattle.zk_quorum_records.specs.Reading.{Reader}

-- what the reading of more bytes gives, by what the first ones gave
abbrev pub Later : {A : Type 0} → Result (A × List ℕ) JuteFault → List ℕ → Result (A × List ℕ) JuteFault → Type 0
Later (Ok x) more later = later ≡ Ok (x.0, x.1 ++ more)
Later (Err faults.Short) more later = Unit {0}
Later (Err fault) more later = later ≡ Err fault

abbrev pub IsSteady : {A : Type 0} → Reader A → Type 0
IsSteady read = (bytes more : List ℕ) → Later (read bytes) more (read (bytes ++ more))

pub later_bind : {A B : Type 0} (r s : Result (A × List ℕ) JuteFault) (more : List ℕ) (f : A × List ℕ → Result (B × List ℕ) JuteFault)
    → Later r more s → ((x : A × List ℕ) → Later (f x) more (f (x.0, x.1 ++ more))) → Later (r >>= f) more (s >>= f)
later_bind {A} {B} (Ok x) s more f first next = subst (λ (t : Result (A × List ℕ) JuteFault). Later (f x) more (t >>= f)) (sym first) (next x)
later_bind (Err faults.Short) s more f first next = tt
later_bind (Err faults.Length) s more f first next = rw first refl
later_bind (Err faults.Text) s more f first next = rw first refl
later_bind (Err faults.Boolean) s more f first next = rw first refl
later_bind (Err faults.Kind) s more f first next = rw first refl
later_bind (Err faults.Trailing) s more f first next = rw first refl
later_bind (Err faults.Path) s more f first next = rw first refl
later_bind (Err faults.NoMemory) s more f first next = rw first refl

-- a result that no bytes change
pub later_err : (A : Type 0) (fault : JuteFault) (more : List ℕ) → Later {A = A} (Err fault) more (Err fault)
later_err A faults.Short more = tt
later_err A faults.Length more = refl
later_err A faults.Text more = refl
later_err A faults.Boolean more = refl
later_err A faults.Kind more = refl
later_err A faults.Trailing more = refl
later_err A faults.Path more = refl
later_err A faults.NoMemory more = refl

-- the same test before and after
pub later_if : {A : Type 0} (b : Bool) (x y u v : Result (A × List ℕ) JuteFault) (more : List ℕ) → Later x more u → Later y more v → Later (cond b x y) more (cond b u v)
later_if true x y u v more first second = first
later_if false x y u v more first second = second

pub made_steady : {A B : Type 0} (read : Reader A) (make : A → B) → IsSteady read → IsSteady (λ bytes. made_of make (read bytes))
made_steady read make steady bytes more = later_bind (read bytes) (read (bytes ++ more)) more (λ x. Ok (make x.0, x.1)) (steady bytes more) (λ x. refl)

-- ---- fields

pub number_steady : (w : Width) → IsSteady (number_at w)
number_steady w bytes more = by (ltb (length bytes) (byte_len w)) refl
  where
    by : (b : Bool) → ltb (length bytes) (byte_len w) ≡ b → Later (number_at w bytes) more (number_at w (bytes ++ more))
    by true is = rw is tt
    by false is =
        let long : byte_len w ≤ length bytes = ltb-false _ _ is in
        let again : ltb (length (bytes ++ more)) (byte_len w) ≡ false = le-ltb _ _ (omega (arith, length-append bytes more)) in
        rw (is, again, take-append-le (byte_len w) bytes more long, drop-append-le (byte_len w) bytes more long) refl

pub bytes_steady : (n : ℕ) → IsSteady (bytes_at n)
bytes_steady n bytes more = by (ltb (length bytes) n) refl
  where
    by : (b : Bool) → ltb (length bytes) n ≡ b → Later (bytes_at n bytes) more (bytes_at n (bytes ++ more))
    by true is = rw is tt
    by false is =
        let long : n ≤ length bytes = ltb-false _ _ is in
        let again : ltb (length (bytes ++ more)) n ≡ false = le-ltb _ _ (omega (arith, length-append bytes more)) in
        rw (is, again, take-append-le n bytes more long, drop-append-le n bytes more long) refl

not_negative_later : (z : ℤ) (rest more : List ℕ) → Later (not_negative z rest) more (not_negative z (rest ++ more))
not_negative_later (pos n) rest more = refl
not_negative_later (negsuc n) rest more = refl

pub count_steady : IsSteady count_at
unfolding count_at
count_steady bytes more = later_bind _ _ more (λ count. not_negative count.0 count.1) (number_steady w32 bytes more) (λ count. not_negative_later count.0 count.1 more)

pub counted_steady : IsSteady counted_at
unfolding counted_at
counted_steady bytes more = later_bind _ _ more (λ len. bytes_at len.0 len.1) (count_steady bytes more) (λ len. bytes_steady len.0 len.1 more)

pub text_steady : IsSteady text_at
unfolding text_at
text_steady bytes more =
    later_bind _ _ more (λ text. cond (is_utf8 text.0) (Ok text) (Err faults.Text)) (counted_steady bytes more)
    (λ text. later_if (is_utf8 text.0) (Ok text) (Err faults.Text) (Ok (text.0, text.1 ++ more)) (Err faults.Text) more refl refl)

content_later : (z : ℤ) (rest more : List ℕ) → Later (content_of z rest) more (content_of z (rest ++ more))
content_later (pos n) rest more = later_bind _ _ more (λ content. Ok (Some content.0, content.1)) (bytes_steady n rest more) (λ content. refl)
content_later (negsuc zero) rest more = refl
content_later (negsuc (suc n)) rest more = refl

pub content_steady : IsSteady content_at
unfolding content_at
content_steady bytes more = later_bind _ _ more (λ len. content_of len.0 len.1) (number_steady w32 bytes more) (λ len. content_later len.0 len.1 more)

pub many_steady : {A : Type 0} (read : Reader A) (n : ℕ) → IsSteady read → IsSteady (many_at read n)
unfolding many_at
many_steady read zero steady bytes more = refl
many_steady read (suc n) steady bytes more =
    later_bind _ _ more (λ first. many_at read n first.1 >>= λ others. Ok (first.0 ∷ others.0, others.1)) (steady bytes more)
    (λ first. later_bind _ _ more (λ others. Ok (first.0 ∷ others.0, others.1)) (many_steady read n steady first.1 more) (λ others. refl))

pub vector_steady : {A : Type 0} (read : Reader A) → IsSteady read → IsSteady (vector_at read)
unfolding vector_at
vector_steady read steady bytes more = later_bind _ _ more (λ count. many_at read count.0 count.1) (count_steady bytes more) (λ count. many_steady read count.0 steady count.1 more)

pub acl_steady : IsSteady acl_at
unfolding acl_at
acl_steady bytes more =
    later_bind _ _ more _ (number_steady w32 bytes more)
    (λ perms. later_bind _ _ more _ (text_steady perms.1 more) (λ scheme. later_bind _ _ more _ (text_steady scheme.1 more) (λ id. refl)))
