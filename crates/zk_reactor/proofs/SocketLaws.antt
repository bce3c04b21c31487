-- What a socket took, write by write.
use Rattle.std.proofs.Common.{◌≡◌, ◌∙◌, ℕ, zero, suc, ◌+◌, ◌≤◌, ◌⊎◌, inl, inr, ◌==◌, Bool, true, false, List, [], ◌++◌, length, take, drop, Option, Some, None, Result, Ok, Err, if◌then◌else◌, refl, sym, ap, subst, arith, append_assoc, append-nil, length-append, length-drop, ◌<◌, not}
use Rattle.std.proofs.lemmas.Bool.{and_parts, cond_both}
use borrow.Author.Tests.{ltb-true}
use Rattle.std.proofs.lemmas.List.{length-take, drop-drop, take-append-drop, take-take, drop-take}
use Rattle.std.specs.Io.{WritesAtMost}
use Rattle.std.specs.Io.KnownBytes.{Appends, Keeps, WriteAppends}
use Rattle.std.specs.IoError.{error_kind}
use Rattle.std.specs.declared.io.Error.{Error}
use Rattle.std.specs.declared.io.ErrorKind.{ErrorKind}
use Rattle.std.specs.declared.io.ErrorKind.TheVariants as kinds
use Rattle.zk_connections.specs.Connections.{lost}
use Rattle.zk_connections.specs.Inputs.{heard, longest_frame, wants_input}
use Rattle.zk_connections.specs.declared.connection.Connection.{Connection}
use Rattle.zk_reactor.specs.Sockets.{HearsFrom, HearsOutcome, SendsTo, after_write, failed_with, most_input, outcome_of, without_sent}
use Rattle.zk_reactor.specs.declared.outcome.Outcome.{Outcome}
use Rattle.zk_reactor.specs.declared.outcome.Outcome.TheVariants as outcomes

-- ---- known bytes

abbrev pub Known : Type 0
Known = Option (List ℕ)

nothing_appended : (before after : Known) → Keeps before after → Appends before after []
nothing_appended None after k = tt
nothing_appended (Some xs) None k = absurd k
nothing_appended (Some xs) (Some ys) k = k ∙ sym (append-nil xs)

pub keeps_itself : (known : Known) → Appends known known []
keeps_itself None = tt
keeps_itself (Some xs) = sym (append-nil xs)

appends_both : (a b c : Known) (xs ys : List ℕ) → Appends a b xs → Appends b c ys → Appends a c (xs ++ ys)
appends_both None b c xs ys p q = tt
appends_both (Some held) None c xs ys p q = absurd p
appends_both (Some held) (Some bs) None xs ys p q = absurd q
appends_both (Some held) (Some bs) (Some cs) xs ys p q = q ∙ ap (λ (l : List ℕ). l ++ ys) p ∙ append_assoc held xs ys

-- ---- one read

bytes_bounded : (n : ℕ) (chunk : List ℕ) (old : Connection) → length chunk ≡ 8192 → wants_input old ≡ true → length old.input ≤ most_input → length (heard (take n chunk) old).input ≤ most_input
bytes_bounded n chunk old few wants within =
    let short : length old.input < longest_frame = ltb-true (length old.input) longest_frame (and_parts (not old.ends) _ wants).1 in
    cond_both old.ends old (record old { input = old.input ++ take n chunk }) (λ it. length it.input ≤ most_input)
    (λ _. within)
    (λ _. grind (arith, few, short, length-append old.input (take n chunk), length-take n chunk))

-- the input stays within the longest frame and one read
pub heard_bounded : (outcome : Outcome) (chunk : List ℕ) (old new : Connection) → length chunk ≡ 8192 → wants_input old ≡ true → HearsOutcome outcome chunk old new
    → length old.input ≤ most_input → length new.input ≤ most_input
heard_bounded outcomes.Ended chunk old new few wants is within = rw is within
heard_bounded (outcomes.Bytes n) chunk old new few wants (inl is) within = rw is (bytes_bounded n chunk old few wants within)
heard_bounded (outcomes.Bytes n) chunk old new few wants (inr is) within = rw is within
heard_bounded outcomes.Waits chunk old new few wants is within = rw is within
heard_bounded outcomes.Interrupted chunk old new few wants is within = rw is within
heard_bounded outcomes.Failed chunk old new few wants is within = rw is within

pub hears_bounded : (before after : Known) (old new : Connection) → wants_input old ≡ true → HearsFrom before after old new → length old.input ≤ most_input → length new.input ≤ most_input
hears_bounded before after old new wants hears within = heard_bounded (outcome_of hears.returned) hears.chunk old new hears.few wants hears.hears within

-- ---- one write

-- an error takes no byte
failed_left : (kind : ErrorKind) (old new : Connection) → new ≡ after_write (failed_with kind) old → (new ≡ without_sent 0 old) ⊎ (new ≡ lost old)
failed_left kinds.WouldBlock old new e = inl e
failed_left kinds.Interrupted old new e = inl e
failed_left kind old new e = inr e

count_left : (test : Bool) (n : ℕ) (old new : Connection) → new ≡ after_write (if test then outcomes.Ended else outcomes.Bytes n) old → (new ≡ without_sent n old) ⊎ (new ≡ lost old)
count_left true n old new e = inr e
count_left false n old new e = inl e

pub one_write : (before after : Known) (returned : Result ℕ Error) (old new : Connection) → WritesAtMost returned old.output → WriteAppends before after returned old.output
    → new ≡ after_write (outcome_of returned) old → SendsTo before after old new
one_write before after (Ok n) old new within appends e = record { count = n; within = within; taken = appends; left = count_left (n == 0) n old new e }
one_write before after (Err error) old new within keeps e =
    record { count = 0; within = omega arith; taken = nothing_appended before after keeps; left = failed_left (error_kind error) old new e }

-- ---- several writes

pub no_write : (known : Known) (it : Connection) → SendsTo known known it it
no_write known it = record { count = 0; within = omega arith; taken = keeps_itself known; left = inl refl }

take_both : (n m : ℕ) (xs : List ℕ) → n + m ≤ length xs → take (n + m) xs ≡ take n xs ++ take m (drop n xs)
take_both n m xs within =
    let whole : take n (take (n + m) xs) ++ drop n (take (n + m) xs) ≡ take (n + m) xs = take-append-drop n (take (n + m) xs) in
    let first : take n (take (n + m) xs) ≡ take n xs = take-take n (n + m) xs (omega arith) in
    sym whole ∙ ap (λ (l : List ℕ). l ++ drop n (take (n + m) xs)) first ∙ ap (λ (l : List ℕ). take n xs ++ l) (drop-take n m xs)

lost_again : (count : ℕ) (it : Connection) → without_sent count (lost it) ≡ lost it
lost_again zero it = refl
lost_again (suc n) it = refl

-- after a loss nothing is left to send
after_loss : (count : ℕ) (first second third : Connection) → second ≡ lost first → (third ≡ without_sent count second) ⊎ (third ≡ lost second) → third ≡ lost first
after_loss count first second third e (inl f) = f ∙ ap (λ (it : Connection). without_sent count it) e ∙ lost_again count first
after_loss count first second third e (inr f) = f ∙ ap (λ (it : Connection). lost it) e

after_both : (n m : ℕ) (first second third : Connection) → second ≡ without_sent n first → (third ≡ without_sent m second) ⊎ (third ≡ lost second) → (third ≡ without_sent (n + m) first) ⊎ (third ≡ lost first)
after_both n m first second third e (inl f) =
    inl (f ∙ ap (λ (it : Connection). without_sent m it) e ∙ ap (λ (l : List ℕ). record first { output = l }) (drop-drop m n first.output))
after_both n m first second third e (inr f) = inr (f ∙ ap (λ (it : Connection). lost it) e)

none_taken : (n : ℕ) (xs : List ℕ) → xs ≡ [] → take n xs ≡ []
none_taken zero xs e = refl
none_taken (suc n) xs e = ap (λ (l : List ℕ). take (suc n) l) e

both_by : (a b c : Known) (first second third : Connection) (p : SendsTo a b first second) (q : SendsTo b c second third) → (second ≡ without_sent p.count first) ⊎ (second ≡ lost first) → SendsTo a c first third
both_by a b c first second third p q (inl e) =
    let rest : second.output ≡ drop p.count first.output = ap (λ (it : Connection). it.output) e in
    let more : q.count ≤ length (drop p.count first.output) = subst (λ (l : List ℕ). q.count ≤ length l) rest q.within in
    let before : p.count ≤ length first.output = p.within in
    let fits : p.count + q.count ≤ length first.output = omega (arith, before, more, length-drop p.count first.output) in
    let taken : Appends a c (take p.count first.output ++ take q.count (drop p.count first.output)) =
    subst (λ (l : List ℕ). Appends a c (take p.count first.output ++ take q.count l)) rest (appends_both a b c (take p.count first.output) (take q.count second.output) p.taken q.taken) in
    record {
      count = p.count + q.count;
      within = fits;
      taken = subst (λ (l : List ℕ). Appends a c l) (sym (take_both p.count q.count first.output fits)) taken;
      left = after_both p.count q.count first second third e q.left;
    }
both_by a b c first second third p q (inr e) =
    let rest : second.output ≡ [] = ap (λ (it : Connection). it.output) e in
    let none : take q.count second.output ≡ [] = none_taken q.count second.output rest in
    let taken : Appends a c (take p.count first.output ++ []) =
    subst (λ (l : List ℕ). Appends a c (take p.count first.output ++ l)) none (appends_both a b c (take p.count first.output) (take q.count second.output) p.taken q.taken) in
    record {
      count = p.count;
      within = p.within;
      taken = subst (λ (l : List ℕ). Appends a c l) (append-nil (take p.count first.output)) taken;
      left = inr (after_loss q.count first second third e q.left);
    }

pub both_writes : (a b c : Known) (first second third : Connection) → SendsTo a b first second → SendsTo b c second third → SendsTo a c first third
both_writes a b c first second third p q = both_by a b c first second third p q p.left

lost_from : (count : ℕ) (first second third : Connection) → third ≡ lost second → (second ≡ without_sent count first) ⊎ (second ≡ lost first) → third ≡ lost first
lost_from count first second third e (inl f) = e ∙ ap (λ (it : Connection). lost it) f
lost_from count first second third e (inr f) = e ∙ ap (λ (it : Connection). lost it) f

-- what is cut off in the end is lost
pub lost_after : (a b : Known) (first second third : Connection) → SendsTo a b first second → third ≡ lost second → SendsTo a b first third
lost_after a b first second third p e = record { count = p.count; within = p.within; taken = p.taken; left = inr (lost_from p.count first second third e p.left) }
