-- Words that are there or not.
use Rattle.std.proofs.Common.{◌≡◌, ℕ, Bool, true, false, cond, List, ◌∷◌, ◌++◌, Option, Some, None, refl, ap, ◌∙◌}
use Rattle.std.proofs.lemmas.Slice.Eq.{bytes_eq-Decides}
use Rattle.std.specs.Prelude.{codes}
use Rattle.std.specs.Str.{bytes_eq}
use Rattle.zk_listing.specs.Reading.{front_of, back_of, past}
use Rattle.zk_listing.proofs.Exact.{past_is, front-back}
use Rattle.zk_request_syntax.specs.Reading.{flag_behind, flag_at}
use Rattle.zk_request_syntax.specs.RequestLines.{flag_text}

word_in_front : (word bytes rest : List ℕ) (b : Bool) → bytes ≡ 32 ∷ rest → bytes_eq (front_of rest) word ≡ b → bytes ≡ flag_text (cond {A = Bool × List ℕ} b (true, back_of rest) (false, bytes)).0 word ++ (cond {A = Bool × List ℕ} b (true, back_of rest) (false, bytes)).1
word_in_front word bytes rest true e same =
    e ∙ ap (λ (xs : List ℕ). 32 ∷ xs) (front-back rest ∙ ap (λ (w : List ℕ). w ++ back_of rest) ((bytes_eq-Decides (front_of rest) word).0 same))
word_in_front word bytes rest false e other = refl

flag_behind_is : (word bytes : List ℕ) (o : Option (List ℕ)) → past 32 bytes ≡ o → bytes ≡ flag_text (flag_behind word bytes o).0 word ++ (flag_behind word bytes o).1
flag_behind_is word bytes None e = refl
flag_behind_is word bytes (Some rest) e = word_in_front word bytes rest (bytes_eq (front_of rest) word) (past_is 32 bytes rest e) refl

-- what stands in front is the word, if it is there
pub flag_is : (word bytes : List ℕ) → bytes ≡ flag_text (flag_at word bytes).0 word ++ (flag_at word bytes).1
unfolding flag_at
flag_is word bytes = flag_behind_is word bytes (past 32 bytes) refl

-- before a quoted text each flag is read as it stands
pub flags_again : (s e : Bool) (more : List ℕ) → flag_at (codes "-s") (flag_text s (codes "-s") ++ (flag_text e (codes "-e") ++ 32 ∷ 34 ∷ more)) ≡ (s, flag_text e (codes "-e") ++ 32 ∷ 34 ∷ more)
unfolding flag_at front_of back_of
flags_again true true more = refl
flags_again true false more = refl
flags_again false true more = refl
flags_again false false more = refl

pub last_flag_again : (e : Bool) (more : List ℕ) → flag_at (codes "-e") (flag_text e (codes "-e") ++ 32 ∷ 34 ∷ more) ≡ (e, 32 ∷ 34 ∷ more)
unfolding flag_at front_of back_of
last_flag_again true more = refl
last_flag_again false more = refl

pub watch_again : (w : Bool) (more : List ℕ) → flag_at (codes "-w") (flag_text w (codes "-w") ++ 32 ∷ 34 ∷ more) ≡ (w, 32 ∷ 34 ∷ more)
unfolding flag_at front_of back_of
watch_again true more = refl
watch_again false more = refl

-- a space and a word that begins with neither a space nor a newline
pub semicolon_again : (more : List ℕ) → flag_at (codes ";") (codes " ; " ++ more) ≡ (true, 32 ∷ more)
unfolding flag_at front_of back_of
semicolon_again more = refl

-- where no space stands in front, no word does
pub no_flag : (word bytes : List ℕ) → past 32 bytes ≡ None → (false, bytes) ≡ flag_at word bytes
unfolding flag_at
no_flag word bytes h = rw h refl
