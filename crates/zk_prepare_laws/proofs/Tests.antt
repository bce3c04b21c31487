-- What has passed, where tests in turn give an answer.
use Rattle.std.proofs.Common.{◌≡◌, ℕ, ℤ, Bool, true, false, List, Option, Some, None, is_none, cond, Result, Ok, Err, refl}
use Rattle.zk_path.specs.Paths.{fault_of}
use Rattle.zk_table.specs.Codes.{bad_arguments}
use Rattle.zk_requests.specs.Refusals.{◌>>=◌, demand, or_refused}
use Rattle.zk_requests.specs.Requests.{path_in}

pub after_demand : {B : Type 0} (test : Bool) (code : ℤ) (rest : Result B ℤ) (y : B) → (demand test code >>= λ _. rest) ≡ Ok y → (test ≡ true) × (rest ≡ Ok y)
after_demand true code rest y e = (refl, e)
after_demand false code rest y e = absurd (cc)

pub record Passed {A B : Type 0} (r : Result A ℤ) (f : A → Result B ℤ) (y : B) : Type 0 where
  pub value : A
  pub first : r ≡ Ok value
  pub rest : f value ≡ Ok y

pub after : {A B : Type 0} (r : Result A ℤ) (f : A → Result B ℤ) (y : B) → (r >>= f) ≡ Ok y → Passed r f y
after (Ok x) f y e = record { value = x; first = refl; rest = e }
after (Err code) f y e = absurd (cc)

pub record Found {A B : Type 0} (o : Option A) (f : A → Result B ℤ) (y : B) : Type 0 where
  pub value : A
  pub is : o ≡ Some value
  pub rest : f value ≡ Ok y

pub after_option : {A B : Type 0} (code : ℤ) (o : Option A) (f : A → Result B ℤ) (y : B) → (or_refused code o >>= f) ≡ Ok y → Found o f y
after_option code None f y e = absurd (cc)
after_option code (Some x) f y e = record { value = x; is = refl; rest = e }

after_cond : {A B : Type 0} (test : Bool) (x : A) (code : ℤ) (f : A → Result B ℤ) (y : B) → (cond test (Ok x) (Err code) >>= f) ≡ Ok y → f x ≡ Ok y
after_cond true x code f y e = e
after_cond false x code f y e = absurd (cc)

pub after_path : {B : Type 0} (text : List ℕ) (f : List ℕ → Result B ℤ) (y : B) → (path_in text >>= f) ≡ Ok y → f text ≡ Ok y
after_path text f y e = after_cond (is_none (fault_of text)) text bad_arguments f y e

pub same_ok : {A : Type 0} (x y : A) → ◌≡◌ {A = Result A ℤ} (Ok x) (Ok y) → y ≡ x
same_ok x y e = cc
