-- How a request is tested: in the order written, and the first test that fails gives the code.
use Rattle.std.specs.Prelude.{◌≡◌, ℤ, Bool, Option, Some, None, Result, Ok, Err, if◌then◌else◌}
use Rattle.zk_requests.specs.declared.refusal.Refusal.{Refusal}
use Rattle.zk_requests.specs.declared.refusal.Refusal.TheVariants as refusals

infixl 10 ◌>>=◌
abbrev pub ◌>>=◌ : {A B : Type 0} → Result A ℤ → (A → Result B ℤ) → Result B ℤ
(Ok x) >>= f = f x
(Err code) >>= f = Err code

abbrev pub demand : Bool → ℤ → Result (Unit {0}) ℤ
demand holds code = if holds then Ok tt else Err code

abbrev pub or_refused : {A : Type 0} → ℤ → Option A → Result A ℤ
or_refused code None = Err code
or_refused code (Some x) = Ok x

-- ---- the code's results, which include failed allocations

abbrev pub Refuses : {A : Type 0} → Refusal → Result A ℤ → Type 0
Refuses refusals.NoMemory said = Unit {0}
Refuses (refusals.Code code) said = said ≡ Err code

abbrev pub Gives : {A : Type 0} → Result A Refusal → Result A ℤ → Type 0
Gives (Ok x) said = said ≡ Ok x
Gives (Err refusal) said = Refuses refusal said
