-- The text of a time.
use Rattle.std.proofs.Common.{◌≡◌, ℕ, ℤ, List, subst}
use Rattle.zk_json.specs.Times.{AppendsInstant, AppendsTime, IsClockText, Shown, nanoseconds}

pub appended_at : (old : List ℕ) (time nanosecond : ℤ) (new : List ℕ) → nanosecond ≡ nanoseconds time → AppendsInstant old nanosecond new → AppendsTime old time new
appended_at old time nanosecond new is a = (a.0, Shown (subst (λ (n : ℤ). IsClockText n a.0) is a.1), a.2)
