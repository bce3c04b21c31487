-- Breakpoints in the order of their numbers, none above the count, which fits 16 bits.
use Rattle.std.specs.Prelude.{◌≤◌, ℕ, List, IsTrue}
use Rattle.std.specs.FinMap.{is_sorted}
use Rattle.std.specs.List.{AllByRecursion}
use Rattle.std.specs.Ordering.{nat_cmp}
use Rattle.zk_debug.specs.declared.breakpoint.Breakpoint.{Breakpoint}

pub record AreNumbered (entries : List (ℕ × Breakpoint)) (numbered : ℕ) : Type 0 where
  pub sorted : IsTrue (is_sorted nat_cmp entries)
  pub counted : AllByRecursion (λ e. e.0 ≤ numbered) entries
  pub limited : numbered ≤ 65535
