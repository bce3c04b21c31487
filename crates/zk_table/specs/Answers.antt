-- Results of operations that name no path.
use Rattle.std.specs.Prelude.{ℤ, None}
use Rattle.zk_table.specs.declared.result.PartResult.{PartResult}

-- the result of an operation that names no path, applied or rejected
abbrev pub plain_answer : ℤ → PartResult
plain_answer code = record { err = code; path = None; stat = None }
