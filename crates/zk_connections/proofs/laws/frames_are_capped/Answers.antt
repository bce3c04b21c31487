use Rattle.std.proofs.Common.{ℕ, ℤ, List, length, ◌≤◌, Option, Some, None, Result, Ok, Err, arith}
use Rattle.std.specs.Prelude.{pos, negsuc, nat_lt, if◌then◌else◌}
use Rattle.std.specs.Int.{w32}
use Rattle.std.proofs.lemmas.Bool.{cond_both}
use Rattle.zk_connections.specs.ConnectionLaws.{IsCapped}
use Rattle.zk_frames.specs.Frames.{length_in, most_bytes, next_by, next_frame_in}
use Rattle.zk_frames.specs.declared.fault.FrameFault.TheVariants as faults
use Rattle.zk_jute.specs.Reading.{number_at}
use Rattle.zk_jute.specs.declared.fault.JuteFault.{JuteFault}
use Rattle.zk_connections.proofs.laws.frames_are_capped.Goals as goal

by_length : (length_of : ℤ) (rest : List ℕ) → IsCapped (length_in length_of rest)
by_length (pos n) rest =
    cond_both (nat_lt most_bytes n) (Err faults.Length) (if nat_lt (length rest) n then Ok None else Ok (Some n)) IsCapped (λ _. tt)
    (λ few. cond_both (nat_lt (length rest) n) (Ok None) (Ok (Some n)) IsCapped (λ _. tt) (λ _. grind (arith, few)))
by_length (negsuc n) rest = tt

by_number : (read : Result (ℤ × List ℕ) JuteFault) → IsCapped (next_by read)
by_number (Ok read) = by_length read.0 read.1
by_number (Err fault) = tt

pub returns : goal.returns
returns c = λ input. by_number (number_at w32 input)
