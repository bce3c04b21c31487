-- How an iteration over the entries ends, and the reader's state.
use Rattle.std.proofs.Common.{◌≡◌, ℕ, ◌+◌, ◌<◌, ◌≤◌, List, ◌++◌, length, drop, Option, None, Some, Err, ap, ◌∙◌, arith, length-append}
use Rattle.std.specs.Io.KnownBytes.{prepend_known}
use Rattle.zk_records.proofs.EntryLaws.{length-framed}
use Rattle.zk_log.proofs.Framing.{states}
use Rattle.zk_log.specs.Cutting.{IsEntry}
use Rattle.zk_records.specs.Written.{framed, most_bytes}
use Rattle.zk_log.specs.Logs.{has_head, stated_length}
use Rattle.zk_log.specs.declared.fault.LogFault.TheVariants as log_faults
use Rattle.zk_mend.proofs.Walks.{length-newer_entry}
use Rattle.zk_mend.specs.NewerLogs.{LogPosition, start_place, after_all}
use Rattle.zk_mend.specs.Walking.{IsAt, Takes, Walked, Walks}
use Rattle.zk_mend.specs.declared.fault.MendFault.TheVariants as faults
use Rattle.zk_mend.specs.declared.walk.Walk.{Walk}

-- a head states too large a length
pub walks_too_long : (all now : Option (List ℕ)) (held : List ℕ) (walk : Walk) → Walked all (prepend_known held now) walk → has_head held → most_bytes < stated_length held → Walks all (Err (faults.Log (log_faults.TooLong walk.at))) walk
walks_too_long None now held walk w head long = tt
walks_too_long (Some all) None held walk w head long = absurd w.taken
walks_too_long (Some all) (Some rest) held walk w head long =
    let longer : 12 ≤ length (held ++ rest) = omega (arith, length-append held rest, head) in
    (w.newers, record { rest = held ++ rest; spelled = w.taken; come = w.come; stops = (w.is_at.at, longer, omega (arith, states held rest head, long)) })

-- ---- one more entry

pub entry_fits : (held bytes : List ℕ) (sum : ℕ) → IsEntry held sum bytes → 13 + length bytes ≤ length held
entry_fits held bytes sum e =
    let n = 13 + length bytes in
    let total : length held ≡ 13 + length bytes + length (drop n held) = ap length e.spelled ∙ length-append (framed sum bytes) (drop n held) ∙ ap (λ k. k + length (drop n held)) (length-framed sum bytes) in
    omega arith

pub at_more : (all now : Option (List ℕ)) (bytes : List ℕ) (sum : ℕ) (walk new : Walk) → Walked all now walk → ((place : LogPosition) → IsAt walk place → Takes place walk bytes sum new) → new.at ≡ walk.at + (13 + length bytes)
at_more all now bytes sum walk new w takes =
    let t = takes (after_all start_place w.newers) w.is_at in
    omega (arith, t.taken.follows.comes.at, w.is_at.at, length-newer_entry t.newer, ap length t.spelled.spelled)
