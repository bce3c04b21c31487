-- The links between the servers of one process. Servers have places: server 1 is at 0. A connection has
-- two numbers, one for each server that reads; no number is used twice.
use Rattle.std.specs.Prelude.{ℕ, zero, suc, ◌+◌, Bool, List, [], ◌∷◌, length, replicate, nat_lt}
use Rattle.zk_local_links.specs.Inboxes.{InboxView, brought, closed, emptied, new_inbox, opened}

pub record LocalView : Type 0 where
  pub boxes : List InboxView
  -- the number that was used last
  pub used : ℕ

abbrev pub local : List InboxView → ℕ → LocalView
local boxes used = record { boxes = boxes; used = used }

abbrev pub new_links : ℕ → LocalView
new_links servers = local (replicate servers (new_inbox servers)) 0

-- what is at a place is changed; the others stay
abbrev pub changed_at : ℕ → (InboxView → InboxView) → List InboxView → List InboxView
changed_at place change [] = []
changed_at zero change (it ∷ its) = change it ∷ its
changed_at (suc place) change (it ∷ its) = it ∷ changed_at place change its

abbrev pub at : ℕ → (InboxView → InboxView) → LocalView → LocalView
at place change it = local (changed_at place change it.boxes) it.used

-- ---- connections

-- a number that was never used
abbrev pub opens : ℕ → ℕ → LocalView → LocalView
opens reader writer it = local (changed_at reader (opened writer (it.used + 1)) it.boxes) (it.used + 1)

abbrev pub disconnected : ℕ → ℕ → LocalView → LocalView
disconnected one other it = at other (closed one) (at one (closed other) it)

-- the earlier connection of the two ends
abbrev pub connected : ℕ → ℕ → LocalView → LocalView
connected one other it = opens other one (opens one other (disconnected one other it))

-- whether two numbers are left
abbrev pub has_numbers : LocalView → Bool
has_numbers it = nat_lt it.used 18446744073709551614

-- all connections with the first servers end
abbrev pub apart_from : ℕ → ℕ → LocalView → LocalView
apart_from zero place it = it
apart_from (suc count) place it = disconnected place count (apart_from count place it)

-- a server has stopped: what had come to it is lost
abbrev pub isolated : ℕ → LocalView → LocalView
isolated place it = at place emptied (apart_from (length it.boxes) place it)

-- ---- what is written

-- to the servers from a place on, to each its bytes
abbrev pub posted_from : ℕ → ℕ → List (List ℕ) → LocalView → LocalView
posted_from reader writer [] it = it
posted_from reader writer (bytes ∷ outputs) it = posted_from (reader + 1) writer outputs (at reader (brought writer bytes) it)

abbrev pub posted : ℕ → List (List ℕ) → LocalView → LocalView
posted writer outputs it = posted_from 0 writer outputs it
