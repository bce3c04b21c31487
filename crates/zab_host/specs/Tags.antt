-- The tags of requests.
use Rattle.std.specs.Prelude.{◌≡◌, ℕ, ◌+◌, ◌*◌, ◌<◌}

-- 8 bits for the host, 24 for the count of its starts, 32 for the request's number since the last
-- of them
abbrev pub tag_of : ℕ → ℕ → ℕ → ℕ
tag_of host boot number = host * 72057594037927936 + boot * 4294967296 + number

-- a request: its host, the number of the host's starts by then, and the number of requests before
-- it since the last start
pub record Request : Type 0 where
  pub host : ℕ
  pub boot : ℕ
  pub number : ℕ

abbrev pub request_tag : Request → ℕ
request_tag request = tag_of request.host request.boot request.number

pub record IsInRange (request : Request) : Type 0 where
  pub host : request.host < 256
  pub boot : request.boot < 16777216
  pub number : request.number < 4294967296

-- no two requests share a tag
abbrev pub TagsDiffer : Type 0
TagsDiffer = (one other : Request) → IsInRange one → IsInRange other → request_tag one ≡ request_tag other → one ≡ other
