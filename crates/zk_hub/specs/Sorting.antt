-- How requests are sorted into replies that can be written and requests that are left, one at a
-- time: whether all earlier requests of the connection have their replies goes along.
use Rattle.std.specs.Prelude.{ℕ, ◌&&◌, Bool, List, [], ◌∷◌, ◌++◌, if◌then◌else◌}
use Rattle.zk_hub.specs.declared.request.Outstanding.{Outstanding}
use Rattle.zk_hub.specs.declared.request.Reply.{Reply}
use Rattle.zk_hub.specs.Hubs.{is_of, is_done, reply_to, before_replies}

abbrev pub reply_now : {E R : Type 0} → Bool → ℕ → Outstanding E R → List (Reply E R)
reply_now ready connection request = if ready && is_of connection request then before_replies (reply_to request) [] else []

abbrev pub kept_now : {E R : Type 0} → Bool → ℕ → Outstanding E R → List (Outstanding E R)
kept_now ready connection request = if ready && (is_of connection request && is_done request.stage) then [] else request ∷ []

abbrev pub still_ready : {E R : Type 0} → Bool → ℕ → Outstanding E R → Bool
still_ready ready connection request = if ready && is_of connection request then is_done request.stage else ready

abbrev pub replies_from : {E R : Type 0} → Bool → ℕ → List (Outstanding E R) → List (Reply E R)
replies_from ready connection [] = []
replies_from ready connection (request ∷ requests) =
    reply_now ready connection request ++ replies_from (still_ready ready connection request) connection requests

abbrev pub kept_from : {E R : Type 0} → Bool → ℕ → List (Outstanding E R) → List (Outstanding E R)
kept_from ready connection [] = []
kept_from ready connection (request ∷ requests) =
    kept_now ready connection request ++ kept_from (still_ready ready connection request) connection requests
