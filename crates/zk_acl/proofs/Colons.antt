-- A text's first colon.
use Rattle.std.proofs.Common.{◌≡◌, ℕ, ◌<◌, List, length, Some, None, cond, ap}
use Rattle.std.specs.List.{position_or_len, before_first}
use Rattle.std.proofs.lemmas.List.Folds.{list_any_none, list_any_at}
use Rattle.std.proofs.lemmas.List.Sums.{fails_before_first, passes_at_first}
use Rattle.zk_acl.specs.Digests.{is_colon, user_of}

pub user_of-none : (text : List ℕ) → position_or_len is_colon text ≡ length text → user_of text ≡ None
user_of-none text none =
    ap (λ there. cond there (Some (before_first is_colon text)) None) (list_any_none is_colon text (λ k d below. fails_before_first is_colon text k d (rw none below)))

pub user_of-some : (text : List ℕ) → position_or_len is_colon text < length text → user_of text ≡ Some (before_first is_colon text)
user_of-some text first =
    ap (λ there. cond there (Some (before_first is_colon text)) None) (list_any_at is_colon text (position_or_len is_colon text) 0 first (passes_at_first is_colon text 0 first))
