use Rattle.std.proofs.Common.{refl}
use Rattle.std.proofs.lemmas.Option.{MatchOption-at_some}
use Rattle.zk_path.proofs.Slashes.{cuts_at_last_slash, before_last_slash_at, after_last_slash_at, slash_found}
use Rattle.zk_path.proofs.path.Path.around_last_slash.Goals as goal

pub unwrap-requires : goal.unwrap-requires
unwrap-requires c = slash_found c.text.result.now c.rsplit_once.result (rw c.text.ensures.text c.text.ensures.is_path) c.rsplit_once.ensures.cases

pub returns-clause-before : goal.returns-clause-before
returns-clause-before c =
    let cut = cuts_at_last_slash _ _ _ (MatchOption-at_some _ _ c.unwrap.result c.unwrap.ensures c.rsplit_once.ensures.cases) in
    rw (← c.text.ensures.text, cut.whole, before_last_slash_at _ _ cut.last) refl

pub returns-clause-behind : goal.returns-clause-behind
returns-clause-behind c =
    let cut = cuts_at_last_slash _ _ _ (MatchOption-at_some _ _ c.unwrap.result c.unwrap.ensures c.rsplit_once.ensures.cases) in
    rw (← c.text.ensures.text, cut.whole, after_last_slash_at _ _ cut.last) refl
