use Rattle.std.proofs.Common.{ℕ, ℤ, List, map, w64, rules, sym, ap, ◌∙◌}
use Rattle.std.proofs.lemmas.Int.{to_z-of_z}
use Rattle.std.proofs.lemmas.Result.{on_ok_weaker}
use Rattle.std.specs.Borrow.{Bor}
use Rattle.zk_format.specs.Spelling.{id_digits}
use Rattle.zk_incidents.specs.Counts.{counted_all}
use Rattle.zk_incidents.specs.Tops.{keys_of}
use Rattle.zk_incidents.specs.declared.top_fold.Key.{Key}
use Rattle.zk_incidents.proofs.top_fold.count_record.Goals as goal

pub returns : goal.returns
returns c =
    let newer = c.args.newer.now in
    let counts = c.args.counts.now in
    let texts = map (λ (path : Bor (List ℕ)). path.now) in
    let paths = ap texts c.as_slice-in-Session.ensures.value ∙ c.in_ok-paths.ensures in
    on_ok_weaker c.count_session.result (λ e. e
    ∙ ap (λ (session : ℤ). counted_all counts (map (λ (path : List ℕ). id_digits session) (texts c.as_slice-in-Session.result.now))) (to_z-of_z w64 newer.txn.session (search rules))
    ∙ ap (λ (l : List (List ℕ)). counted_all counts (map (λ path. id_digits newer.txn.session) l)) paths
    ∙ ap (λ (key : Key). counted_all counts (keys_of key newer)) (sym c.in-Session.is)) c.count_session.ensures
