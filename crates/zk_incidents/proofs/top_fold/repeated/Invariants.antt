-- The copies so far, and the remaining ones.
use Rattle.std.proofs.Common.{◌≡◌, ◌++◌, drop, map}
use Rattle.zk_incidents.proofs.top_fold.repeated.Given as goal

abbrev pub invariant-loop-path : goal.invariant-loop-path
invariant-loop-path l = map (λ key. key.now) l.keys.items ++ map (λ path. l.fn.digits) (map (λ path. path.now) (drop l._path-index l.fn.paths)) ≡ map (λ path. l.fn.digits) (map (λ path. path.now) l.fn.paths)
