use Rattle.std.proofs.Common.{map, take}
use Rattle.zk_acl.specs.Keeping.{Keeps}
use Rattle.zk_acl.proofs.fixing.keep_all.Given as goal

-- the identities of the entry so far
abbrev pub invariant-loop-who : goal.invariant-loop-who
invariant-loop-who l = Keeps l.initial.kept.items l.kept.items (map (λ who. record l.entry { id = who }) (take l.who-index l.auths))
