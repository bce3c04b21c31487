-- Growing a list of entries without duplicates.
use Rattle.std.specs.Prelude.{◌≡◌, List, ◌++◌}
use Rattle.zk_acl.specs.Access.{each_once}
use Rattle.zk_acl.specs.declared.acl.Acl.{Acl}

-- storing these entries after the old list gives the new list
abbrev pub Keeps : List Acl → List Acl → List Acl → Type 0
Keeps old new entries = (before : List Acl) → old ≡ each_once before → new ≡ each_once (before ++ entries)
