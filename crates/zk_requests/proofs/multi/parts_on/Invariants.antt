use Rattle.std.proofs.Common.{◌≡◌, ◌++◌, drop}
use Rattle.zk_requests.specs.Requests.{parts_after, parts_on}
use Rattle.zk_requests.proofs.multi.parts_on.Given as goal

-- the parts so far, and those that are made of the ones that are left
abbrev pub invariant-loop-part : goal.invariant-loop-part
invariant-loop-part l = l.made.items ++ parts_after l.header l.auths l.nodes l.refused (drop l.part-index l.parts) ≡ parts_on l.header l.auths l.fn.nodes l.parts
