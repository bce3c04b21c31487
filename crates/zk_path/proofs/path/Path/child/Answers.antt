use Rattle.std.proofs.Common.{sym, ◌∙◌, ap, lit<}
use Rattle.std.specs.Char.{encode_utf8}
use Rattle.std.proofs.lemmas.Slice.{pushed}
use Rattle.std.proofs.lemmas.Str.{encode_ascii}
use Rattle.zk_path.specs.Paths.{fault_of}
use Rattle.zk_path.proofs.Children.{child_has_no_fault, child_of-written}
use Rattle.zk_path.proofs.FaultLaw.{name_fault-IsName}
use Rattle.zk_path.proofs.path.Path.child.Goals as goal

pub returns-in_err-check_name-clause-only : goal.returns-in_err-check_name-clause-only
returns-in_err-check_name-clause-only c =
    λ is_name. absurd (cc (name_fault-IsName c.args.name.now is_name, c.in_err-check_name.ensures))

pub invariant_of-result : goal.invariant_of-result
invariant_of-result c =
    let slashed = pushed (encode_utf8 47) c.in_ok-text.ensures.ok c.in_ok-push.was c.push.ensures.bytes in
    let written = pushed c.args.name.now slashed c.in_ok-push_str.was c.push_str.ensures.bytes in
    let is = child_of-written c.args.self.now c.args.name.now _ _ _ c.before_names.ensures (encode_ascii 47 (lit< tt)) written in
    ap fault_of (c.in_ok-from_string.ensures.ok ∙ is) ∙ child_has_no_fault c.args.self.now c.args.name.now (rw (← c.self.view_is) c.self.invariant) c.requires.whole (sym c.in_ok-check_name.ensures)
