use Rattle.std.proofs.Common.{◌≡◌, ℕ, ℤ, w32, w64, to_z, of_z, FitsSigned, rules, ap, ◌∙◌, ◌++◌}
use Rattle.std.proofs.lemmas.Int.{to_z-of_z}
use Rattle.zk_crc.specs.Crc.{after_bytes}
use Rattle.zk_mend.specs.Digests.{int, long}
use Rattle.zk_crc.proofs.Crcs.{behind}
use Rattle.zk_mend.proofs.node.after_fields.Goals as goal

long_passed : (r s : ℕ) (z : ℤ) → FitsSigned w64 z → s ≡ after_bytes r (long (to_z w64 (of_z w64 z))) → s ≡ after_bytes r (long z)
long_passed r s z fits e = e ∙ ap (λ n. after_bytes r (long n)) (to_z-of_z w64 z fits)

int_passed : (r s : ℕ) (z : ℤ) → FitsSigned w32 z → s ≡ after_bytes r (int (to_z w32 (of_z w32 z))) → s ≡ after_bytes r (int z)
int_passed r s z fits e = e ∙ ap (λ n. after_bytes r (int n)) (to_z-of_z w32 z fits)

pub returns : goal.returns
returns c =
    let n = c.args.node.now in
    let r = c.args.register in
    let two = long n.czxid ++ long n.mzxid in
    let three = two ++ long n.pzxid in
    let four = three ++ long n.ctime in
    let five = four ++ long n.mtime in
    let six = five ++ int n.version in
    let seven = six ++ int n.creates in
    let eight = seven ++ int n.aversion in
    let at_one = long_passed r _ n.czxid (search rules) c.after_long-register.ensures in
    let at_two = behind r _ _ (long n.czxid) (long n.mzxid) at_one (long_passed _ _ n.mzxid (search rules) c.after_long-register-2.ensures) in
    let at_three = behind r _ _ two (long n.pzxid) at_two (long_passed _ _ n.pzxid (search rules) c.after_long-register-3.ensures) in
    let at_four = behind r _ _ three (long n.ctime) at_three (long_passed _ _ n.ctime (search rules) c.after_long-register-4.ensures) in
    let at_five = behind r _ _ four (long n.mtime) at_four (long_passed _ _ n.mtime (search rules) c.after_long-register-5.ensures) in
    let at_six = behind r _ _ five (int n.version) at_five (int_passed _ _ n.version (search rules) c.after_int-register.ensures) in
    let at_seven = behind r _ _ six (int n.creates) at_six (int_passed _ _ n.creates (search rules) c.after_int-register-2.ensures) in
    let at_eight = behind r _ _ seven (int n.aversion) at_seven (int_passed _ _ n.aversion (search rules) c.after_int-register-3.ensures) in
    behind r _ _ eight (long c.args.owner) at_eight (long_passed _ _ c.args.owner c.ranges.owner c.after_long.ensures)
