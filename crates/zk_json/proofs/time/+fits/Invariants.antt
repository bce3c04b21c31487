-- The rest of the form.
use Rattle.std.proofs.Common.{length}
use Rattle.zk_json.proofs.time.+fits.Given as goal

abbrev pub decreases-fits : goal.decreases-fits
decreases-fits l = length l.form.now
