-- What a file shows that is of one of three types.
use Rattle.std.specs.Prelude.{ℕ, Bool, List}
use Rattle.sqlite_disk.specs.declared.Disk.{Ghosts}
use Rattle.sqlite_disk.specs.declared.tally.Tally.{Tally as Counts}
use Rattle.zk_data_files.specs.declared.one_of.OneOf.{OneOf}
use Rattle.zk_data_files.specs.declared.one_of.OneOf.TheVariants.{First, Second, Third}

module _ {A B C : Type 0} (a : Ghosts A) (b : Ghosts B) (c : Ghosts C) where
  abbrev pub seen_in : OneOf A B C → List ℕ
  seen_in (First it) = a.seen it
  seen_in (Second it) = b.seen it
  seen_in (Third it) = c.seen it

  abbrev pub may_leave_in : OneOf A B C → List ℕ → Type 0
  may_leave_in (First it) = a.may_leave it
  may_leave_in (Second it) = b.may_leave it
  may_leave_in (Third it) = c.may_leave it

  abbrev pub is_usable_in : OneOf A B C → Bool
  is_usable_in (First it) = a.is_usable it
  is_usable_in (Second it) = b.is_usable it
  is_usable_in (Third it) = c.is_usable it

  abbrev pub faults_in : OneOf A B C → ℕ
  faults_in (First it) = a.faults it
  faults_in (Second it) = b.faults it
  faults_in (Third it) = c.faults it

  abbrev pub tally_of_in : OneOf A B C → Counts
  tally_of_in (First it) = a.tally_of it
  tally_of_in (Second it) = b.tally_of it
  tally_of_in (Third it) = c.tally_of it

  abbrev pub is_clean_in : OneOf A B C → Bool
  is_clean_in (First it) = a.is_clean it
  is_clean_in (Second it) = b.is_clean it
  is_clean_in (Third it) = c.is_clean it

  abbrev pub key_of_in : OneOf A B C → ℕ
  key_of_in (First it) = a.key_of it
  key_of_in (Second it) = b.key_of it
  key_of_in (Third it) = c.key_of it

  abbrev pub is_fair_in : OneOf A B C → ℕ → Bool
  is_fair_in (First it) = a.is_fair it
  is_fair_in (Second it) = b.is_fair it
  is_fair_in (Third it) = c.is_fair it

  abbrev pub is_frozen_in : OneOf A B C → Bool
  is_frozen_in (First it) = a.is_frozen it
  is_frozen_in (Second it) = b.is_frozen it
  is_frozen_in (Third it) = c.is_frozen it

  abbrev pub is_rotten_in : OneOf A B C → ℕ → ℕ → Bool
  is_rotten_in (First it) = a.is_rotten it
  is_rotten_in (Second it) = b.is_rotten it
  is_rotten_in (Third it) = c.is_rotten it

  abbrev pub is_mixing_in : OneOf A B C → Bool
  is_mixing_in (First it) = a.is_mixing it
  is_mixing_in (Second it) = b.is_mixing it
  is_mixing_in (Third it) = c.is_mixing it
