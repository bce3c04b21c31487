-- The listings of logs, by all steps.
use Rattle.std.proofs.Common.{◌≡◌, inl, inr, ℕ, ℤ, pos, List, [], ◌∷◌, ◌++◌, take, Option, Some, None, refl, sym, ap, ◌∙◌, subst, append_assoc}
use Rattle.std.specs.Prelude.{⊤}
use Rattle.zk_listings.specs.Followings.{Follows, Place, Read, Step, TakesBytes, Turn, TurnsFrom, first_place}
use Rattle.zk_listings.specs.FollowedListings.{ListsLogs}
use Rattle.zk_listings.proofs.Following.{entries_joined, last_joined, lines_joined, shown_joined}
use Rattle.zk_listings.specs.Tails.{AreEntries, Feeds, last_of, position_of, shown_of}
use Rattle.zk_listings.specs.declared.tail.Fed.{Fed}
use Rattle.zk_listings.specs.declared.tail.LogTail.{LogTail}
use Rattle.zk_cli_args.specs.declared.form.Form.{Form}
use Rattle.zk_newer_records.specs.declared.newer_record.NewerRecord.{NewerRecord}
use Rattle.zk_table.specs.declared.txn.Txn.{Txn}
use Rattle.zk_listings.specs.Lines.{AreTxnLines}

abbrev Lists : Form → LogTail → List ℕ → Type 0
Lists form tail text = (taken : List ℕ) × (logs : List (List ℕ)) × ListsLogs form tail.last tail.after taken logs text

-- the entries of a read, and those after them in the same log
entries_on : (form : Form) (old next : LogTail) (bytes taken : List ℕ) (fed : Fed) (lines : List ℕ) (others : List NewerRecord) (f : Feeds form old bytes [] fed next lines)
    → AreEntries next.last taken others → AreEntries old.last (take fed.consumed bytes ++ taken) (f.records ++ others)
entries_on form old next bytes taken fed lines others f are =
    entries_joined old.last (take fed.consumed bytes) taken f.records others f.are (subst (λ (z : ℤ). AreEntries z taken others) f.last are)

lines_on : (form : Form) (old next : LogTail) (bytes : List ℕ) (fed : Fed) (lines more : List ℕ) (others : List NewerRecord) (f : Feeds form old bytes [] fed next lines)
    → AreTxnLines form (shown_of next.after others) more → AreTxnLines form (shown_of old.after (f.records ++ others)) (lines ++ more)
lines_on form old next bytes fed lines more others f are =
    let h = f.lines in
    let first : AreTxnLines form (shown_of old.after f.records) lines = subst (λ (l : List ℕ). AreTxnLines form (shown_of old.after f.records) l) (sym h.2) h.1 in
    let second : AreTxnLines form (shown_of old.after others) more = subst (λ (z : ℤ). AreTxnLines form (shown_of z others) more) f.after are in
    subst (λ (ts : List Txn). AreTxnLines form ts (lines ++ more)) (sym (shown_joined old.after f.records others)) (lines_joined form (shown_of old.after f.records) (shown_of old.after others) lines more first second)

feeds_on : (form : Form) (old next : LogTail) (bytes : List ℕ) (fed : Fed) (lines rest taken : List ℕ) (logs : List (List ℕ)) → Feeds form old bytes [] fed next lines
    → ListsLogs form next.last next.after taken logs rest → ListsLogs form old.last old.after (take fed.consumed bytes ++ taken) logs (lines ++ rest)
feeds_on form old next bytes fed lines rest taken [] f r = (f.records ++ r.0, entries_on form old next bytes taken fed lines r.0 f r.1, lines_on form old next bytes fed lines rest r.0 f r.2)
feeds_on form old next bytes fed lines rest taken (log ∷ logs) f r =
    let last : last_of next.last r.0 ≡ last_of old.last (f.records ++ r.0) = ap (λ (z : ℤ). last_of z r.0) f.last ∙ sym (last_joined old.last f.records r.0) in
    let position : position_of (last_of next.last r.0) next.after ≡ position_of (last_of old.last (f.records ++ r.0)) old.after =
    ap (λ (z : ℤ). position_of z next.after) last ∙ ap (λ (z : ℤ). position_of (last_of old.last (f.records ++ r.0)) z) f.after in (
      f.records ++ r.0,
      lines ++ r.1,
      r.2,
      entries_on form old next bytes taken fed lines r.0 f r.3,
      lines_on form old next bytes fed lines r.1 r.0 f r.4,
      subst (λ (z : ℤ). ListsLogs form (pos 0) z log logs r.2) position r.5,
      ap (λ l. lines ++ l) r.6 ∙ sym (append_assoc lines r.1 r.2),
    )

read_on : (form : Form) (old next : LogTail) (bytes : List ℕ) (fed : Fed) (lines rest : List ℕ) → TakesBytes form old bytes fed lines next → Lists form next rest → Lists form old (lines ++ rest)
read_on form old next bytes fed lines rest (inl (zero, none, inl (header, is))) r =
    subst (λ (l : List ℕ). Lists form old (l ++ rest)) (sym none) (subst (λ (t : LogTail). ListsLogs form t.last t.after r.0 r.1 rest → Lists form old rest) (sym header.1) (λ h. (r.0, r.1, h)) r.2)
read_on form old next bytes fed lines rest (inl (zero, none, inr (header, is))) r = subst (λ (l : List ℕ). Lists form old (l ++ rest)) (sym none) (subst (λ (t : LogTail). Lists form t rest) header.1 r)
read_on form old next bytes fed lines rest (inr (written, feeds)) r = (take fed.consumed bytes ++ r.0, r.1, feeds_on form old next bytes fed lines rest r.0 r.1 feeds r.2)

turn_on : (log : Option ℤ) (old : Place) (next : LogTail) (zxid : ℤ) (text : List ℕ) → TurnsFrom log old zxid next → Lists old.form next text → Lists old.form old.tail text
turn_on None old next zxid text h r = subst (λ (t : LogTail). Lists old.form t text) h r
turn_on (Some log) old next zxid text h r = ([], r.0 ∷ r.1, ([], [], text, refl, refl, subst (λ (t : LogTail). ListsLogs old.form t.last t.after r.0 r.1 text) h.2 r.2, refl))

steps_listed : (gives : ℤ → ℕ → List ℕ → Type 0) (old now : Place) (steps : List Step) (text : List ℕ) → Follows gives old steps text now → Lists old.form old.tail text
steps_listed gives old now [] text p = ([], [], ([], refl, p.0))
steps_listed gives old now (Turn zxid ∷ steps) text p =
    let rest = subst (λ (form : Form). Lists form p.0.tail p.2) p.3.1.form (steps_listed gives p.0 now steps p.2 p.4) in
    subst (λ (l : List ℕ). Lists old.form old.tail l) (sym (p.5 ∙ ap (λ l. l ++ p.2) p.3.0)) (turn_on old.log old p.0.tail zxid p.2 p.3.1.tail rest)
steps_listed gives old now (Read bytes ∷ steps) text p =
    let rest = subst (λ (form : Form). Lists form p.0.tail p.2) p.3.1.1.form (steps_listed gives p.0 now steps p.2 p.4) in
    subst (λ (l : List ℕ). Lists old.form old.tail l) (sym p.5) (read_on old.form old.tail p.0.tail bytes p.3.0 p.1 p.2 p.3.1.1.takes rest)

pub all_listed : (form : Form) (steps : List Step) (text : List ℕ) (now : Place) → Follows (λ zxid at bytes. ⊤) (first_place form) steps text now → Lists form (first_place form).tail text
all_listed form steps text now p = steps_listed (λ zxid at bytes. ⊤) (first_place form) now steps text p
