-- The texts of folds after all records.
use Rattle.std.proofs.Common.{◌≡◌, ℕ, Option, List, [], ◌∷◌, ◌++◌, refl, sym, ap, ◌∙◌, subst, append_assoc, append-nil}
use Rattle.std.specs.String.{string_bytes}
use Rattle.zk_newer_records.specs.declared.newer_record.NewerRecord.{NewerRecord}
use Rattle.zk_newer_records.specs.Folds.{AllFollow}
use Rattle.zk_incidents.specs.Counts.{Counted, counted_all, counted_one}
use Rattle.zk_incidents.specs.Histories.{Follows, IsHistoryFrom}
use Rattle.zk_incidents.specs.Owners.{Owned}
use Rattle.zk_incidents.specs.Tops.{Counts, all_keys, keys_in, rows_text, top_text}
use Rattle.zk_incidents.specs.declared.history_fold.History.{History}
use Rattle.zk_directory_state.specs.declared.range.Range.{Range}
use Rattle.zk_incidents.specs.declared.scope.Scope.{Scope}
use Rattle.zk_incidents.specs.declared.top_fold.Key.{Key}
use Rattle.zk_incidents.specs.declared.top_fold.Top.{Top}

-- ---- a history

abbrev pub IsToldFrom : Scope → Owned → List NewerRecord → List ℕ → Type 0
IsToldFrom scope owned records text = IsHistoryFrom (string_bytes scope.root) scope.below owned records text

told_from : (start new : History) (records : List NewerRecord) → AllFollow Follows start records new → (text : List ℕ) × IsToldFrom start.scope start.owners records text × (string_bytes new.text ≡ string_bytes start.text ++ text)
told_from start new [] e = ([], refl, ap (λ (h : History). string_bytes h.text) e ∙ sym (append-nil (string_bytes start.text)))
told_from start new (newer ∷ records) f =
    let next = f.0 in
    let more = told_from next new records f.2 in
    let line = f.1.line in
    let rest = subst (λ (scope : Scope). IsToldFrom scope next.owners records more.0) f.1.scope more.1 in
    (line.0 ++ more.0, (line.0, more.0, line.1, subst (λ (owned : Owned). IsToldFrom start.scope owned records more.0) f.1.owners rest, refl), more.2 ∙ ap (λ l. l ++ more.0) line.2 ∙ append_assoc (string_bytes start.text) line.0 more.0)

pub history_told : (root : List ℕ) (owned : Owned) (start new : History) (records : List NewerRecord) → string_bytes start.scope.root ≡ root → start.owners ≡ owned → string_bytes start.text ≡ [] → AllFollow Follows start records new
    → IsHistoryFrom root start.scope.below owned records (string_bytes new.text)
history_told root owned start new records of from empty f =
    let told = told_from start new records f in
    let text = told.2 ∙ ap (λ l. l ++ told.0) empty in
    subst (λ (l : List ℕ). IsHistoryFrom l start.scope.below owned records (string_bytes new.text)) of
    (subst (λ (o : Owned). IsToldFrom start.scope o records (string_bytes new.text)) from (subst (λ (l : List ℕ). IsToldFrom start.scope start.owners records l) (sym text) told.1))

-- ---- counts

counted_more : (counted : Counted) (front more : List (List ℕ)) → counted_all counted (front ++ more) ≡ counted_all (counted_all counted front) more
counted_more counted [] more = refl
counted_more counted (text ∷ front) more = counted_more (counted_one counted text) front more

abbrev pub counted_in : Range → Key → Counted → List NewerRecord → Counted
counted_in range key counted records = counted_all counted (all_keys range key records)

counted_from : (start new : Top) (records : List NewerRecord) → AllFollow Counts start records new → (new.key ≡ start.key) × (new.counts ≡ counted_in start.range start.key start.counts records)
counted_from start new [] e = (ap (λ (t : Top). t.key) e, ap (λ (t : Top). t.counts) e)
counted_from start new (newer ∷ records) f =
    let next = f.0 in
    let more = counted_from next new records f.2 in (
      more.0 ∙ f.1.key,
      more.1
          ∙ ap (λ (r : Range). counted_in r next.key next.counts records) f.1.range
          ∙ ap (λ (k : Key). counted_in start.range k next.counts records) f.1.key
          ∙ ap (λ (c : Counted). counted_in start.range start.key c records) f.1.counts
          ∙ sym (counted_more start.counts (keys_in start.range start.key newer) (all_keys start.range start.key records)),
    )

pub top_told : (number : Option ℕ) (start new : Top) (records : List NewerRecord) → start.counts ≡ [] → AllFollow Counts start records new → rows_text new.key number new.counts ≡ top_text start.range start.key number records
top_told number start new records none f =
    let told = counted_from start new records f in
    ap (λ (k : Key). rows_text k number new.counts) told.0
    ∙ ap (rows_text start.key number) (told.1 ∙ ap (λ (c : Counted). counted_in start.range start.key c records) none)

pub counts_told : (start new : Top) (records : List NewerRecord) → start.counts ≡ [] → AllFollow Counts start records new → new.counts ≡ counted_all [] (all_keys start.range start.key records)
counts_told start new records none f = (counted_from start new records f).1 ∙ ap (λ (c : Counted). counted_in start.range start.key c records) none
