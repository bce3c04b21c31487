-- Lines that were read in order.
use Rattle.std.proofs.Common.{◌≡◌, ◌≢◌, ◌∙◌, ℕ, ◌==◌, ◌⊎◌, List, [], ◌∷◌, ◌++◌, Bool, true, false, Option, Some, None, Ok, refl, sym, ap, subst, inl, inr, append_assoc, append-nil}
use Rattle.std.specs.Io.KnownBytes.{Consumes, IsAtEnd}
use Rattle.zk_listing.specs.Lines.{begun_by, lines_of}
use Rattle.zk_commands.specs.HearingLines.{HeardAtEnd, Hears}
use Rattle.zk_commands.specs.Lines.{Holds, HearsLine, HearsLines, HearsPart, IsUnended}
use Rattle.zk_commands.specs.declared.hearing_lines.ReadLine.{ReadLine}
use Rattle.zk_commands.specs.declared.hearing_lines.ReadLine.TheVariants as heards
use Rattle.zk_commands.specs.declared.line.Line.{Line}
use Rattle.zk_commands.proofs.BytesLaws.{consumed_nothing, consumed_more}

one_line : (text more : List ℕ) → IsUnended text → lines_of (text ++ 10 ∷ more) ≡ text ∷ lines_of more
unfolding lines_of
one_line [] more u = refl
one_line (b ∷ bs) more u = rw u.0 (ap (begun_by b) (one_line bs more u.1))

last_line : (text : List ℕ) → IsUnended text → text ≢ [] → lines_of text ≡ text ∷ []
unfolding lines_of
last_line [] u some = absurd (some refl)
last_line (b ∷ []) u some = rw u.0 refl
last_line (b ∷ c ∷ cs) u some = rw u.0 (ap (begun_by b) (last_line (c ∷ cs) u.1 (λ e. cc)))

no_line : lines_of [] ≡ []
unfolding lines_of
no_line = refl

pub unended_more : (text : List ℕ) (b : ℕ) → IsUnended text → (b == 10) ≡ false → IsUnended (text ++ b ∷ [])
unended_more [] b u e = (e, tt)
unended_more (x ∷ xs) b u e = (u.0, unended_more xs b u.1 e)

-- ---- one more line

pub no_lines : (left : Option (List ℕ)) → HearsLines left left []
no_lines left = record { read = []; consumed = consumed_nothing left; split = no_line; between = inl (λ more. refl) }

filled : (text : List ℕ) → text ++ 10 ∷ [] ≢ []
filled [] = λ e. cc
filled (b ∷ bs) = λ e. cc

nothing_left : {P : Type 0} (left left' : Option (List ℕ)) (read : List ℕ) → left ≡ Some [] → Consumes left left' read → read ≢ [] → P
nothing_left None left' read e c some = let bad : None ≡ Some [] = e in cc
nothing_left (Some xs) None read e c some = absurd c
nothing_left (Some xs) (Some ys) [] e c some = absurd (some refl)
nothing_left (Some xs) (Some ys) (b ∷ bs) e c some = let bad : Some (b ∷ (bs ++ ys)) ≡ Some [] = ap (λ (l : List ℕ). Some l) (sym c) ∙ e in cc

module _ (left middle left' : Option (List ℕ)) (lines : List (List ℕ)) (h : HearsLines left middle lines) (text : List ℕ) (one : HearsLine middle left' text) where
  consumed : Consumes left left' (h.read ++ one.read)
  consumed = consumed_more left middle left' h.read one.read h.consumed one.consumed

  split_so : ((more : List ℕ) → lines_of (h.read ++ more) ≡ lines ++ lines_of more) → lines_of one.read ≡ text ∷ [] → lines_of (h.read ++ one.read) ≡ lines ++ text ∷ []
  split_so cut e = cut one.read ∙ ap (λ (ls : List (List ℕ)). lines ++ ls) e

  by_newline : ((more : List ℕ) → lines_of (h.read ++ more) ≡ lines ++ lines_of more) → one.read ≡ text ++ 10 ∷ [] → HearsLines left left' (lines ++ text ∷ [])
  by_newline cut e = record {
    read = h.read ++ one.read;
    consumed = consumed;
    split = split_so cut (ap lines_of e ∙ one_line text [] one.unended ∙ ap (λ (ls : List (List ℕ)). text ∷ ls) no_line);
    between = inl (λ more.
        ap lines_of (append_assoc h.read one.read more) ∙ cut (one.read ++ more)
        ∙ ap (λ (ls : List (List ℕ)). lines ++ ls) (ap (λ (l : List ℕ). lines_of (l ++ more)) e ∙ ap lines_of (append_assoc text (10 ∷ []) more) ∙ one_line text more one.unended)
        ∙ sym (append_assoc lines (text ∷ []) (lines_of more)));
  }

  at_end : ((more : List ℕ) → lines_of (h.read ++ more) ≡ lines ++ lines_of more) → one.read ≡ text → text ≢ [] → left' ≡ Some [] → HearsLines left left' (lines ++ text ∷ [])
  at_end cut e some end = record {
    read = h.read ++ one.read;
    consumed = consumed;
    split = split_so cut (ap lines_of e ∙ last_line text one.unended some);
    between = inr end;
  }

  by_ends : (((more : List ℕ) → lines_of (h.read ++ more) ≡ lines ++ lines_of more) ⊎ (middle ≡ Some [])) → ((one.read ≡ text ++ 10 ∷ []) ⊎ ((one.read ≡ text) × (text ≢ []) × (left' ≡ Some []))) → HearsLines left left' (lines ++ text ∷ [])
  by_ends (inl cut) (inl e) = by_newline cut e
  by_ends (inl cut) (inr e) = at_end cut e.0 e.1 e.2
  by_ends (inr end) (inl e) = nothing_left middle left' one.read end one.consumed (λ (none : one.read ≡ []). filled text (sym e ∙ none))
  by_ends (inr end) (inr e) = nothing_left middle left' one.read end one.consumed (λ (none : one.read ≡ []). e.1 (sym e.0 ∙ none))

  pub one_more_line : HearsLines left left' (lines ++ text ∷ [])
  one_more_line = by_ends h.between one.ends

-- ---- the end of the input

line_at_end : (left middle left' : Option (List ℕ)) (text : List ℕ) → Consumes left middle text → Consumes middle left' [] → IsAtEnd left' → IsUnended text → text ≢ [] → HearsLine left left' text
line_at_end None middle left' text c d end u some = record { read = text ++ 10 ∷ []; consumed = tt; unended = u; ends = inl refl }
line_at_end (Some xs) None left' text c d end u some = absurd c
line_at_end (Some xs) (Some ys) None text c d end u some = absurd d
line_at_end (Some xs) (Some ys) (Some zs) text c d end u some = record {
  read = text;
  consumed = c ∙ ap (λ (l : List ℕ). text ++ l) d;
  unended = u;
  ends = inr (refl, some, ap (λ (l : List ℕ). Some l) end);
}

nothing_at_end : (left middle left' : Option (List ℕ)) (text : List ℕ) → text ≡ [] → Consumes left middle text → Consumes middle left' [] → Consumes left left' []
nothing_at_end left middle left' text e c d = consumed_more left middle left' [] [] (subst (λ (l : List ℕ). Consumes left middle l) e c) d

pub heard_end : (left middle left' : Option (List ℕ)) (it : Line) (text : List ℕ) (heard : ReadLine) → Consumes left middle text → Consumes middle left' [] → IsAtEnd left' → IsUnended text → Holds it text → HeardAtEnd it heard → Hears left left' it (Ok heard)
heard_end left middle left' it text heards.Line c d end u holds h = (text, line_at_end left middle left' text c d end u (h text holds), holds)
heard_end left middle left' it text heards.End c d end u holds h = (nothing_at_end left middle left' text (h text holds) c d, end)

-- ---- a line with its newline, and one without

pub heard_newline : (left middle left' : Option (List ℕ)) (it : Line) (text : List ℕ) → Consumes left middle text → Consumes middle left' (10 ∷ []) → IsUnended text → Holds it text → (line : List ℕ) × HearsLine left left' line × Holds it line
heard_newline left middle left' it text c d u holds = (
  text,
  record { read = text ++ 10 ∷ []; consumed = consumed_more left middle left' text (10 ∷ []) c d; unended = u; ends = inl refl },
  holds,
)

pub heard_part : (left middle left' : Option (List ℕ)) (text : List ℕ) (b : ℕ) → Consumes left middle text → Consumes middle left' (b ∷ []) → IsUnended text → (b == 10) ≡ false → HearsPart left left'
heard_part left middle left' text b c d u e = record { read = text ++ b ∷ []; consumed = consumed_more left middle left' text (b ∷ []) c d; unended = unended_more text b u e }
