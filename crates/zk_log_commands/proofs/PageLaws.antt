-- Texts that are collected in a buffer, and written one buffer at a time.
use Rattle.std.proofs.Common.{◌≡◌, ℕ, ◌+◌, ◌<◌, ◌≤◌, List, [], ◌∷◌, ◌++◌, Option, length, take, drop, get_or, refl, sym, ap, ◌∙◌, subst, append_assoc, append-nil, take-append-drop}
use Rattle.std.proofs.lemmas.List.{take_more, take_all}
use Rattle.std.proofs.lemmas.List.Concat.{flat_map-append}
use Rattle.std.specs.List.{flat_map}
use Rattle.zk_records.specs.declared.sink.Sink.{Sink}
use Rattle.zk_log_commands.proofs.LinesLaws.{wrote_nothing, wrote_more, broke_off_later, broke_off_earlier}
use Rattle.zk_log_commands.specs.Writing.{Wrote, BrokeOff, WrotePart}

-- a prefix of the text was written, and the rest is in the buffer
pub record OnPage {W : Type 0} (contents : W → Option (List ℕ)) (old new : Sink W) (text page : List ℕ) : Type 0 where
  pub front : List ℕ
  pub whole : text ≡ front ++ page
  pub wrote : Wrote contents old new front

module _ {W : Type 0} (contents : W → Option (List ℕ)) where
  pub empty_page : (sink : Sink W) → OnPage contents sink sink [] []
  empty_page sink = record { front = []; whole = refl; wrote = wrote_nothing contents sink }

  pub more_on_page : (old new : Sink W) (text page more : List ℕ) → OnPage contents old new text page → OnPage contents old new (text ++ more) (page ++ more)
  more_on_page old new text page more p = record {
    front = p.front;
    whole = ap (λ l. l ++ more) p.whole ∙ append_assoc p.front page more;
    wrote = p.wrote;
  }

  pub page_written : (old mid new : Sink W) (text page : List ℕ) → OnPage contents old mid text page → Wrote contents mid new page → OnPage contents old new text []
  page_written old mid new text page p q = record {
    front = text;
    whole = sym (append-nil text);
    wrote = subst (λ l. Wrote contents old new l) (sym p.whole) (wrote_more contents old mid new p.front page p.wrote q);
  }

  pub all_written : (old mid new : Sink W) (text page : List ℕ) → OnPage contents old mid text page → Wrote contents mid new page → Wrote contents old new text
  all_written old mid new text page p q = subst (λ l. Wrote contents old new l) (sym p.whole) (wrote_more contents old mid new p.front page p.wrote q)

  pub page_broke_off : (old mid new : Sink W) (text page rest : List ℕ) → OnPage contents old mid text page → BrokeOff contents mid new page → BrokeOff contents old new (text ++ rest)
  page_broke_off old mid new text page rest p q =
      broke_off_earlier contents old new text rest (subst (λ l. BrokeOff contents old new l) (sym p.whole) (broke_off_later contents old mid new p.front page p.wrote q))

  pub page_kept : (old new : Sink W) (text page rest : List ℕ) → OnPage contents old new text page → WrotePart contents old new (text ++ rest)
  page_kept old new text page rest p = record {
    front = p.front;
    rest = page ++ rest;
    whole = ap (λ l. l ++ rest) p.whole ∙ append_assoc p.front page rest;
    wrote = p.wrote;
  }

-- ---- a text for each element of a list

pub text_to : {X : Type 0} (f : X → List ℕ) (xs : List X) (i : ℕ) (x : X) → i < length xs → x ≡ get_or xs i x → flat_map f (take i xs) ++ f x ≡ flat_map f (take (i + 1) xs)
text_to f xs i x within is =
    ap (λ l. flat_map f (take i xs) ++ l) (sym (append-nil (f x)) ∙ ap (λ y. f y ++ []) is) ∙ sym (flat_map-append f (take i xs) (get_or xs i x ∷ []))
    ∙ ap (λ l. flat_map f l) (sym (take_more xs i x within))

pub text_from : {X : Type 0} (f : X → List ℕ) (xs : List X) (i : ℕ) → flat_map f (take i xs) ++ flat_map f (drop i xs) ≡ flat_map f xs
text_from f xs i = sym (flat_map-append f (take i xs) (drop i xs)) ∙ ap (λ l. flat_map f l) (take-append-drop i xs)

-- the text of a list's elements after a text before
module _ {W X : Type 0} (contents : W → Option (List ℕ)) (before : List ℕ) (f : X → List ℕ) (xs : List X) where
  abbrev text_at : ℕ → List ℕ
  text_at i = before ++ flat_map f (take i xs)

  -- the text before is in a buffer of its own
  pub page_before : (sink : Sink W) → OnPage contents sink sink (before ++ []) before
  page_before sink = record { front = []; whole = append-nil before; wrote = wrote_nothing contents sink }

  module _ (i : ℕ) where
    rest_of : text_at i ++ flat_map f (drop i xs) ≡ before ++ flat_map f xs
    rest_of = append_assoc before (flat_map f (take i xs)) (flat_map f (drop i xs)) ∙ ap (λ l. before ++ l) (text_from f xs i)

    -- a text is appended to the buffer
    pub line_on_page : (x : X) (old mid : Sink W) (page page' : List ℕ) → i < length xs → x ≡ get_or xs i x → OnPage contents old mid (text_at i) page → page' ≡ page ++ f x
        → OnPage contents old mid (text_at (i + 1)) page'
    line_on_page x old mid page page' within is p e =
        let more : OnPage contents old mid (text_at i ++ f x) (page ++ f x) = more_on_page contents old mid (text_at i) page (f x) p in
        let whole : text_at i ++ f x ≡ text_at (i + 1) = append_assoc before (flat_map f (take i xs)) (f x) ∙ ap (λ l. before ++ l) (text_to f xs i x within is) in
        subst (λ l. OnPage contents old mid (text_at (i + 1)) l) (sym e) (subst (λ l. OnPage contents old mid l (page ++ f x)) whole more)

    -- nothing more is written
    pub stops_on_page : (old new : Sink W) (page : List ℕ) → OnPage contents old new (text_at i) page → WrotePart contents old new (before ++ flat_map f xs)
    stops_on_page old new page p = subst (λ l. WrotePart contents old new l) rest_of (page_kept contents old new (text_at i) page (flat_map f (drop i xs)) p)

    -- the buffer could not be written
    pub breaks_off_page : (old mid new : Sink W) (page : List ℕ) → OnPage contents old mid (text_at i) page → BrokeOff contents mid new page → BrokeOff contents old new (before ++ flat_map f xs)
    breaks_off_page old mid new page p q =
        subst (λ l. BrokeOff contents old new l) rest_of (page_broke_off contents old mid new (text_at i) page (flat_map f (drop i xs)) p q)

    -- after the last element's text
    all_of : length xs ≤ i → text_at i ≡ before ++ flat_map f xs
    all_of end = ap (λ l. before ++ flat_map f l) (take_all i xs end)

    -- the buffer, with the last text, is written
    pub ends_on_page : (old mid new : Sink W) (page last page' : List ℕ) → length xs ≤ i → OnPage contents old mid (text_at i) page → page' ≡ page ++ last → Wrote contents mid new page'
        → Wrote contents old new (before ++ flat_map f xs ++ last)
    ends_on_page old mid new page last page' end p e q =
        let on : OnPage contents old mid (text_at i ++ last) (page ++ last) = more_on_page contents old mid (text_at i) page last p in
        subst (λ l. Wrote contents old new (l ++ last)) (all_of end) (all_written contents old mid new (text_at i ++ last) (page ++ last) on (subst (λ l. Wrote contents mid new l) e q))

    -- or could not be written
    pub breaks_off_at_end : (old mid new : Sink W) (page last page' : List ℕ) → length xs ≤ i → OnPage contents old mid (text_at i) page → page' ≡ page ++ last → BrokeOff contents mid new page'
        → BrokeOff contents old new (before ++ flat_map f xs ++ last)
    breaks_off_at_end old mid new page last page' end p e q =
        let on : OnPage contents old mid (text_at i ++ last) (page ++ last) = more_on_page contents old mid (text_at i) page last p in
        let broke : BrokeOff contents old new (on.front ++ (page ++ last)) = broke_off_later contents old mid new on.front (page ++ last) on.wrote (subst (λ l. BrokeOff contents mid new l) e q) in
        subst (λ l. BrokeOff contents old new (l ++ last)) (all_of end) (subst (λ l. BrokeOff contents old new l) (sym on.whole) broke)
