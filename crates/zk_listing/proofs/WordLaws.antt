-- The words of a line.
use Rattle.std.proofs.Common.{◌≡◌, ℕ, Bool, true, false, cond, ◌⊎◌, List, Option, Some, None, refl, ap, ◌∙◌, inl, inr}
use Rattle.std.specs.Prelude.{codes}
use Rattle.std.specs.List.{AllByRecursion}
use Rattle.std.specs.Str.{bytes_eq}
use Rattle.std.proofs.lemmas.Slice.Eq.{bytes_eq-Decides}
use Rattle.zk_listing.specs.declared.ops.Word.{Word}
use Rattle.zk_listing.specs.declared.ops.Word.TheVariants as words
use Rattle.zk_format.specs.Listings.{ephemeral_text}
use Rattle.zk_listing.specs.Reading.{word_from, ephemeral_from, semicolon_from, is_end}
use Rattle.zk_listing.proofs.Exact.{IsExactField, some_is}

abbrev pub word_text : Word → List ℕ
word_text words.CreateOld = codes "create0"
word_text words.Create = codes "create"
word_text words.Delete = codes "delete"
word_text words.SetData = codes "setData"
word_text words.SetAcl = codes "setACL"
word_text words.CreateSession = codes "createSession"
word_text words.CloseSession = codes "closeSession"
word_text words.Error = codes "error"
word_text words.Multi = codes "multi"
word_text words.Check = codes "check"

-- one test of a chain
one_word : {A : Type 0} (text field : List ℕ) (w0 w : A) (others : Option A) → cond (bytes_eq field text) (Some w0) others ≡ Some w → ((field ≡ text) × (w0 ≡ w)) ⊎ (others ≡ Some w)
one_word text field w0 w others h = by_test (bytes_eq field text) refl h
  where
    by_test : (b : Bool) → bytes_eq field text ≡ b → cond b (Some w0) others ≡ Some w → ((field ≡ text) × (w0 ≡ w)) ⊎ (others ≡ Some w)
    by_test true e h = inl ((bytes_eq-Decides field text).0 e, some_is w0 w h)
    by_test false e h = inr h

word_is_8 : (field : List ℕ) (w : Word) → cond (bytes_eq field (codes "check")) (Some words.Check) None ≡ Some w → field ≡ word_text w
word_is_8 field w h = elim (one_word (codes "check") field words.Check w None h) [ inl found ↦ found.0 ∙ ap word_text found.1 | inr later ↦ absurd (let bad : None ≡ Some w = later in cc) ]

word_is_7 : (field : List ℕ) (w : Word) → cond (bytes_eq field (codes "multi")) (Some words.Multi) (cond (bytes_eq field (codes "check")) (Some words.Check) None) ≡ Some w → field ≡ word_text w
word_is_7 field w h = elim (one_word (codes "multi") field words.Multi w (cond (bytes_eq field (codes "check")) (Some words.Check) None) h) [ inl found ↦ found.0 ∙ ap word_text found.1 | inr later ↦ word_is_8 field w later ]

word_is_6 : (field : List ℕ) (w : Word) → cond (bytes_eq field (codes "error")) (Some words.Error) (cond (bytes_eq field (codes "multi")) (Some words.Multi) (cond (bytes_eq field (codes "check")) (Some words.Check) None)) ≡ Some w → field ≡ word_text w
word_is_6 field w h = elim (one_word (codes "error") field words.Error w (cond (bytes_eq field (codes "multi")) (Some words.Multi) (cond (bytes_eq field (codes "check")) (Some words.Check) None)) h) [ inl found ↦ found.0 ∙ ap word_text found.1 | inr later ↦ word_is_7 field w later ]

word_is_5 : (field : List ℕ) (w : Word) → cond (bytes_eq field (codes "closeSession")) (Some words.CloseSession) (cond (bytes_eq field (codes "error")) (Some words.Error) (cond (bytes_eq field (codes "multi")) (Some words.Multi) (cond (bytes_eq field (codes "check")) (Some words.Check) None))) ≡ Some w → field ≡ word_text w
word_is_5 field w h = elim (one_word (codes "closeSession") field words.CloseSession w (cond (bytes_eq field (codes "error")) (Some words.Error) (cond (bytes_eq field (codes "multi")) (Some words.Multi) (cond (bytes_eq field (codes "check")) (Some words.Check) None))) h) [ inl found ↦ found.0 ∙ ap word_text found.1 | inr later ↦ word_is_6 field w later ]

word_is_4 : (field : List ℕ) (w : Word) → cond (bytes_eq field (codes "createSession")) (Some words.CreateSession) (cond (bytes_eq field (codes "closeSession")) (Some words.CloseSession) (cond (bytes_eq field (codes "error")) (Some words.Error) (cond (bytes_eq field (codes "multi")) (Some words.Multi) (cond (bytes_eq field (codes "check")) (Some words.Check) None)))) ≡ Some w → field ≡ word_text w
word_is_4 field w h = elim (one_word (codes "createSession") field words.CreateSession w (cond (bytes_eq field (codes "closeSession")) (Some words.CloseSession) (cond (bytes_eq field (codes "error")) (Some words.Error) (cond (bytes_eq field (codes "multi")) (Some words.Multi) (cond (bytes_eq field (codes "check")) (Some words.Check) None)))) h) [ inl found ↦ found.0 ∙ ap word_text found.1 | inr later ↦ word_is_5 field w later ]

word_is_3 : (field : List ℕ) (w : Word) → cond (bytes_eq field (codes "setACL")) (Some words.SetAcl) (cond (bytes_eq field (codes "createSession")) (Some words.CreateSession) (cond (bytes_eq field (codes "closeSession")) (Some words.CloseSession) (cond (bytes_eq field (codes "error")) (Some words.Error) (cond (bytes_eq field (codes "multi")) (Some words.Multi) (cond (bytes_eq field (codes "check")) (Some words.Check) None))))) ≡ Some w → field ≡ word_text w
word_is_3 field w h = elim (one_word (codes "setACL") field words.SetAcl w (cond (bytes_eq field (codes "createSession")) (Some words.CreateSession) (cond (bytes_eq field (codes "closeSession")) (Some words.CloseSession) (cond (bytes_eq field (codes "error")) (Some words.Error) (cond (bytes_eq field (codes "multi")) (Some words.Multi) (cond (bytes_eq field (codes "check")) (Some words.Check) None))))) h) [ inl found ↦ found.0 ∙ ap word_text found.1 | inr later ↦ word_is_4 field w later ]

word_is_2 : (field : List ℕ) (w : Word) → cond (bytes_eq field (codes "setData")) (Some words.SetData) (cond (bytes_eq field (codes "setACL")) (Some words.SetAcl) (cond (bytes_eq field (codes "createSession")) (Some words.CreateSession) (cond (bytes_eq field (codes "closeSession")) (Some words.CloseSession) (cond (bytes_eq field (codes "error")) (Some words.Error) (cond (bytes_eq field (codes "multi")) (Some words.Multi) (cond (bytes_eq field (codes "check")) (Some words.Check) None)))))) ≡ Some w → field ≡ word_text w
word_is_2 field w h = elim (one_word (codes "setData") field words.SetData w (cond (bytes_eq field (codes "setACL")) (Some words.SetAcl) (cond (bytes_eq field (codes "createSession")) (Some words.CreateSession) (cond (bytes_eq field (codes "closeSession")) (Some words.CloseSession) (cond (bytes_eq field (codes "error")) (Some words.Error) (cond (bytes_eq field (codes "multi")) (Some words.Multi) (cond (bytes_eq field (codes "check")) (Some words.Check) None)))))) h) [ inl found ↦ found.0 ∙ ap word_text found.1 | inr later ↦ word_is_3 field w later ]

word_is_1 : (field : List ℕ) (w : Word) → cond (bytes_eq field (codes "delete")) (Some words.Delete) (cond (bytes_eq field (codes "setData")) (Some words.SetData) (cond (bytes_eq field (codes "setACL")) (Some words.SetAcl) (cond (bytes_eq field (codes "createSession")) (Some words.CreateSession) (cond (bytes_eq field (codes "closeSession")) (Some words.CloseSession) (cond (bytes_eq field (codes "error")) (Some words.Error) (cond (bytes_eq field (codes "multi")) (Some words.Multi) (cond (bytes_eq field (codes "check")) (Some words.Check) None))))))) ≡ Some w → field ≡ word_text w
word_is_1 field w h = elim (one_word (codes "delete") field words.Delete w (cond (bytes_eq field (codes "setData")) (Some words.SetData) (cond (bytes_eq field (codes "setACL")) (Some words.SetAcl) (cond (bytes_eq field (codes "createSession")) (Some words.CreateSession) (cond (bytes_eq field (codes "closeSession")) (Some words.CloseSession) (cond (bytes_eq field (codes "error")) (Some words.Error) (cond (bytes_eq field (codes "multi")) (Some words.Multi) (cond (bytes_eq field (codes "check")) (Some words.Check) None))))))) h) [ inl found ↦ found.0 ∙ ap word_text found.1 | inr later ↦ word_is_2 field w later ]

word_is_0 : (field : List ℕ) (w : Word) → cond (bytes_eq field (codes "create")) (Some words.Create) (cond (bytes_eq field (codes "delete")) (Some words.Delete) (cond (bytes_eq field (codes "setData")) (Some words.SetData) (cond (bytes_eq field (codes "setACL")) (Some words.SetAcl) (cond (bytes_eq field (codes "createSession")) (Some words.CreateSession) (cond (bytes_eq field (codes "closeSession")) (Some words.CloseSession) (cond (bytes_eq field (codes "error")) (Some words.Error) (cond (bytes_eq field (codes "multi")) (Some words.Multi) (cond (bytes_eq field (codes "check")) (Some words.Check) None)))))))) ≡ Some w → field ≡ word_text w
word_is_0 field w h = elim (one_word (codes "create") field words.Create w (cond (bytes_eq field (codes "delete")) (Some words.Delete) (cond (bytes_eq field (codes "setData")) (Some words.SetData) (cond (bytes_eq field (codes "setACL")) (Some words.SetAcl) (cond (bytes_eq field (codes "createSession")) (Some words.CreateSession) (cond (bytes_eq field (codes "closeSession")) (Some words.CloseSession) (cond (bytes_eq field (codes "error")) (Some words.Error) (cond (bytes_eq field (codes "multi")) (Some words.Multi) (cond (bytes_eq field (codes "check")) (Some words.Check) None)))))))) h) [ inl found ↦ found.0 ∙ ap word_text found.1 | inr later ↦ word_is_1 field w later ]

word_is : (field : List ℕ) (w : Word) → cond (bytes_eq field (codes "create0")) (Some words.CreateOld) (cond (bytes_eq field (codes "create")) (Some words.Create) (cond (bytes_eq field (codes "delete")) (Some words.Delete) (cond (bytes_eq field (codes "setData")) (Some words.SetData) (cond (bytes_eq field (codes "setACL")) (Some words.SetAcl) (cond (bytes_eq field (codes "createSession")) (Some words.CreateSession) (cond (bytes_eq field (codes "closeSession")) (Some words.CloseSession) (cond (bytes_eq field (codes "error")) (Some words.Error) (cond (bytes_eq field (codes "multi")) (Some words.Multi) (cond (bytes_eq field (codes "check")) (Some words.Check) None))))))))) ≡ Some w → field ≡ word_text w
word_is field w h = elim (one_word (codes "create0") field words.CreateOld w (cond (bytes_eq field (codes "create")) (Some words.Create) (cond (bytes_eq field (codes "delete")) (Some words.Delete) (cond (bytes_eq field (codes "setData")) (Some words.SetData) (cond (bytes_eq field (codes "setACL")) (Some words.SetAcl) (cond (bytes_eq field (codes "createSession")) (Some words.CreateSession) (cond (bytes_eq field (codes "closeSession")) (Some words.CloseSession) (cond (bytes_eq field (codes "error")) (Some words.Error) (cond (bytes_eq field (codes "multi")) (Some words.Multi) (cond (bytes_eq field (codes "check")) (Some words.Check) None))))))))) h) [ inl found ↦ found.0 ∙ ap word_text found.1 | inr later ↦ word_is_0 field w later ]

word_again : (w : Word) → word_from (word_text w) ≡ Some w
unfolding word_from
word_again words.CreateOld = refl
word_again words.Create = refl
word_again words.Delete = refl
word_again words.SetData = refl
word_again words.SetAcl = refl
word_again words.CreateSession = refl
word_again words.CloseSession = refl
word_again words.Error = refl
word_again words.Multi = refl
word_again words.Check = refl

word_plain : (w : Word) → AllByRecursion (λ b. is_end b ≡ false) (word_text w)
word_plain words.CreateOld = (refl, (refl, (refl, (refl, (refl, (refl, (refl, tt)))))))
word_plain words.Create = (refl, (refl, (refl, (refl, (refl, (refl, tt))))))
word_plain words.Delete = (refl, (refl, (refl, (refl, (refl, (refl, tt))))))
word_plain words.SetData = (refl, (refl, (refl, (refl, (refl, (refl, (refl, tt)))))))
word_plain words.SetAcl = (refl, (refl, (refl, (refl, (refl, (refl, tt))))))
word_plain words.CreateSession = (refl, (refl, (refl, (refl, (refl, (refl, (refl, (refl, (refl, (refl, (refl, (refl, (refl, tt)))))))))))))
word_plain words.CloseSession = (refl, (refl, (refl, (refl, (refl, (refl, (refl, (refl, (refl, (refl, (refl, (refl, tt))))))))))))
word_plain words.Error = (refl, (refl, (refl, (refl, (refl, tt)))))
word_plain words.Multi = (refl, (refl, (refl, (refl, (refl, tt)))))
word_plain words.Check = (refl, (refl, (refl, (refl, (refl, tt)))))

abbrev pub Always : {X : Type 0} → X → Type 0
Always x = Unit {0}

pub word_field : IsExactField word_text Always word_from
unfolding word_from
word_field = record {
  takes = λ field w h. (tt, word_is field w h);
  again = λ w fits. word_again w;
  plain = λ w fits. word_plain w;
}

ephemeral_is : (field : List ℕ) (e : Bool) → cond (bytes_eq field (codes "e")) (Some true) (cond (bytes_eq field (codes "p")) (Some false) None) ≡ Some e → field ≡ ephemeral_text e
ephemeral_is field e h =
    elim (one_word (codes "e") field true e (cond (bytes_eq field (codes "p")) (Some false) None) h) [
      | inl found ↦ found.0 ∙ ap ephemeral_text found.1
      | inr later ↦ elim (one_word (codes "p") field false e None later) [
        | inl found ↦ found.0 ∙ ap ephemeral_text found.1
        | inr never ↦ absurd (let bad : None ≡ Some e = never in cc)
      ]
    ]

ephemeral_again : (e : Bool) → ephemeral_from (ephemeral_text e) ≡ Some e
unfolding ephemeral_from
ephemeral_again true = refl
ephemeral_again false = refl

ephemeral_plain : (e : Bool) → AllByRecursion (λ b. is_end b ≡ false) (ephemeral_text e)
ephemeral_plain true = (refl, tt)
ephemeral_plain false = (refl, tt)

pub ephemeral_field : IsExactField ephemeral_text Always ephemeral_from
unfolding ephemeral_from
ephemeral_field = record {
  takes = λ field e h. (tt, ephemeral_is field e h);
  again = λ e fits. ephemeral_again e;
  plain = λ e fits. ephemeral_plain e;
}

abbrev pub semicolon_text : Unit {0} → List ℕ
semicolon_text x = codes ";"

semicolon_is : (field : List ℕ) (x : Unit {0}) → cond (bytes_eq field (codes ";")) (Some tt) None ≡ Some x → field ≡ codes ";"
semicolon_is field x h =
    elim (one_word (codes ";") field tt x None h) [
      | inl found ↦ found.0
      | inr never ↦ absurd (let bad : None ≡ Some x = never in cc)
    ]

pub semicolon_field : IsExactField semicolon_text Always semicolon_from
unfolding semicolon_from
semicolon_field = record {
  takes = λ field x h. (tt, semicolon_is field x h);
  again = λ x fits. refl;
  plain = λ x fits. (refl, tt);
}
