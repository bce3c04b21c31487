use Rattle.std.proofs.Common.{◌≡◌, ◌∷◌, ◌++◌, ◌+◌, [], List, ℕ, false, drop, get_or, subst, refl, sym, ◌∙◌}
use Rattle.std.proofs.Common.{Bor}
use Rattle.std.proofs.lemmas.List.{drop_all}
use Rattle.zk_cli_args.specs.Commands.{values_of}
use Rattle.zk_cli_args.proofs.WordsLaws.{texts, values_from, with_values, no_word, at_turn, takes_any, ends_options, takes_value, takes_none, takes_all, from_start}
use Rattle.zk_cli_args.proofs.command.values_of.Goals as goal
use Rattle.zk_cli_args.proofs.command.values_of.Goals.{then-options_end+in_ok-push, else-options_end+then-eq, else-options_end+else-eq+else-is_option+in_ok-push-2}

pub loop-word-init : goal.loop-word-init
loop-word-init c = rw c.new-values.ensures.items (from_start (texts c.args.words.now))

pub returns-then-is_option : goal.returns-then-is_option
returns-then-is_option c =
    let words = c.args.words.now in
    let at = c.loop-word.word-index in
    let values = c.loop-word.values.items in
    let word = get_or words at no_word in
    let rest = texts (drop (at + 1) words) in
    let so_far : with_values (texts values) (values_from c.loop-word.options_end (word.now ∷ rest)) ≡ values_of (texts words) =
    subst (λ (l : List (List ℕ)). with_values (texts values) (values_from c.loop-word.options_end l) ≡ values_of (texts words)) (at_turn words at c.loop-word-test.true) c.loop-word.invariant in
    takes_none values values word rest c.loop-word.options_end false (values_of (texts words)) so_far (cc) c.if-eq.ensures c.if-is_option.ensures

pub loop-word-preserved : goal.loop-word-preserved
loop-word-preserved c =
    let words = c.args.words.now in
    let at = c.loop-word.word-index in
    let values = c.loop-word.values.items in
    let values' = c.if-options_end.values.items in
    let ended = c.loop-word.options_end in
    let ended' = c.if-options_end.options_end in
    let word = get_or words at no_word in
    let rest = texts (drop (at + 1) words) in
    let so_far : with_values (texts values) (values_from ended (word.now ∷ rest)) ≡ values_of (texts words) =
    subst (λ (l : List (List ℕ)). with_values (texts values) (values_from ended l) ≡ values_of (texts words)) (at_turn words at c.loop-word-test.true) c.loop-word.invariant in
    elim c.if-options_end.branch [
      | then-options_end+in_ok-push w ↦
          let items : values' ≡ values ++ word ∷ [] = rw (w.values-is, w.in_ok-push.ensures.items) refl in
          takes_any values values' word rest ended ended' (values_of (texts words)) so_far (cc) (cc) items
      | else-options_end+then-eq w ↦ ends_options values values' word rest ended ended' (values_of (texts words)) so_far (cc) (cc) (cc) w.if-eq.ensures
      | else-options_end+else-eq+else-is_option+in_ok-push-2 w ↦
          let items : values' ≡ values ++ word ∷ [] = rw (w.values-is, w.in_ok-push-2.ensures.items) refl in
          takes_value values values' word rest ended ended' (values_of (texts words)) so_far (cc) (cc) items w.if-eq.ensures w.if-is_option.ensures
    ]

pub returns : goal.returns
returns c =
    let words = c.args.words.now in
    let values = c.loop-word.values.items in
    let ended = c.loop-word.options_end in
    let none_left : drop c.loop-word.word-index words ≡ [] = drop_all c.loop-word.word-index words c.loop-word-test.false in
    let so_far : with_values (texts values) (values_from ended []) ≡ values_of (texts words) =
    subst (λ (l : List (Bor (List ℕ))). with_values (texts values) (values_from ended (texts l)) ≡ values_of (texts words)) none_left c.loop-word.invariant in
    sym (takes_all (texts values) ended) ∙ so_far
