-- A script's line stands for itself in a session.
use Rattle.std.proofs.Common.{◌≡◌, ◌∙◌, ℕ, zero, suc, ◌==◌, ℤ, ◌/◌, ◌%◌, Bool, true, false, cond, List, [], ◌∷◌, ◌++◌, Option, Some, None, refl, sym, ap}
use Rattle.std.specs.Prelude.{codes, slice_index}
use Rattle.std.specs.List.{AllByRecursion}
use Rattle.std.specs.Int.{w64, cast_unsigned, to_be_bytes}
use Rattle.hex.specs.Hex.{encode_lower, encode_with, lower_digits}
use Rattle.zk_debug.specs.declared.breakpoint.Breakpoint.{Breakpoint}
use Rattle.zk_debug.specs.declared.breakpoint.Breakpoint.TheVariants as breakpoints
use Rattle.zk_debug.specs.Commands.{IsBreakpoint, IsCommand, breakpoint_text, command_text}
use Rattle.zk_debug.specs.Reading.{word_in, field_in}
use Rattle.zk_debug.specs.declared.command.Command.{Command}
use Rattle.zk_debug.specs.declared.command.Command.TheVariants as commands
use Rattle.zk_format.specs.Spelling.{id_digits, sixteen_digits, quoted}
use Rattle.zk_listing.specs.Reading.{past, ◌>>=◌}
use Rattle.zk_commands.specs.Shorthand.{digits_past, long_after, long_break_field, long_condition, long_field, long_form, long_id, long_word}

-- no digit is an `x`
no_mark : (digits : List ℕ) (at : ℕ) → AllByRecursion (λ digit. (digit == 120) ≡ false) digits → (slice_index digits at == 120) ≡ false
no_mark [] at all = refl
no_mark (digit ∷ digits) zero all = all.0
no_mark (digit ∷ digits) (suc at) all = no_mark digits at all.1

no_x : (at : ℕ) → (slice_index lower_digits at == 120) ≡ false
no_x at = no_mark lower_digits at (refl, (refl, (refl, (refl, (refl, (refl, (refl, (refl, (refl, (refl, (refl, (refl, (refl, (refl, (refl, (refl, tt))))))))))))))))

no_digits_past : (first second : ℕ) (rest : List ℕ) → (second == 120) ≡ false → digits_past (first ∷ second ∷ rest) ≡ None
no_digits_past first second rest other = by_first (first == 48)
  where
    by_first : (zero_first : Bool) → (cond zero_first (Some (second ∷ rest)) None >>= past 120) ≡ None
    by_first true = ap (λ (is : Bool). cond is (Some rest) None) other
    by_first false = refl

hex_stays : (bytes : List ℕ) → long_id (encode_lower bytes) ≡ encode_lower bytes
unfolding encode_with
hex_stays [] = refl
hex_stays (byte ∷ bytes) =
    ap (long_after (encode_lower (byte ∷ bytes))) (no_digits_past (slice_index lower_digits (byte / 16)) (slice_index lower_digits (byte % 16)) (encode_lower bytes) (no_x (byte % 16)))

id_stays : (id : ℤ) → long_id (id_digits id) ≡ id_digits id
unfolding sixteen_digits
id_stays id = hex_stays (to_be_bytes w64 (cast_unsigned w64 id))

condition_stays : (breakpoint : Breakpoint) → IsBreakpoint breakpoint → long_condition (breakpoint_text breakpoint) ≡ breakpoint_text breakpoint
unfolding word_in field_in long_break_field quoted
condition_stays (breakpoints.At zxid) fits = ap (λ (l : List ℕ). codes "at " ++ l) (id_stays zxid)
condition_stays (breakpoints.Path path) fits = refl
condition_stays (breakpoints.Prefix path) fits = absurd fits
condition_stays (breakpoints.Session session) fits = ap (λ (l : List ℕ). codes "session " ++ l) (id_stays session)
condition_stays (breakpoints.Kind kind) fits = refl
condition_stays breakpoints.Error fits = refl

pub script_line_stays : (command : Command) → IsCommand command → long_form (command_text command) ≡ command_text command
unfolding word_in field_in long_word long_field quoted
script_line_stays commands.Step fits = refl
script_line_stays (commands.StepBy count) fits = absurd fits
script_line_stays commands.Back fits = refl
script_line_stays commands.Run fits = refl
script_line_stays commands.RunBack fits = refl
script_line_stays (commands.Goto zxid) fits = ap (λ (l : List ℕ). codes "goto " ++ l) (id_stays zxid)
script_line_stays commands.Tree fits = refl
script_line_stays (commands.Node path) fits = refl
script_line_stays commands.Last fits = refl
script_line_stays (commands.Break breakpoint) fits = ap (λ (l : List ℕ). codes "break " ++ l) (condition_stays breakpoint fits)
script_line_stays (commands.Clear number) fits = refl
script_line_stays commands.Reset fits = refl
