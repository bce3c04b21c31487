-- Reading a line, field by field from the left. A reading returns a value and the rest of the text,
-- or None if the text does not start with such a value.
use Rattle.std.specs.Prelude.{◌≡◌, ◌+◌, ◌-◌, ◌^◌, ◌==◌, ◌&&◌, ◌||◌, nat_lt, nat_le, ℕ, zero, suc, ℤ, pos, negsuc, List, [], ◌∷◌, ◌++◌, Bool, true, false, if◌then◌else◌, length, codes, Option, Some, None, Result, Ok, Err, option_and_then, encode_utf8, ◌<◌}
use Rattle.std.specs.Char.{is_ascii_control, is_ascii_uppercase}
use Rattle.std.specs.Fmt.{signed_decimal}
use Rattle.std.specs.Int.{w32, w64, from_be_bytes, cast_signed}
use Rattle.std.specs.List.{list_any, before_first, after_first, position_or_len}
use Rattle.std.specs.Option.{is_none}
use Rattle.std.specs.Str.{bytes_eq, is_utf8}
use Rattle.std.specs.Str.Parse.{signed_digits_value}
use denote.Ref.{Bor}
use lib.Signed.{mag}
use mir.Syntax.{Width}
use mir.Val.{hbits}
use Rattle.hex.specs.Hex.{decode_of, decode_sized}
use Rattle.hex.specs.declared.error.FromHexError.{FromHexError}
use Rattle.zk_path.specs.Paths.{fault_of}
use Rattle.zk_acl.specs.declared.acl.Acl.{Acl}
use Rattle.zk_table.specs.declared.txn.Txn.{Txn}
use Rattle.zk_table.specs.declared.txn.Op.{Op}
use Rattle.zk_table.specs.declared.txn.Op.TheVariants as op
use Rattle.zk_table.specs.declared.sub.Sub.{Sub}
use Rattle.zk_table.specs.declared.sub.Sub.TheVariants as sub
use Rattle.zk_listing.specs.declared.ops.Created.{Created}
use Rattle.zk_listing.specs.declared.ops.Written.{Written}
use Rattle.zk_listing.specs.declared.ops.Word.{Word}
use Rattle.zk_listing.specs.declared.ops.Word.TheVariants as words
use Rattle.zk_listing.specs.declared.list_fault.ListCause.{ListCause}
use Rattle.zk_listing.specs.declared.list_fault.ListCause.TheVariants as causes

infixl 10 ◌>>=◌
abbrev pub ◌>>=◌ : {A B : Type 0} → Option A → (A → Option B) → Option B
o >>= f = option_and_then f o

-- ---- results of a reader: those of its reading, except for an allocation failure

abbrev pub Fails : {Y : Type 0} → ListCause → Option Y → Type 0
Fails causes.NoMemory read = Unit {0}
Fails cause read = read ≡ None

abbrev pub TakesBy : {X Y : Type 0} → (X → Y) → Result X ListCause → List ℕ → Option (Y × List ℕ) → Type 0
TakesBy view (Ok x) rest read = read ≡ Some (view x, rest)
TakesBy view (Err cause) rest read = Fails cause read

abbrev pub Takes : {X : Type 0} → Result X ListCause → List ℕ → Option (X × List ℕ) → Type 0
Takes (Ok x) rest read = read ≡ Some (x, rest)
Takes (Err cause) rest read = Fails cause read

-- the result of a value that is computed from one field
abbrev pub Makes : {X : Type 0} → Result X ListCause → Option X → Type 0
Makes (Ok x) read = read ≡ Some x
Makes (Err cause) read = Fails cause read

-- ---- fields and spaces

-- a field ends at a space, at a newline or at the end of the text
abbrev pub is_end : ℕ → Bool
is_end b = b == 32 || b == 10

abbrev pub IsEnd : List ℕ → Type 0
IsEnd [] = Unit {0}
IsEnd (b ∷ bs) = is_end b ≡ true

unfoldable pub front_of : List ℕ → List ℕ
front_of [] = []
front_of (b ∷ bs) = if is_end b then [] else b ∷ front_of bs

unfoldable pub back_of : List ℕ → List ℕ
back_of [] = []
back_of (b ∷ bs) = if is_end b then b ∷ bs else back_of bs

-- the field at the start of the text; None if it is empty
abbrev pub TakesField : Option (Bor (List ℕ)) → List ℕ → List ℕ → Type 0
TakesField None rest bytes = front_of bytes ≡ []
TakesField (Some field) rest bytes = (field.now ≡ front_of bytes) × (rest ≡ back_of bytes)

-- a value in one field
abbrev pub of_field : {X : Type 0} → (List ℕ → Option X) → List ℕ → Option (X × List ℕ)
of_field from bytes = from (front_of bytes) >>= λ x. Some (x, back_of bytes)

-- the rest after a byte that must come first
abbrev pub past : ℕ → List ℕ → Option (List ℕ)
past c [] = None
past c (b ∷ bs) = if b == c then Some bs else None

abbrev pub TakesUnit : Result (Unit {0}) ListCause → List ℕ → Option (List ℕ) → Type 0
TakesUnit (Ok x) rest read = read ≡ Some rest
TakesUnit (Err cause) rest read = Fails cause read

abbrev pub spaced : {X : Type 0} → (List ℕ → Option (X × List ℕ)) → List ℕ → Option (X × List ℕ)
spaced at bytes = past 32 bytes >>= at

-- one value and then another
abbrev pub both : {X Y : Type 0} → (List ℕ → Option (X × List ℕ)) → (List ℕ → Option (Y × List ℕ)) → List ℕ → Option ((X × Y) × List ℕ)
both one other bytes = one bytes >>= λ x. other x.1 >>= λ y. Some ((x.0, y.0), y.1)

abbrev pub mapped : {X Y : Type 0} → (X → Y) → (List ℕ → Option (X × List ℕ)) → List ℕ → Option (Y × List ℕ)
mapped f at bytes = at bytes >>= λ x. Some (f x.0, x.1)

-- appends a value to those read before
abbrev pub behind : {X : Type 0} → List X → Option (List X × List ℕ) → Option (List X × List ℕ)
behind front read = read >>= λ x. Some (front ++ x.0, x.1)

-- ---- numbers

abbrev pub id_of_bytes : Result (List ℕ) FromHexError → Option ℤ
id_of_bytes (Ok bytes) = Some (cast_signed w64 (from_be_bytes w64 bytes))
id_of_bytes (Err fault) = None

-- sixteen digits
unfoldable pub id_from : List ℕ → Option ℤ
id_from field = if list_any is_ascii_uppercase field then None else id_of_bytes (decode_sized field 8)

unfoldable pub id_at : List ℕ → Option (ℤ × List ℕ)
id_at bytes = of_field id_from bytes

abbrev pub fits_signed : Width → ℤ → Bool
fits_signed w z = nat_lt (mag z) (2 ^ hbits w)

-- a decimal in the range of its type
unfoldable pub int_from : Width → List ℕ → Option ℤ
int_from w field = let z = signed_digits_value 10 field in if fits_signed w z && bytes_eq (signed_decimal z) field then Some z else None

unfoldable pub int_at : Width → List ℕ → Option (ℤ × List ℕ)
int_at w bytes = of_field (int_from w) bytes

-- a decimal without plus sign, leading zero or "-0"
abbrev pub is_nonzero_digit : ℕ → Bool
is_nonzero_digit b = nat_le 49 b && nat_le b 57

abbrev pub is_plain : List ℕ → Bool
is_plain [] = false
is_plain (b ∷ []) = b == 48 || is_nonzero_digit b
is_plain (b ∷ c ∷ rest) = if b == 45 then is_nonzero_digit c else is_nonzero_digit b

-- ---- quoted texts

-- a lower-case hexadecimal digit
abbrev pub lower_digit : ℕ → Option ℕ
lower_digit d = if nat_le 48 d && nat_le d 57 then Some (d - 48) else (if nat_le 97 d && nat_le d 102 then Some (d - 87) else None)

-- the control character with these digits, without leading zeros
unfoldable pub control_from : List ℕ → Option ℕ
control_from [] = None
control_from (low ∷ []) = lower_digit low
control_from (high ∷ low ∷ []) = if high == 49 then (lower_digit low >>= λ d. Some (16 + d)) else (if high == 55 && low == 102 then Some 127 else None)
control_from (high ∷ low ∷ more ∷ rest) = None

abbrev pub is_brace : ℕ → Bool
is_brace b = b == 125

-- after the opening brace
unfoldable pub control_at : List ℕ → Option (ℕ × List ℕ)
control_at bytes =
    if nat_lt (position_or_len is_brace bytes) (length bytes) then (control_from (before_first is_brace bytes) >>= λ c. Some (c, after_first is_brace bytes)) else None

abbrev pub braced_at : List ℕ → Option (ℕ × List ℕ)
braced_at bytes = past 123 bytes >>= control_at

-- after a backslash
unfoldable pub escape_at : List ℕ → Option (ℕ × List ℕ)
escape_at [] = None
escape_at (b ∷ bs) = if b == 34 || b == 92 then Some (b, bs) else (if b == 117 then braced_at bs else None)

-- After the opening quote, up to the closing one: control characters must be escaped. The number is
-- at least that of the bytes; the recursion ends by it.
unfoldable pub inside_at : ℕ → List ℕ → Option (List ℕ × List ℕ)
inside_at zero bytes = None
inside_at (suc n) [] = None
inside_at (suc n) (b ∷ bs) = if b == 34 then Some ([], bs) else (if b == 92 then (escape_at bs >>= λ c. behind (c.0 ∷ []) (inside_at n c.1)) else (if is_ascii_control b then None else behind (b ∷ []) (inside_at n bs)))

abbrev pub inside : List ℕ → Option (List ℕ × List ℕ)
inside bytes = inside_at (length bytes) bytes

-- the first character of a text
abbrev pub TakesFirst : Option ℕ → List ℕ → List ℕ → Type 0
TakesFirst None rest bytes = bytes ≡ []
TakesFirst (Some c) rest bytes = bytes ≡ encode_utf8 c ++ rest

abbrev pub TakesChar : Option ℕ → List ℕ → Option (ℕ × List ℕ) → Type 0
TakesChar None rest read = read ≡ None
TakesChar (Some c) rest read = read ≡ Some (c, rest)

-- one character, or the closing quote, and the text that continues after it
abbrev pub Continues : Result (Option ℕ) ListCause → List ℕ → List ℕ → Type 0
Continues (Ok None) rest bytes = inside bytes ≡ Some ([], rest)
Continues (Ok (Some c)) rest bytes = (length rest < length bytes) × (inside bytes ≡ behind (encode_utf8 c) (inside rest))
Continues (Err cause) rest bytes = Fails cause (inside bytes)

unfoldable pub quoted_at : List ℕ → Option (List ℕ × List ℕ)
quoted_at bytes = past 34 bytes >>= λ rest. inside rest >>= λ x. if is_utf8 x.0 then Some x else None

unfoldable pub path_from : List ℕ → Option (List ℕ)
path_from text = if is_none (fault_of text) then Some text else None

unfoldable pub path_at : List ℕ → Option (List ℕ × List ℕ)
path_at bytes = quoted_at bytes >>= λ x. path_from x.0 >>= λ path. Some (path, x.1)

-- ---- contents and access control lists

abbrev pub content_of_bytes : Result (List ℕ) FromHexError → Option (Option (List ℕ))
content_of_bytes (Ok bytes) = Some (Some bytes)
content_of_bytes (Err fault) = None

abbrev pub content_of_digits : List ℕ → Option (Option (List ℕ))
content_of_digits digits = if list_any is_ascii_uppercase digits then None else content_of_bytes (decode_of digits)

unfoldable pub content_from : List ℕ → Option (Option (List ℕ))
content_from field = if bytes_eq field (codes "-") then Some None else (past 120 field >>= content_of_digits)

unfoldable pub content_at : List ℕ → Option (Option (List ℕ) × List ℕ)
content_at bytes = of_field content_from bytes

-- a number from 0
abbrev pub count_of : ℤ → Option ℕ
count_of (pos n) = Some n
count_of (negsuc n) = None

unfoldable pub count_at : List ℕ → Option (ℕ × List ℕ)
count_at bytes = int_at w32 bytes >>= λ z. count_of z.0 >>= λ n. Some (n, z.1)

-- n elements in order
unfoldable pub many_at : {X : Type 0} → (List ℕ → Option (X × List ℕ)) → ℕ → List ℕ → Option (List X × List ℕ)
many_at at zero bytes = Some ([], bytes)
many_at at (suc n) bytes = at bytes >>= λ x. behind (x.0 ∷ []) (many_at at n x.1)

abbrev pub entry_of : ℤ × (List ℕ × List ℕ) → Acl
entry_of x = record { perms = x.0; id = record { scheme = x.1.0; id = x.1.1 } }

unfoldable pub entry_at : List ℕ → Option (Acl × List ℕ)
entry_at bytes = mapped entry_of (both (spaced (int_at w32)) (both (spaced quoted_at) (spaced quoted_at))) bytes

unfoldable pub acl_at : List ℕ → Option (List Acl × List ℕ)
acl_at bytes = count_at bytes >>= λ n. many_at entry_at n.0 n.1

-- ---- operations

-- p or e
unfoldable pub ephemeral_from : List ℕ → Option Bool
ephemeral_from field = if bytes_eq field (codes "e") then Some true else (if bytes_eq field (codes "p") then Some false else None)

unfoldable pub ephemeral_at : List ℕ → Option (Bool × List ℕ)
ephemeral_at bytes = of_field ephemeral_from bytes

-- the first words of operations
unfoldable pub word_from : List ℕ → Option Word
word_from field =
    if bytes_eq field (codes "create0") then Some words.CreateOld
    else if bytes_eq field (codes "create") then Some words.Create
    else if bytes_eq field (codes "delete") then Some words.Delete
    else if bytes_eq field (codes "setData") then Some words.SetData
    else if bytes_eq field (codes "setACL") then Some words.SetAcl
    else if bytes_eq field (codes "createSession") then Some words.CreateSession
    else if bytes_eq field (codes "closeSession") then Some words.CloseSession
    else if bytes_eq field (codes "error") then Some words.Error
    else if bytes_eq field (codes "multi") then Some words.Multi
    else if bytes_eq field (codes "check") then Some words.Check
    else None

unfoldable pub word_at : List ℕ → Option (Word × List ℕ)
word_at bytes = of_field word_from bytes

-- the fields of operations, each after a space
abbrev pub created_of : List ℕ × (Option (List ℕ) × (List Acl × (Bool × ℤ))) → Created
created_of x = record { path = x.0; content = x.1.0; acl = x.1.1.0; ephemeral = x.1.1.1.0; count = x.1.1.1.1 }

unfoldable pub create_at : List ℕ → Option (Created × List ℕ)
create_at bytes = mapped created_of (both (spaced path_at) (both (spaced content_at) (both (spaced acl_at) (both (spaced ephemeral_at) (spaced (int_at w32)))))) bytes

abbrev pub written_of : List ℕ × (Option (List ℕ) × ℤ) → Written
written_of x = record { path = x.0; content = x.1.0; version = x.1.1 }

unfoldable pub set_data_at : List ℕ → Option (Written × List ℕ)
set_data_at bytes = mapped written_of (both (spaced path_at) (both (spaced content_at) (spaced (int_at w32)))) bytes

unfoldable pub set_acl_op_at : List ℕ → Option (Op × List ℕ)
set_acl_op_at bytes = mapped (λ x. op.SetAcl x.0 x.1.0 x.1.1) (both (spaced path_at) (both (spaced acl_at) (spaced (int_at w32)))) bytes

unfoldable pub create_old_op_at : List ℕ → Option (Op × List ℕ)
create_old_op_at bytes = mapped (λ x. op.CreateOld x.0 x.1.0 x.1.1.0 x.1.1.1) (both (spaced path_at) (both (spaced content_at) (both (spaced acl_at) (spaced ephemeral_at)))) bytes

unfoldable pub check_at : List ℕ → Option (Sub × List ℕ)
check_at bytes = mapped (λ x. sub.Check x.0 x.1) (both (spaced path_at) (spaced (int_at w32))) bytes

abbrev pub sub_created : Created → Sub
sub_created x = sub.Create x.path x.content x.acl x.ephemeral x.count

abbrev pub sub_written : Written → Sub
sub_written x = sub.SetData x.path x.content x.version

-- a part, after its word
unfoldable pub sub_by : Word → List ℕ → Option (Sub × List ℕ)
sub_by words.Create bytes = mapped sub_created create_at bytes
sub_by words.Delete bytes = mapped sub.Delete (spaced path_at) bytes
sub_by words.SetData bytes = mapped sub_written set_data_at bytes
sub_by words.Check bytes = check_at bytes
sub_by words.Error bytes = mapped sub.Error (spaced (int_at w32)) bytes
sub_by word bytes = None

-- a space and a part
unfoldable pub sub_at : List ℕ → Option (Sub × List ℕ)
sub_at bytes = spaced word_at bytes >>= λ w. sub_by w.0 w.1

-- the word between the parts
unfoldable pub semicolon_from : List ℕ → Option (Unit {0})
semicolon_from field = if bytes_eq field (codes ";") then Some tt else None

-- a separator and a part
unfoldable pub part_at : List ℕ → Option (Sub × List ℕ)
part_at bytes = spaced (of_field semicolon_from) bytes >>= λ s. sub_at s.1

abbrev pub begins_with_space : List ℕ → Bool
begins_with_space [] = false
begins_with_space (b ∷ bs) = b == 32

-- Parts, as long as a space follows. The number is at least that of the bytes; the recursion ends
-- by it.
unfoldable pub parts_at : ℕ → List ℕ → Option (List Sub × List ℕ)
parts_at zero bytes = Some ([], bytes)
parts_at (suc n) bytes = if begins_with_space bytes then (part_at bytes >>= λ x. behind (x.0 ∷ []) (parts_at n x.1)) else Some ([], bytes)

abbrev pub parts_in : List ℕ → Option (List Sub × List ℕ)
parts_in bytes = parts_at (length bytes) bytes

-- one part, or the end of the parts, and what continues after it
abbrev pub ContinuesParts : Result (Option Sub) ListCause → List ℕ → List ℕ → Type 0
ContinuesParts (Ok None) rest bytes = parts_in bytes ≡ Some ([], rest)
ContinuesParts (Ok (Some x)) rest bytes = (length rest < length bytes) × (parts_in bytes ≡ behind (x ∷ []) (parts_in rest))
ContinuesParts (Err cause) rest bytes = Fails cause (parts_in bytes)

abbrev pub op_created : Created → Op
op_created x = op.Create x.path x.content x.acl x.ephemeral x.count

abbrev pub op_written : Written → Op
op_written x = op.SetData x.path x.content x.version

-- an operation, after its word
unfoldable pub op_by : Word → List ℕ → Option (Op × List ℕ)
op_by words.CreateOld bytes = create_old_op_at bytes
op_by words.Create bytes = mapped op_created create_at bytes
op_by words.Delete bytes = mapped op.Delete (spaced path_at) bytes
op_by words.SetData bytes = mapped op_written set_data_at bytes
op_by words.SetAcl bytes = set_acl_op_at bytes
op_by words.CreateSession bytes = mapped op.OpenSession (spaced (int_at w32)) bytes
op_by words.CloseSession bytes = Some (op.CloseSession, bytes)
op_by words.Error bytes = mapped op.Error (spaced (int_at w32)) bytes
op_by words.Multi bytes = mapped op.Multi parts_in bytes
op_by words.Check bytes = None

unfoldable pub op_at : List ℕ → Option (Op × List ℕ)
op_at bytes = word_at bytes >>= λ w. op_by w.0 w.1

-- ---- lines

abbrev pub Header : Type 0
Header = ℤ × (ℤ × (ℤ × ℤ))

-- zxid, session, cxid and time
unfoldable pub header_at : List ℕ → Option (Header × List ℕ)
header_at bytes = both id_at (both (spaced id_at) (both (spaced (int_at w32)) (spaced (int_at w64)))) bytes

abbrev pub txn_of : Header → Op → Txn
txn_of header done = record { session = header.1.0; cxid = header.1.1.0; zxid = header.0; time = header.1.1.1; op = done }

-- a line with its newline
unfoldable pub txn_at : List ℕ → Option (Txn × List ℕ)
txn_at bytes = header_at bytes >>= λ h. spaced op_at h.1 >>= λ o. past 10 o.1 >>= λ rest. Some (txn_of h.0 o.0, rest)
