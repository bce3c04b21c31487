-- Facts of one variant of a result.
use Rattle.std.proofs.Common.{◌≡◌, Result, Ok, Err, refl}
use Rattle.std.specs.Prelude.{IfOk, OnErr}

pub on_err_any : {A E : Type 0} (result : Result A E) (P : Type 0) → P → OnErr result P
on_err_any (Ok value) P p = tt
on_err_any (Err error) P p = p

pub if_ok_all : {A E : Type 0} (result : Result A E) (P : A → Type 0) → ((value : A) → result ≡ Ok value → P value) → IfOk result P
if_ok_all (Ok value) P p = p value refl
if_ok_all (Err error) P p = tt
