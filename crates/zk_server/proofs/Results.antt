-- Facts of one variant of a result.
use Rattle.std.proofs.Common.{Result, Ok, Err}
use Rattle.std.specs.Prelude.{OnOk, OnErr}

pub on_ok_map : {A E : Type 0} (result : Result A E) (P Q : Type 0) → (P → Q) → OnOk result P → OnOk result Q
on_ok_map (Ok value) P Q f p = f p
on_ok_map (Err error) P Q f p = tt

pub on_err_any : {A E : Type 0} (result : Result A E) (P : Type 0) → P → OnErr result P
on_err_any (Ok value) P p = tt
on_err_any (Err error) P p = p

pub on_err_map : {A E : Type 0} (result : Result A E) (P Q : Type 0) → (P → Q) → OnErr result P → OnErr result Q
on_err_map (Ok value) P Q f p = tt
on_err_map (Err error) P Q f p = f p
