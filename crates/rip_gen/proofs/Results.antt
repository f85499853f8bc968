-- What holds of a result.
use Rattle.std.specs.Prelude.{Err, IfOk, Ok, Result}

-- what holds of a result where another fact makes it so
pub on_ok : {A E : Type 0} (P Q : A → Type 0) (r : Result A E) → ((x : A) → P x → Q x) → IfOk r P → IfOk r Q
on_ok P Q (Ok x) f h = f x h
on_ok P Q (Err e) f h = h
