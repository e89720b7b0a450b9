-- Outcomes: a value or a refusal.
use Rattle.std.proofs.Common.{◌≡◌, ℕ, Bool, true, false, cond, Some, None, Ok, Err, Option, Result, refl, arith}
use Rattle.std.specs.Option.{ok_or}
use Rattle.rows.specs.Refusals.{◌>>=◌}

pub no_ok : {X E : Type 0} (e : E) (x : X) → ◌≡◌ {A = Result X E} (Err e) (Ok x) → ⊥
no_ok e x h = let z : ◌≡◌ {A = ℕ} 0 1 = cc in omega arith

pub same_ok : {X E : Type 0} (x y : X) → ◌≡◌ {A = Result X E} (Ok x) (Ok y) → x ≡ y
same_ok x y h = cc

pub same_err : {X E : Type 0} (d e : E) → ◌≡◌ {A = Result X E} (Err d) (Err e) → d ≡ e
same_err d e h = cc

-- what stands in place of a value that is not there
pub or_err : {X E : Type 0} (o : Option X) (e d : E) → Err d ≡ ok_or o e → d ≡ e
or_err (Some x) e d h = absurd (no_ok d x h)
or_err None e d h = cc

pub bind_ok : {X Y E : Type 0} (r : Result X E) (then : X → Result Y E) (y : Y) → (r >>= then) ≡ Ok y → (x : X) × (r ≡ Ok x) × (then x ≡ Ok y)
bind_ok (Ok x) then y h = (x, refl, h)
bind_ok (Err e) then y h = absurd (no_ok e y h)

-- a test that refuses was not met
pub let_by : {X E : Type 0} (b : Bool) (e : E) (r : Result X E) (x : X) → cond b (Err e) r ≡ Ok x → (b ≡ false) × (r ≡ Ok x)
let_by true e r x h = absurd (no_ok e x h)
let_by false e r x h = (refl, h)

-- a test without which is refused was met
pub let_in : {X E : Type 0} (b : Bool) (e : E) (r : Result X E) (x : X) → cond b r (Err e) ≡ Ok x → (b ≡ true) × (r ≡ Ok x)
let_in true e r x h = (refl, h)
let_in false e r x h = absurd (no_ok e x h)
