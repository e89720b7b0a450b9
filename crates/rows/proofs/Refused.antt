-- What a refusal names, through a chain of checks.
use Rattle.std.proofs.Common.{◌≡◌, ℕ, ◌≤◌, Bool, true, false, cond, leb, Ok, Err, Result}
use Rattle.std.proofs.lemmas.Bool.{le-leb, and_from}
use Rattle.rows.specs.Refusals.{◌>>=◌, names_field, RefusedSo}

pub refused_bind : {X Y E : Type 0} (such : E → Bool) (o : Result X E) (k : X → Result Y E) → RefusedSo such o → ((x : X) → RefusedSo such (k x)) → RefusedSo such (o >>= k)
refused_bind such (Ok x) k t f = f x
refused_bind such (Err r) k t f = t

pub refused_cond : {X E : Type 0} (such : E → Bool) (b : Bool) (o q : Result X E) → RefusedSo such o → RefusedSo such q → RefusedSo such (cond b o q)
refused_cond such true o q s t = s
refused_cond such false o q s t = t

pub within : (width field : ℕ) → 1 ≤ field → field ≤ width → names_field width field ≡ true
within width field low high = and_from (leb 1 field) (leb field width) (le-leb 1 field low) (le-leb field width high)
