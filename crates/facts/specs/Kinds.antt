-- Kinds of facts.
use Rattle.std.specs.Prelude.{ℕ, cond, ℤ, pos, negsuc, Some, None, Option, nat_lt}

-- the kind that a number means: from 0 to 63
abbrev pub kind_of : ℤ → Option ℕ
kind_of (pos n) = cond (nat_lt n 64) (Some n) None
kind_of (negsuc n) = None
