-- What an answer about room says of what there is too little of.
use Rattle.std.proofs.Common.{◌≡◌, ℕ, Some, None, Ok, Err, Option, Result, sym, refl, ap, arith}
use Rattle.machine.specs.declared.answer_types.Shortage.{Shortage}
use Rattle.engine.specs.Room.{room}

no_ok : {X : Type 0} (e : Shortage) (x : X) → ◌≡◌ {A = Result X Shortage} (Err e) (Ok x) → ⊥
no_ok e x h = let z : ◌≡◌ {A = ℕ} 0 1 = cc in omega arith

pub room_full : (o : Option Shortage) (e : Shortage) → Err e ≡ room o → Some e ≡ o
room_full None e h = absurd (no_ok e tt h)
room_full (Some d) e h = let same : e ≡ d = cc in ap Some same

pub room_free : (o : Option Shortage) → Ok tt ≡ room o → None ≡ o
room_free None h = refl
room_free (Some d) h = absurd (no_ok d tt (sym h))
