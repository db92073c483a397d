-- Parameter sets: n variables and m equations, each 1 to 64, and r rounds, 1 to 269.
use Rattle.std.specs.Prelude.{Bool, ◌&&◌, Result, nat_le}
use Rattle.refusal.specs.declared.Refusal.{Refusal}
use Rattle.refusal.specs.declared.Refusal.TheVariants.{BadSet}
use Rattle.refusal.specs.Outcome.{unless}
use Rattle.params.specs.declared.Set.{Set}

abbrev pub good : Set → Bool
good s = nat_le 1 s.n && nat_le s.n 64 && nat_le 1 s.m && nat_le s.m 64 && nat_le 1 s.r && nat_le s.r 269

abbrev pub set_of : Set → Result (Unit {0}) Refusal
set_of s = unless (good s) BadSet
