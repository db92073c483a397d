-- The field of 31 elements: the integers modulo 31, five bits each.
use Rattle.std.specs.Prelude.{ℕ, ◌+◌, ◌-◌, ◌*◌, ◌%◌, ◌^◌}
use Rattle.field.specs.Ring.{Ops}
use Rattle.field.specs.Coding.{Coding}

abbrev pub ops31 : Ops ℕ
ops31 = record { nil = 0; one = 1; add = λ a b. (a + b) % 31; neg = λ a. (31 - a) % 31; mul = λ a b. (a * b) % 31 }

-- a to the power 29, since a to the power 30 is 1
abbrev pub inv31 : ℕ → ℕ
inv31 a = a ^ 29 % 31

-- a term is a whole number of which the remainder is meant, at most 2·30·30
abbrev pub coding31 : Coding
coding31 = record { q = 31; bits = 5; ops = ops31; inv = inv31; stands = λ t. t % 31; limit = 1801 }
