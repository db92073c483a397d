-- A list of bytes gives a byte at every index: past its end the default 0 is read.
use Rattle.std.proofs.Common.{ℕ, ◌<◌, List, length, get_or, ⊎_elim, arith}
use Rattle.std.proofs.lemmas.List.{get_or_past}
use Rattle.std.proofs.lemmas.Bool.{cases_lt}

pub byte_anywhere : (xs : List ℕ) → ((k : ℕ) → k < length xs → get_or xs k 0 < 256) → (k : ℕ) → get_or xs k 0 < 256
byte_anywhere xs h k = ⊎_elim (λ l. h k l) (λ g. omega (arith, get_or_past xs k 0 g)) (cases_lt k (length xs))
