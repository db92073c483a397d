-- Which suite has a name, and which a number.
use Rattle.std.specs.Prelude.{◌≡◌, ◌≢◌, ℕ, cond, List, Ok, Err, Result, ◌==◌, codes}
use Rattle.suites.specs.declared.Named.{Named}
use Rattle.suites.specs.declared.Named.TheVariants.{Bench, Keccak}
use Rattle.suites.specs.declared.names.UnknownSuite.{UnknownSuite}

-- the suite of a name is r; no other name has one
pub record IsSuiteNamed (name : List ℕ) (r : Result Named UnknownSuite) : Type 0 where
  pub bench : name ≡ codes "bench" → r ≡ Ok Bench
  pub keccak : name ≡ codes "keccak" → r ≡ Ok Keccak
  pub other : name ≢ codes "bench" → name ≢ codes "keccak" → r ≡ Err (record {})

-- the suite of a number, as in the header of a bundle; no other number has one
abbrev pub numbered : ℕ → Result Named UnknownSuite
numbered n = cond (n == 0) (Ok Bench) (cond (n == 1) (Ok Keccak) (Err (record {})))
