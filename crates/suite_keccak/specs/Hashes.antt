-- The two functions of the Keccak suite.
use Rattle.std.specs.Prelude.{◌∷◌}
use Rattle.sha3.specs.Hash.{sha3_256_of, shake128_byte}
use Rattle.suite.specs.Meaning.{Meaning}

-- d is SHA3-256 of label ‖ X, and byte k of the stream is that of SHAKE128 of label ‖ seed
abbrev pub keccak_meaning : Meaning
keccak_meaning = record { d = λ label x. sha3_256_of (label ∷ x); e = λ label seed k. shake128_byte (label ∷ seed) k }
