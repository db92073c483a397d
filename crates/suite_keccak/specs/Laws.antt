-- The Keccak suite's functions give bytes, and its digest 32 of them.
use Rattle.std.specs.Prelude.{◌∷◌}
use Rattle.sha3.proofs.Laws.{sha3_256_length, sha3_256_bytes, shake128_byte_below}
use Rattle.suite.specs.Meaning.{Lawful}
use Rattle.suite_keccak.specs.Hashes.{keccak_meaning}

pub keccak_lawful : Lawful keccak_meaning
keccak_lawful = record {
  digest_long = λ l x. sha3_256_length (l ∷ x);
  digest_byte = λ l x k. sha3_256_bytes (l ∷ x) k;
  stream_byte = λ l x k. shake128_byte_below (l ∷ x) k;
}
