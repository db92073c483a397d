-- The flat suite's functions give bytes, and its digest 32 of them.
use Rattle.std.specs.Prelude.{ℕ, ◌+◌, ◌%◌, ◌<◌, replicate, slice_index}
use Rattle.std.proofs.Common.{arith}
use Rattle.std.proofs.lemmas.List.{get_or-replicate, length-replicate}
use Rattle.suite.proofs.Bytes.{byte_anywhere}
use Rattle.suite.specs.Meaning.{Lawful}
use Rattle.suite_bench.specs.Laws.{bench_lawful}
use Rattle.suite_flat.specs.Flat.{flat_meaning}

below : (x k : ℕ) → slice_index (replicate 32 (x % 256)) k < 256
below x = byte_anywhere (replicate 32 (x % 256)) (λ k h. omega (arith, get_or-replicate 32 k (x % 256) 0 h))

pub flat_lawful : (shift : ℕ) → Lawful (flat_meaning shift)
flat_lawful shift = record {
  digest_long = λ l x. length-replicate 32 ((l + shift) % 256);
  digest_byte = λ l x k. below (l + shift) k;
  stream_byte = bench_lawful.stream_byte;
}
