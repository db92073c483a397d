use Rattle.std.proofs.Common.{◌≡◌, length, take}
use Rattle.packing.specs.Packed.{elements}
use Rattle.packing.proofs.Reading.{Reading}
use Rattle.packing.proofs.bits.read.Given as goal

abbrev pub invariant-loop-x : goal.invariant-loop-x
invariant-loop-x l = record {
  reading : Reading l.encoding.bits (length l.initial.out) l.bytes l.x-index l.reader.number l.reader.left;
  written : take l.x-index l.out ≡ take l.x-index (elements l.encoding.bits (length l.initial.out) l.bytes);
}
