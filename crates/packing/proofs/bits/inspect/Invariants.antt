use Rattle.std.proofs.Common.{◌≤◌}
use Rattle.packing.specs.Packed.{elements, first_not}
use Rattle.packing.proofs.Reading.{Reading}
use Rattle.packing.proofs.bits.inspect.Given as goal

abbrev pub invariant-loop-i : goal.invariant-loop-i
invariant-loop-i l = record {
  reading : Reading l.encoding.bits l.k l.bytes l.i l.reader.number l.reader.left;
  codes : l.i ≤ first_not l.encoding.order (elements l.encoding.bits l.k l.bytes);
}
