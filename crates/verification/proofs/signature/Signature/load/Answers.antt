use Rattle.std.proofs.Common.{ℕ}
use Rattle.packing.specs.Packed.{width}
use Rattle.wire.specs.Layout.{part}
use Rattle.wire.specs.Located.{start_of, elements_of}
use Rattle.verification.proofs.Loaded.{loaded}
use Rattle.verification.proofs.Vectors.{vector_codes}
use Rattle.verification.proofs.signature.Signature.load.Goals as goal

pub returns-clause-codes : goal.returns-clause-codes
returns-clause-codes g c =
    let set = c.args.self.now.set in
    let q : ℕ = g.F.Field.coding.q in
    let b : ℕ = g.F.Field.coding.bits in
    loaded q b (elements_of set.set c.args.kind) c.load.new.out (part c.args.self.now.bytes.now (start_of b set.set c.args.kind c.args.round) (width b (elements_of set.set c.args.kind)))
    (rw (c.load.ensures, c.packed.ensures.value, c.layout.ensures.set, c.layout.ensures.bits, c.requires.out))
    (vector_codes q b set.set c.args.self.now.bytes.now set.good g.met.F.Field.coded.some c.args.self.now.lawful c.args.kind c.args.round c.requires.round)
