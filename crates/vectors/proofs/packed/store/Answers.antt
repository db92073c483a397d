use Rattle.vectors.proofs.Stored.{codes_first}
use Rattle.vectors.proofs.packed.store.Goals as goal

pub write-requires-clause-codes : goal.write-requires-clause-codes
write-requires-clause-codes g c = codes_first g.F.Field.coding.q c.encoding.result.order c.args.v.now c.encoding.ensures.order c.requires.codes
