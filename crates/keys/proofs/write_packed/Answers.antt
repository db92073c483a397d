use Rattle.std.proofs.Common.{◌≡◌, ◌++◌, length, ◌∙◌, ap₂, arith}
use Rattle.vectors.proofs.Stored.{two_parts}
use Rattle.keys.proofs.write_packed.Goals as goal

pub returns : goal.returns
returns g c =
    let seed : length c.copy_from_slice.new.self ≡ 32 = omega arith in
    two_parts c.copy_from_slice.new.self _ c.store.new.out 32 seed
    ∙ ap₂ ◌++◌ c.copy_from_slice.ensures.after (search (c.store.ensures, c.evaluate.ensures.value))
