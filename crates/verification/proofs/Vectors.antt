-- In a lawful signature every vector is one of codes.
use Rattle.std.proofs.Common.{◌≡◌, ℕ, ◌<◌, ◌≤◌, true, List, Ok}
use Rattle.field.specs.Codes.{Codes}
use Rattle.packing.specs.Packed.{width, elements}
use Rattle.params.specs.declared.Set.{Set}
use Rattle.params.specs.Sets.{good}
use Rattle.wire.specs.declared.locate.Kind.{Kind}
use Rattle.wire.specs.declared.locate.Kind.TheVariants.{T1, E1, Response}
use Rattle.wire.specs.Layout.{part, scanned}
use Rattle.wire.specs.Located.{start_of, elements_of}
use Rattle.scheme.proofs.Lawfuls.{scanned_codes}

module _ (q b : ℕ) (set : Set) (sig : List ℕ) (fine : good set ≡ true) (some : 1 ≤ b) (lawful : scanned q b set sig ≡ Ok tt) where
  pub vector_codes : (kind : Kind) (i : ℕ) → i < set.r → Codes q (elements b (elements_of set kind) (part sig (start_of b set kind i) (width b (elements_of set kind))))
  vector_codes T1 i l = (scanned_codes q b set sig fine some lawful i l).t
  vector_codes E1 i l = (scanned_codes q b set sig fine some lawful i l).e
  vector_codes Response i l = (scanned_codes q b set sig fine some lawful i l).r
