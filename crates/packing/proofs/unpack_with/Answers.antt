use Rattle.std.proofs.Common.{◌≡◌, ℕ, ◌<◌, List, length, sym, ap, ◌∙◌, arith, subst, Ok, Err, Result, true, refl}
use Rattle.std.specs.List.{AllByRecursion}
use Rattle.std.specs.Result.{is_ok}
use Rattle.std.proofs.ByRecursion.{All-from_get_or}
use Rattle.packing.specs.Packed.{width, elements, fault}
use Rattle.packing.specs.Laws.{Unpacks}
use Rattle.packing.proofs.Round.{unpacks}
use Rattle.packing.proofs.unpack_with.Goals as goal

only_ok : {E : Type 0} (r : Result (Unit {0}) E) → true ≡ is_ok r → r ≡ Ok tt
only_ok (Ok x) h = refl
only_ok (Err e) h = cc

pub returns-clause-law : goal.returns-clause-law
returns-clause-law g c =
    let q : ℕ = c.args.encoding.order in
    let b : ℕ = c.args.encoding.bits in
    let k : ℕ = length c.args.out.now in
    let bytes : List ℕ = c.args.bytes.now in
    let a : AllByRecursion (λ x. x < 256) bytes = All-from_get_or (λ x. x < 256) bytes 0 (λ i h. omega (arith, c.type_inv.bytes i)) in
    let long : length bytes ≡ width b k = c.if-bytes-width.false ∙ c.width.ensures.value ∙ ap (width b) c.fill.ensures.len in
    let made = c.read.ensures ∙ ap (λ (n : ℕ). elements b n bytes) c.fill.ensures.len in
    let ok : fault q b k bytes ≡ Ok tt = ap (λ (n : ℕ). fault q b n bytes) (sym c.fill.ensures.len) ∙ sym c.inspect.ensures ∙ only_ok c.inspect.result c.in_ok-map_err.ensures.variant in
    λ _. subst (Unpacks q b bytes) (sym made) (unpacks q b k bytes c.args.encoding.some c.args.encoding.fits a long ok)
