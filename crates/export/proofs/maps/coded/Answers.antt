-- The fold is the test of all entries.
use Rattle.std.proofs.Common.{◌≡◌, ◌&&◌, true, ltb, sym, ◌∙◌, rules, tests}
use Rattle.std.proofs.lemmas.Iterator.{YieldsList-from_slice}
use Rattle.std.proofs.lemmas.Iterator.Consumers.{fold_from_yields_List}
use Rattle.export.specs.Maps.{coded}
use Rattle.export.proofs.Codes.{fold-coded, codes_of_lem, is_true}
use Rattle.export.proofs.maps.coded.Goals as goal

pub returns : goal.returns
returns c =
    let e : c.fold.result ≡ coded c.args.v.now =
    fold_from_yields_List _ (λ a x. a && ltb x 31) true c.fold.result c.fold.ensures.ran (YieldsList-from_slice c.args.v.now cc) (λ a x b q k. search (rules, tests))
    ∙ fold-coded true c.args.v.now in
    record { value = e; codes = λ t. codes_of_lem c.args.v.now (sym e ∙ is_true c.fold.result t) }
