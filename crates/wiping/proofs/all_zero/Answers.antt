use Rattle.std.proofs.Common.{◌≡◌, map, sym, ap, ◌∙◌, rules}
use Rattle.std.specs.List.{fold}
use Rattle.std.proofs.lemmas.List.Folds.{fold-map}
use Rattle.wiping.proofs.Folds.{of_zeros, all_zeros}
use Rattle.wiping.proofs.all_zero.Goals as goal

pub returns : goal.returns
returns g c =
    let e : c.fold.result ≡ fold (λ a y. g.T.Zero.or a y.now) c.ZERO.result c.fold.ensures.runs.0.items = c.fold.ensures.runs.3 (λ a y. g.T.Zero.or a y.now) (λ x y r f' h. search rules) in
    let all : map (λ y. y.now) c.fold.ensures.runs.0.items ≡ c.args.items.now = search rules in
    let folded : c.fold.result ≡ fold g.T.Zero.or g.T.Zero.ZERO c.args.items.now =
    e ∙ sym (fold-map g.T.Zero.or (λ y. y.now) c.ZERO.result c.fold.ensures.runs.0.items) ∙ ap (fold g.T.Zero.or c.ZERO.result) all
    ∙ ap (λ z. fold g.T.Zero.or z c.args.items.now) c.ZERO.ensures in
    let tested : c.eq.result ≡ g.T.PartialEq.eq c.fold.result g.T.Zero.ZERO = c.eq.ensures ∙ ap (g.T.PartialEq.eq c.fold.result) c.ZERO-2.ensures in
    let law = g.met.T.Zero in
    record {
      zeros = λ e. tested ∙ (law.equal c.fold.result).1 (folded ∙ of_zeros g.T.Zero.ZERO g.T.Zero.or (sym ((law.gives g.T.Zero.ZERO g.T.Zero.ZERO g.T.Zero.ZERO).0 law.both)) c.args.items.now e);
      only = λ e. all_zeros g.T.Zero.ZERO g.T.Zero.or
          (λ x y z. law.left x y ((law.gives x y g.T.Zero.ZERO).1 (sym z)))
          (λ x y z. law.right x y ((law.gives x y g.T.Zero.ZERO).1 (sym z)))
          g.T.Zero.ZERO c.args.items.now (sym folded ∙ (law.equal c.fold.result).0 (sym tested ∙ e));
    }
