-- The laws over a ring.
use Rattle.field.specs.Ring.{Ops, Laws}
use Rattle.algebra.specs.Laws.{Linear, Completes, Extracts, whole_ring}
use Rattle.algebra.proofs.Vectors.{G_add, G_scale, reopen, complete, extract}

module _ {A : Type 0} {o : Ops A} (L : Laws o) where
  pub ring_linear : Linear o (whole_ring o)
  ring_linear = record { sums = λ m n cs x z y hc hx hz hy. G_add L m n cs x z y; multiples = λ m n cs a x y hc ha hx hy. G_scale L m n cs a x y }

  pub ring_completes : Completes o (whole_ring o)
  ring_completes m n cs α s r0 t0 e0 hc ha hs hr ht he = record {
    first = reopen L n α r0 t0 ht;
    value = reopen L m α _ e0 he;
    second = complete L m n cs α s r0 t0 e0;
  }

  pub ring_extracts : Extracts o (whole_ring o)
  ring_extracts m n cs α β v r0 r1 t e t' e' hc ha hb d hv h0 h1 ht he ht' he' g =
      extract L m n cs α β d.0 v r0 r1 t t' e e' hv d.1 g.first g.value g.second
