-- The vector that holds a byte, by quotient and remainder.
use Rattle.std.proofs.Common.{◌≡◌, ℕ, ◌+◌, ◌-◌, ◌*◌, ◌/◌, ◌%◌, ◌<◌, ◌≤◌, arith}
use Rattle.std.proofs.lemmas.Nat.{div-add-mod', mod_below, mul-le}
use Rattle.packing.specs.Packed.{width}
use Rattle.packing.proofs.Widths.{width_some}
use Rattle.params.specs.declared.Set.{Set}
use Rattle.params.proofs.Bounds.{Bounds}
use Rattle.wire.specs.declared.locate.Kind.{Kind}
use Rattle.wire.specs.declared.locate.Vector.{Vector}
use Rattle.wire.specs.declared.locate.Kind.TheVariants.{T1, E1, Response}
use Rattle.wire.specs.Layout.{response_at}
use Rattle.wire.specs.Located.{start_of, elements_of, Lies, Found}

module _ (b : ℕ) (s : Set) (place : ℕ) (some : 1 ≤ b) (k : Bounds s) where
  abbrev of_n : ℕ
  of_n = width b s.n

  abbrev both : ℕ
  both = of_n + width b s.m

  pub n_some : 1 ≤ of_n
  n_some = width_some b s.n some k.some_n

  -- among the first vectors
  module _ (h : 64 ≤ place) where
    abbrev round : ℕ
    round = (place - 64) / both

    whole : round * both + (place - 64) % both ≡ place - 64
    whole = div-add-mod' (place - 64) both

    rest : (place - 64) % both < both
    rest = mod_below (place - 64) both (omega (arith, n_some))

    pub in_t1 : round < s.r → (place - 64) % both < of_n → Lies b s place T1 round
    in_t1 l m = record { round = l; from = omega (arith, whole); until = omega (arith, whole) }

    pub in_e1 : round < s.r → of_n ≤ (place - 64) % both → Lies b s place E1 round
    in_e1 l m = record { round = l; from = omega (arith, whole); until = omega (arith, whole, rest) }

    pub behind_all : s.r ≤ round → response_at b s 0 ≤ place
    behind_all l = omega (arith, whole, mul-le s.r both round both l (omega arith))

  -- among the responses
  module _ (h : response_at b s 0 ≤ place) where
    abbrev late : ℕ
    late = place - response_at b s 0

    abbrev turn : ℕ
    turn = late / of_n

    whole_late : turn * of_n + late % of_n ≡ late
    whole_late = div-add-mod' late of_n

    pub in_response : turn < s.r → Lies b s place Response turn
    in_response l = record {
      round = l;
      from = omega (arith, whole_late);
      until = omega (arith, whole_late, mod_below late of_n (omega (arith, n_some)));
    }

    -- no vector lies behind them
    pub in_none : s.r ≤ turn → (v : Kind) (i : ℕ) → Lies b s place v i → ⊥
    in_none l T1 i p = omega (arith, p.until, mul-le (i + 1) both s.r both (omega (arith, p.round)) (omega arith))
    in_none l E1 i p = omega (arith, p.until, mul-le (i + 1) both s.r both (omega (arith, p.round)) (omega arith))
    in_none l Response i p =
        omega (arith, p.until, whole_late, mul-le (i + 1) of_n s.r of_n (omega (arith, p.round)) (omega arith), mul-le s.r of_n turn of_n l (omega arith))

-- nor before the first
pub in_front : (b : ℕ) (s : Set) (place : ℕ) → place < 64 → (v : Kind) (i : ℕ) → Lies b s place v i → ⊥
in_front b s place h T1 i p = omega (arith, p.from)
in_front b s place h E1 i p = omega (arith, p.from)
in_front b s place h Response i p = omega (arith, p.from)

-- the vector of a kind and a round, where the byte lies in it
pub found : {b : ℕ} {s : Set} {place : ℕ} {k : Kind} {i : ℕ} (v : Vector) → v.kind ≡ k → v.round ≡ i → v.at ≡ start_of b s k i → v.elements ≡ elements_of s k → Lies b s place k i → Found b s place v
found v e f at elements l = record {
  lies = rw (e, f) l;
  at = rw (e, f) at;
  elements = rw e elements;
}

-- the same of widths and starts that a program worked out
module _ (b : ℕ) (s : Set) (place : ℕ) (some : 1 ≤ b) (k : Bounds s) where
  module _ (p q : ℕ) (e : p ≡ width b s.n) (f : q ≡ width b s.m) (h : 64 ≤ place) where
    pub lies_t1 : (place - 64) / (p + q) < s.r → (place - 64) % (p + q) < p → Lies b s place T1 ((place - 64) / (p + q))
    lies_t1 l m = rw (e, f) (in_t1 b s place some k h (rw (e, f) at l) (rw (e, f) at m))

    pub lies_e1 : (place - 64) / (p + q) < s.r → p ≤ (place - 64) % (p + q) → Lies b s place E1 ((place - 64) / (p + q))
    lies_e1 l m = rw (e, f) (in_e1 b s place some k h (rw (e, f) at l) (rw (e, f) at m))

    pub first_behind : s.r ≤ (place - 64) / (p + q) → response_at b s 0 ≤ place
    first_behind l = behind_all b s place some k h (rw (e, f) at l)

  module _ (o w : ℕ) (e : o ≡ response_at b s 0) (f : w ≡ width b s.n) (h : response_at b s 0 ≤ place) where
    pub lies_response : (place - o) / w < s.r → Lies b s place Response ((place - o) / w)
    lies_response l = rw (e, f) (in_response b s place some k h (rw (e, f) at l))

    pub lies_nowhere : s.r ≤ (place - o) / w → (v : Kind) (i : ℕ) → Lies b s place v i → ⊥
    lies_nowhere l = in_none b s place some k h (rw (e, f) at l)
