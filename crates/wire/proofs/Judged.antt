-- The first refusal of all vectors is the earliest thing wrong with the whole signature.
use Rattle.std.proofs.Common.{◌≡◌, ℕ, ◌+◌, ◌<◌, ◌≤◌, ◌⊎◌, List, [], ◌∷◌, Ok, Err, Result, refl, subst, inl, inr, arith}
use Rattle.std.specs.List.{AllByRecursion}
use Rattle.refusal.specs.declared.Refusal.{Refusal}
use Rattle.refusal.specs.Outcome.{and_then}
use Rattle.packing.specs.Packed.{width}
use Rattle.packing.specs.Laws.{Judges}
use Rattle.packing.proofs.Earliest.{judged, byte_last}
use Rattle.packing.proofs.Widths.{width_some}
use Rattle.wire.specs.Layout.{part, WrongAt, vector_check_at, scan_from}

-- the same things wrong, in other words
pub judges_same : {V W : ℕ → ℕ → Type 0} (r : Result (Unit {0}) Refusal) → ((n p : ℕ) → V n p → W n p) → ((n p : ℕ) → W n p → V n p) → Judges V r → Judges W r
judges_same (Ok x) f g j = λ n p w. j n p (g n p w)
judges_same (Err e) f g j = record { wrong = f _ _ j.wrong; least = λ n p w. j.least n p (g n p w) }

-- a vector of k elements at byte o is one of those that lie from `at` on
abbrev pub Among : ℕ → ℕ → List ℕ → ℕ → ℕ → Type 0
Among b at [] o k = ⊥
Among b at (l ∷ ls) o k = ((o ≡ at) × (k ≡ l)) ⊎ Among b (at + width b l) ls o k

module _ (q b : ℕ) (sig : List ℕ) (some : 1 ≤ b) where
  -- something is wrong with one of them
  abbrev pub In : ℕ → List ℕ → ℕ → ℕ → Type 0
  In at ks number place = (o : ℕ) × ((k : ℕ) × (Among b at ks o k × WrongAt q b sig o k number place))

  -- a fault of a vector lies in its bytes
  from : (o k n p : ℕ) → WrongAt q b sig o k n p → o ≤ p
  from o k n p (inl w) = omega (arith, w.1.3)
  from o k n p (inr w) = omega (arith, w.2)

  until : (o k n p : ℕ) → 1 ≤ k → WrongAt q b sig o k n p → p < o + width b k
  until o k n p h (inl w) = omega (arith, w.1.3, byte_last b w.1.0 k some w.1.1, width_some b k some h)
  until o k n p h (inr w) = omega (arith, w.2, width_some b k some h)

  later : (at : ℕ) (ks : List ℕ) (o k : ℕ) → Among b at ks o k → at ≤ o
  later at [] o k a = absurd a
  later at (l ∷ ls) o k (inl e) = omega (arith, e.0)
  later at (l ∷ ls) o k (inr a) = omega (arith, later (at + width b l) ls o k a)

  all_from : (at : ℕ) (ks : List ℕ) (n p : ℕ) → In at ks n p → at ≤ p
  all_from at ks n p w = omega (arith, later at ks w.0 w.1.0 w.1.1.0, from w.0 w.1.0 n p w.1.1.1)

  -- a fault of the first vector, or of one behind it
  first_in : (at k : ℕ) (ks : List ℕ) (n p : ℕ) → WrongAt q b sig at k n p → In at (k ∷ ks) n p
  first_in at k ks n p w = (at, (k, (inl (refl, refl), w)))

  rest_in : (at k : ℕ) (ks : List ℕ) (n p : ℕ) → In (at + width b k) ks n p → In at (k ∷ ks) n p
  rest_in at k ks n p w = (w.0, (w.1.0, (inr w.1.1.0, w.1.1.1)))

  one_of : (at k : ℕ) (ks : List ℕ) (n p : ℕ) → In at (k ∷ ks) n p → WrongAt q b sig at k n p ⊎ In (at + width b k) ks n p
  one_of at k ks n p w =
      elim w.1.1.0 [
        | inl e ↦ inl (subst (λ (x : ℕ). WrongAt q b sig x k n p) e.0 (subst (λ (x : ℕ). WrongAt q b sig w.0 x n p) e.1 w.1.1.1))
        | inr a ↦ inr (w.0, (w.1.0, (a, w.1.1.1)))
      ]

  step : (at k : ℕ) (ks : List ℕ) → 1 ≤ k → (r : Result (Unit {0}) Refusal) → Judges (WrongAt q b sig at k) r
      → Judges (In (at + width b k) ks) (scan_from q b sig (at + width b k) ks)
      → Judges (In at (k ∷ ks)) (and_then r (λ _. scan_from q b sig (at + width b k) ks))
  step at k ks h (Err e) j rest = record {
    wrong = first_in at k ks _ _ j.wrong;
    least = λ n p w. elim (one_of at k ks n p w) [
      | inl u ↦ j.least n p u
      | inr u ↦ inl (omega (arith, until at k _ _ h j.wrong, all_from (at + width b k) ks n p u))
    ];
  }
  step at k ks h (Ok x) j rest =
      judges_tail (scan_from q b sig (at + width b k) ks) rest
    where
      judges_tail : (r : Result (Unit {0}) Refusal) → Judges (In (at + width b k) ks) r → Judges (In at (k ∷ ks)) r
      judges_tail r i = judges_same r (rest_in at k ks) (λ n p w. elim (one_of at k ks n p w) [ inl u ↦ absurd (j n p u) | inr u ↦ u ]) i

  pub judged_scan : (at : ℕ) (ks : List ℕ) → AllByRecursion (λ k. 1 ≤ k) ks → Judges (In at ks) (scan_from q b sig at ks)
  judged_scan at [] a = λ n p w. w.1.1.0
  judged_scan at (k ∷ ks) a =
      step at k ks a.0 (vector_check_at q b sig at k) (judged q b k (part sig at (width b k)) at some) (judged_scan (at + width b k) ks a.1)
