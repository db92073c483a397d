-- A refusal tells the earliest fault, and what has none is accepted.
use Rattle.std.proofs.Common.{◌≡◌, ℕ, ◌+◌, ◌-◌, ◌*◌, ◌^◌, ◌<◌, ◌≤◌, Bool, true, false, cond, eqb, ltb, ◌⊎◌, List, length, get_or, Ok, Err, refl, inl, inr, arith}
use Rattle.std.proofs.lemmas.Nat.{mul-le}
use Rattle.std.proofs.lemmas.Bool.{eqb-true, eqb-false, ltb-true, ltb-false, cases_lt}
use Rattle.packing.specs.Numeral.{amount}
use Rattle.packing.specs.Packed.{elements, width, byte_of, pad, first_not, fault, refusing, signature_refusal_of, key_refusal_of}
use Rattle.packing.specs.declared.fault.Fault.TheVariants.{Element, Pad}
use Rattle.packing.specs.Laws.{Wrong, KeyWrong, Judges}
use Rattle.packing.proofs.Numerals.{length_digits}
use Rattle.packing.proofs.Firsts.{first_is, first_least}

-- the smaller place, and at one place the smaller number
pub order : (a b m n : ℕ) → a ≤ b → m ≤ n → (a < b) ⊎ ((a ≡ b) × (m ≤ n))
order a b m n h l = elim (cases_lt a b) [ inl lt ↦ inl lt | inr ge ↦ inr (omega arith, l) ]

-- an earlier element begins no later, and within the vector
byte_mono : (b i j : ℕ) → i ≤ j → byte_of b i ≤ byte_of b j
byte_mono b i j h = omega (arith, mul-le b i b j (omega arith) h)

pub byte_last : (b i k : ℕ) → 1 ≤ b → i < k → byte_of b i ≤ width b k - 1
byte_last b i k some h =
    let m : b * (i + 1) ≤ b * k = mul-le b (i + 1) b k (omega arith) (omega arith) in
    omega arith

module _ (q b k : ℕ) (bytes : List ℕ) where
  abbrev at : ℕ
  at = first_not q (elements b k bytes)

  long : length (elements b k bytes) ≡ k
  long = length_digits (2 ^ b) k (amount 256 bytes)

  found : at < k → q ≤ get_or (elements b k bytes) at 0
  found h = first_is q (elements b k bytes) (omega (arith, long))

  least : (i : ℕ) → i < k → q ≤ get_or (elements b k bytes) i 0 → at ≤ i
  least i h g = first_least q (elements b k bytes) i (omega (arith, long)) g

  -- in a signature, where the vector begins at byte o
  module _ (o : ℕ) (some : 1 ≤ b) where
    told : (x : Bool) → ltb at k ≡ x → (y : Bool) → eqb (pad b k bytes) 0 ≡ y
        → Judges (Wrong q b o k bytes) (refusing (signature_refusal_of b o k) (cond x (Err (Element at)) (cond y (Ok tt) (Err Pad))))
    told true e y f =
        let lt : at < k = ltb-true at k e in
        record {
          wrong = inl (refl, (at, lt, found lt, refl));
          least = λ n p w. elim w [
            | inl u ↦ order (o + byte_of b at) p 10 n (omega (arith, byte_mono b at u.1.0 (least u.1.0 u.1.1 u.1.2), u.1.3)) (omega (arith, u.0))
            | inr u ↦ order (o + byte_of b at) p 10 n (omega (arith, byte_last b at k some lt, u.2)) (omega (arith, u.0))
          ];
        }
    told false e true f = λ n p w. elim w [
      | inl u ↦ omega (arith, least u.1.0 u.1.1 u.1.2, ltb-false at k e, u.1.1)
      | inr u ↦ u.1 (eqb-true (pad b k bytes) 0 f)
    ]
    told false e false f = record {
      wrong = inr (refl, eqb-false (pad b k bytes) 0 f, refl);
      least = λ n p w. elim w [
        | inl u ↦ absurd (omega (arith, least u.1.0 u.1.1 u.1.2, ltb-false at k e, u.1.1))
        | inr u ↦ order (o + (width b k - 1)) p 11 n (omega (arith, u.2)) (omega (arith, u.0))
      ];
    }

    pub judged : Judges (Wrong q b o k bytes) (refusing (signature_refusal_of b o k) (fault q b k bytes))
    judged = told (ltb at k) refl (eqb (pad b k bytes) 0) refl

  -- in a key
  told_key : (x : Bool) → ltb at k ≡ x → (y : Bool) → eqb (pad b k bytes) 0 ≡ y
      → Judges (KeyWrong q b k bytes) (refusing (key_refusal_of k) (cond x (Err (Element at)) (cond y (Ok tt) (Err Pad))))
  told_key true e y f =
      let lt : at < k = ltb-true at k e in
      record {
        wrong = (refl, inl (lt, found lt));
        least = λ n p w. elim w.1 [
          | inl u ↦ order at p 8 n (least p u.0 u.1) (omega (arith, w.0))
          | inr u ↦ order at p 8 n (omega (arith, u.0)) (omega (arith, w.0))
        ];
      }
  told_key false e true f = λ n p w. elim w.1 [
    | inl u ↦ omega (arith, least p u.0 u.1, ltb-false at k e, u.0)
    | inr u ↦ u.1 (eqb-true (pad b k bytes) 0 f)
  ]
  told_key false e false f = record {
    wrong = (refl, inr (refl, eqb-false (pad b k bytes) 0 f));
    least = λ n p w. elim w.1 [
      | inl u ↦ absurd (omega (arith, least p u.0 u.1, ltb-false at k e, u.0))
      | inr u ↦ order k p 8 n (omega (arith, u.0)) (omega (arith, w.0))
    ];
  }

  pub judged_key : Judges (KeyWrong q b k bytes) (refusing (key_refusal_of k) (fault q b k bytes))
  judged_key = told_key (ltb at k) refl (eqb (pad b k bytes) 0) refl
