-- The vectors of a signature: t1 and e1 of every round, then the response of every round, without gaps from byte 64 on.
use Rattle.std.specs.Prelude.{ℕ, zero, suc, ◌+◌, ◌*◌, ◌<◌, ◌⊎◌, List, [], ◌∷◌, ◌++◌, length, take, drop, replicate, Ok, Result, ◌==◌}
use Rattle.refusal.specs.declared.Refusal.{Refusal}
use Rattle.refusal.specs.declared.Refusal.TheVariants.{SignatureLength}
use Rattle.refusal.specs.Outcome.{and_then, unless}
use Rattle.packing.specs.Packed.{width, fault, refusing, signature_refusal_of}
use Rattle.packing.specs.Laws.{Wrong}
use Rattle.params.specs.declared.Set.{Set}
use Rattle.params.specs.Sets.{set_of}
use Rattle.params.specs.Sizes.{signature_length}

-- w bytes from `at` on
abbrev pub part : List ℕ → ℕ → ℕ → List ℕ
part bytes at w = take w (drop at bytes)

-- where t1, e1 and the response of round i begin, with elements of b bits
module _ (b : ℕ) (s : Set) where
  abbrev pub t1_at : ℕ → ℕ
  t1_at i = 64 + i * (width b s.n + width b s.m)

  abbrev pub e1_at : ℕ → ℕ
  e1_at i = t1_at i + width b s.n

  abbrev pub response_at : ℕ → ℕ
  response_at i = 64 + s.r * (width b s.n + width b s.m) + i * width b s.n

-- what is wrong with the vector of k elements at byte `at`
abbrev pub WrongAt : ℕ → ℕ → List ℕ → ℕ → ℕ → ℕ → ℕ → Type 0
WrongAt q b sig at k number place = Wrong q b at k (part sig at (width b k)) number place

-- what is wrong with a signature: some vector of some round
abbrev pub Faulty : ℕ → ℕ → Set → List ℕ → ℕ → ℕ → Type 0
Faulty q b s sig number place =
    (i : ℕ) × (i < s.r)
    × (WrongAt q b sig (t1_at b s i) s.n number place
    ⊎ (WrongAt q b sig (e1_at b s i) s.m number place
    ⊎ WrongAt q b sig (response_at b s i) s.n number place))

-- the refusal of the vector of k elements at byte `at`
abbrev pub vector_check_at : ℕ → ℕ → List ℕ → ℕ → ℕ → Result (Unit {0}) Refusal
vector_check_at q b sig at k = refusing (signature_refusal_of b at k) (fault q b k (part sig at (width b k)))

-- the first refusal of vectors that lie one behind the other
abbrev pub scan_from : ℕ → ℕ → List ℕ → ℕ → List ℕ → Result (Unit {0}) Refusal
scan_from q b sig at [] = Ok tt
scan_from q b sig at (k ∷ ks) = and_then (vector_check_at q b sig at k) (λ _. scan_from q b sig (at + width b k) ks)

-- the elements of t1 and e1 of r rounds
abbrev pub firsts : ℕ → ℕ → ℕ → List ℕ
firsts n m zero = []
firsts n m (suc r) = n ∷ (m ∷ firsts n m r)

-- the elements of each vector, in their order
abbrev pub vectors : Set → List ℕ
vectors s = firsts s.n s.m s.r ++ replicate s.r s.n

abbrev pub scanned : ℕ → ℕ → Set → List ℕ → Result (Unit {0}) Refusal
scanned q b s sig = scan_from q b sig 64 (vectors s)

-- set, length, vectors
abbrev pub vectors_of : ℕ → ℕ → Set → List ℕ → Result (Unit {0}) Refusal
vectors_of q b s sig =
    and_then (set_of s) (λ _.
    and_then (unless (length sig == signature_length b s) SignatureLength) (λ _.
    scanned q b s sig))
